use Rattle.std.proofs.Common.{◌≡◌, ◌++◌, drop, filter, not}
use Rattle.vrt_model.specs.Lists.{has_name}
use Rattle.cell_writer.proofs.name_lists.add_others.Given as goal

-- the names so far, and what is left
abbrev pub invariant-loop-name : goal.invariant-loop-name
invariant-loop-name l =
    l.names.items ++ filter (λ name. not (has_name l.others name)) (drop l.name-index l.all) ≡ l.initial.names.items ++ filter (λ name. not (has_name l.others name)) l.all
