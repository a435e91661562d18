use Rattle.std.proofs.Common.{◌≡◌, ◌++◌, length}
use Rattle.std.specs.Prelude.{filter_map}
use Rattle.cell_writer.specs.Names.{input_name}
use Rattle.cell_writer.proofs.name_lists.add_inputs.Given as goal

-- the names so far, and what is left
abbrev pub invariant-roles : goal.invariant-roles
invariant-roles l = l.names.items ++ filter_map (input_name l.signals) l.left ≡ l.initial.names.items ++ filter_map (input_name l.signals) l.fn.roles

abbrev pub decreases-roles : goal.decreases-roles
decreases-roles l = length l.left
