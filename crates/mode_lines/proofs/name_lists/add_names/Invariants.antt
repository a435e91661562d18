use Rattle.std.proofs.Common.{◌≡◌, ◌++◌, length}
use Rattle.mode_lines.specs.Lists.{cut}
use Rattle.mode_lines.specs.NameLists.{lowered, some_empty}
use Rattle.mode_lines.proofs.name_lists.add_names.Given as goal

-- no empty piece so far, and the names so far with those of the pieces that are left
abbrev pub invariant-cuts : goal.invariant-cuts
invariant-cuts l = record {
  empty : some_empty (cut l.rest) ≡ some_empty (cut l.fn.list);
  names : l.names ++ lowered (cut l.rest) ≡ l.fn.names ++ lowered (cut l.fn.list);
}

abbrev pub decreases-cuts : goal.decreases-cuts
decreases-cuts l = length l.rest
