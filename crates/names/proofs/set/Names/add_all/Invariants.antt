use Rattle.std.proofs.Common.{◌≡◌, drop}
use Rattle.names.specs.Names.{with_names}
use Rattle.names.proofs.set.Names.add_all.Given as goal

-- the names so far, with those of the rest
abbrev pub invariant-loop-name : goal.invariant-loop-name
invariant-loop-name l = with_names l.self (drop l.name-index l.names) ≡ with_names l.fn.self l.names
