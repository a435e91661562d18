use Rattle.std.proofs.Common.{◌≡◌, drop}
use Rattle.net_tables.specs.Names.{shared_in, with_owns}
use Rattle.net_tables.proofs.own.add_names.Given as goal

-- the own nets so far, with those of the rest
abbrev pub invariant-loop-name : goal.invariant-loop-name
invariant-loop-name l =
    with_owns (shared_in l.shared l.ports) l.own (drop l.name-index l.names) ≡ with_owns (shared_in l.shared l.ports) l.fn.own l.names
