use Rattle.std.proofs.Common.{◌≡◌, map, take}
use Rattle.net_tables.specs.Names.{net_by}
use Rattle.net_tables.proofs.cards.nets.Given as goal

-- those of the names so far
abbrev pub invariant-loop-name : goal.invariant-loop-name
invariant-loop-name l = l.nets ≡ map (net_by l.shared l.names) (take l.name-index l.list)
