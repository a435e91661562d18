use Rattle.std.proofs.Common.{◌≡◌, map, take}
use Rattle.net_tables.specs.Names.{instance_by}
use Rattle.net_tables.proofs.cards.all_instance_nets.Given as goal

-- those of the cards so far
abbrev pub invariant-loop-card : goal.invariant-loop-card
invariant-loop-card l = l.instances ≡ map (instance_by l.shared l.names) (take l.card-index l.cards)
