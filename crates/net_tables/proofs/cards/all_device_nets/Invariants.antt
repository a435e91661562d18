use Rattle.std.proofs.Common.{◌≡◌, map, take}
use Rattle.net_tables.specs.Names.{device_by}
use Rattle.net_tables.proofs.cards.all_device_nets.Given as goal

-- those of the cards so far
abbrev pub invariant-loop-card : goal.invariant-loop-card
invariant-loop-card l = l.devices ≡ map (device_by l.shared l.names) (take l.card-index l.cards)
