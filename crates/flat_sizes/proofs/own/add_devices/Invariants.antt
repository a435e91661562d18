use Rattle.std.proofs.Common.{◌≡◌, drop, flat_map}
use Rattle.flat_sizes.specs.Mentions.{card_nets}
use Rattle.names.specs.Names.{with_names}
use Rattle.flat_sizes.proofs.own.add_devices.Given as goal

-- the names so far, with those of the rest
abbrev pub invariant-loop-card : goal.invariant-loop-card
invariant-loop-card l = with_names l.names (flat_map card_nets (drop l.card-index l.cards)) ≡ with_names l.fn.names (flat_map card_nets l.cards)
