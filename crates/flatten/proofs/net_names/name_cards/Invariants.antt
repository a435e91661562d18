use Rattle.std.proofs.Common.{◌≡◌, [], drop}
use Rattle.names.specs.Names.{with_names}
use Rattle.flatten.specs.NetTables.{nets_named}
use Rattle.flatten.proofs.net_names.name_cards.Given as goal

-- the names so far, with those of the rest
abbrev pub invariant-loop-card : goal.invariant-loop-card
invariant-loop-card l = with_names l.names (nets_named (drop l.card-index l.cards)) ≡ with_names [] (nets_named l.cards)
