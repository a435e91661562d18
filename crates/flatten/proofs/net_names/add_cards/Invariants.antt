use Rattle.std.proofs.Common.{◌≡◌, drop}
use Rattle.flatten.specs.NetTables.{nets_named, with_nets}
use Rattle.rule_index.specs.Tables.{supply_in}
use Rattle.flatten.proofs.net_names.add_cards.Given as goal

-- the names so far, with those of the rest
abbrev pub invariant-loop-card : goal.invariant-loop-card
invariant-loop-card l =
    with_nets (supply_in l.supplies) l.names (nets_named (drop l.card-index l.cards)) ≡ with_nets (supply_in l.supplies) l.fn.names (nets_named l.cards)
