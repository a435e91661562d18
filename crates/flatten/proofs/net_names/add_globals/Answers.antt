use Rattle.std.proofs.Common.{◌∙◌}
use Rattle.flatten.proofs.NetTurns.{globals_kept}
use Rattle.rule_index.specs.Tables.{supply_in}
use Rattle.flatten.proofs.net_names.add_globals.Goals as goal

pub returns : goal.returns
returns c =
    c.in_ok-add_all_named.ensures ∙ globals_kept (supply_in c.args.supplies.now) _ c.args.globals.now _ c.args.cards.now c.in_ok-name_cards.ensures
