use Rattle.std.proofs.Common.{arith, ap, ◌∙◌}
use Rattle.flatten.proofs.NetTurns.{named_kept, named_on}
use Rattle.flatten.specs.NetTables.{with_named}
use Rattle.rule_index.specs.Tables.{supply_in}
use Rattle.flatten.proofs.net_names.add_all_named.Goals as goal

pub loop-name-preserved : goal.loop-name-preserved
loop-name-preserved c =
    named_on (supply_in c.args.supplies.now) c.args.named.now c.args.globals.now c.loop-name.name-index _ _ _ _ (omega arith) c.name-item.is
    (c.in_ok-add_named.ensures ∙ ap (with_named (supply_in c.args.supplies.now) c.args.named.now c.loop-name.names) c.as_bytes.ensures) c.loop-name.invariant

pub returns : goal.returns
returns c =
    named_kept (supply_in c.args.supplies.now) c.loop-name.name-index c.args.named.now c.args.globals.now c.loop-name.names _ (omega arith) c.loop-name.invariant
