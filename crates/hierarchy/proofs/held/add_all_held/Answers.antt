use Rattle.std.proofs.Common.{arith}
use Rattle.hierarchy.proofs.HeldLaws.{none_held, turn_held}
use Rattle.hierarchy.proofs.held.add_all_held.Goals as goal

pub loop-rule-init : goal.loop-rule-init
loop-rule-init c = none_held c.args.cells.now c.args.sets.now.items c.requires

pub loop-rule-preserved : goal.loop-rule-preserved
loop-rule-preserved c =
    turn_held c.args.cells.now c.args.rules.now c.loop-rule.rule-index _ c.loop-rule.sets.items c.add_held.new.sets.items (omega arith) c.rule-item.is c.loop-rule.invariant c.in_ok-add_held.ensures
