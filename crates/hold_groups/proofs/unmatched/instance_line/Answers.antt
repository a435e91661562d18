use Rattle.std.proofs.Common.{arith}
use Rattle.hold_groups.specs.Steps.{instance_line, number_of}
use Rattle.line_laws.proofs.LineLaws.{all_looked}
use Rattle.hold_groups.proofs.unmatched.instance_line.Goals as goal

pub returns : goal.returns
returns c = all_looked number_of (instance_line c.args.elements.now.list c.args.cell.now) c.loop-rule.rule-index c.args.rules.now _ (omega arith) c.loop-rule.invariant
