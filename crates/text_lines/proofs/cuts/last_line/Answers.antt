use Rattle.std.proofs.Common.{arith, ap, length}
use Rattle.text_lines.proofs.Splits.{one_line}
use Rattle.text_lines.proofs.cuts.last_line.Goals as goal

pub returns-in-Some-clause-line : goal.returns-in-Some-clause-line
returns-in-Some-clause-line c = (omega (arith, ap length c.in-Some.ensures.cases.0), one_line _ _ c.args.text.now c.in-Some.ensures.cases.0 c.requires)
