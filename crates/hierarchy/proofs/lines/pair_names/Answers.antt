use Rattle.std.proofs.Common.{arith}
use Rattle.vrt_model.specs.declared.rules.PairRule.{PairRule}
use Rattle.hierarchy.specs.Names.{line_of, missing_cell}
use Rattle.line_laws.proofs.LineLaws.{all_looked}
use Rattle.hierarchy.proofs.lines.pair_names.Goals as goal

pub returns : goal.returns
returns c = all_looked line_of (λ (r : PairRule). missing_cell c.args.tables.now r.line r.cell) c.loop-rule.rule-index c.args.rules.now _ (omega arith) c.loop-rule.invariant
