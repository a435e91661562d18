use Rattle.std.proofs.Common.{arith}
use Rattle.vrt_model.specs.declared.rules.MatchRule.{MatchRule}
use Rattle.hierarchy.specs.Names.{line_of, missing_held}
use Rattle.line_laws.proofs.LineLaws.{all_looked}
use Rattle.hierarchy.proofs.lines.match_names.Goals as goal

pub returns : goal.returns
returns c = all_looked line_of (λ (r : MatchRule). missing_held c.args.tables.now r.line r.cell r.net) c.loop-rule.rule-index c.args.rules.now _ (omega arith) c.loop-rule.invariant
