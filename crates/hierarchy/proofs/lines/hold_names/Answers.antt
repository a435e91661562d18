use Rattle.std.proofs.Common.{arith}
use Rattle.vrt_model.specs.declared.rules.HoldRule.{HoldRule}
use Rattle.hierarchy.specs.Names.{line_of, missing_by}
use Rattle.hierarchy.specs.declared.sets.Kind.{Kind}
use Rattle.line_laws.proofs.LineLaws.{all_looked}
use Rattle.hierarchy.proofs.lines.hold_names.Goals as goal

pub returns : goal.returns
returns c = all_looked line_of (λ (r : HoldRule). missing_by c.args.tables.now Kind.Nets r.line r.cell r.net) c.loop-rule.rule-index c.args.rules.now _ (omega arith) c.loop-rule.invariant
