use Rattle.std.proofs.Common.{ℕ, ◌*◌, List, length, arith, ap}
use Rattle.bdd_ops.proofs.CountingLaws.{counts_more}
use Rattle.vrt_model.specs.Expressions.{operators_in}
use Rattle.constraints.proofs.HandleLaws.{listed_within}
use Rattle.constraints.specs.Evaluated.{AreWithin, expression_size}
use Rattle.constraints.specs.Handles.{handle_listed}
use Rattle.constraints.proofs.expression.expr.Goals as goal

pub returns-clause-counts : goal.returns-clause-counts
returns-clause-counts c u reads =
    let old = c.args.store.now in
    let names : List (List ℕ) = c.as_slice-names.result.now in
    let count = ap (λ (ns : List (List ℕ)). length ns) c.as_slice-names.ensures in
    let len = c.requires.len in
    let within : AreWithin u old (handle_listed old.words names c.args.values) = listed_within old c.args.values u names (omega (arith, count, len)) reads in
    counts_more u (2 * operators_in c.args.e.now) (20 * expression_size c.args.e.now) old c.diagram.new.store c.diagram.result (omega arith)
    (c.diagram.ensures.counts u within)
