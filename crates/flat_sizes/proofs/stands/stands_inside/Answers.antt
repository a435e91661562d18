use Rattle.std.proofs.Common.{List, [], subst}
use Rattle.std.proofs.lemmas.Result.{IfOk-weaker}
use Rattle.flat_sizes.proofs.StandLaws.{stands_are}
use Rattle.flat_sizes.specs.Totals.{AddsOne}
use Rattle.flat_sizes.specs.declared.stands.Stand.{Stand}
use Rattle.flat_sizes.proofs.stands.stands_inside.Goals as goal

pub returns : goal.returns
returns c =
    let first = c.append.new.stands.items in
    let one : AddsOne c.args.cell 1 [] first = subst (λ (xs : List Stand). AddsOne c.args.cell 1 xs first) c.new-first.ensures.items c.in_ok-append.ensures in
    IfOk-weaker c.merged.result _ _ (λ stands same. stands_are c.args.design.now c.args.cell first c.in_ok-all.all.items stands.items one c.in_ok-all.ensures same) c.merged.ensures
