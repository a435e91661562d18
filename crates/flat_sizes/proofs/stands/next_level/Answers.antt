use Rattle.std.proofs.Common.{List, [], subst}
use Rattle.std.proofs.lemmas.Result.{IfOk-weaker}
use Rattle.flat_sizes.proofs.StandLaws.{directly_in}
use Rattle.flat_sizes.specs.Totals.{AddsAll}
use Rattle.flat_sizes.specs.declared.stands.Stand.{Stand}
use Rattle.flat_sizes.proofs.stands.next_level.Goals as goal

pub returns : goal.returns
returns c =
    let design = c.args.design.now in
    let level = c.args.level.now in
    let added = c.add_level.new.stands.items in
    let adds : AddsAll design level [] added = subst (λ (xs : List Stand). AddsAll design level xs added) c.new-next.ensures.items c.in_ok-add_level.ensures in
    IfOk-weaker c.merged.result _ _ (λ next same. directly_in design level added next.items adds same) c.merged.ensures
