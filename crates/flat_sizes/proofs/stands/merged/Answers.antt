use Rattle.std.proofs.Common.{List, subst}
use Rattle.flat_sizes.proofs.StandLaws.{merged_are}
use Rattle.flat_sizes.specs.Totals.{AddsStands}
use Rattle.flat_sizes.specs.declared.stands.Stand.{Stand}
use Rattle.flat_sizes.proofs.stands.merged.Goals as goal

pub returns : goal.returns
returns c =
    let sorted = c.sort_unstable_by_key.new.self.items in
    let once = c.add_all.new.stands.items in
    merged_are c.args.stands.items sorted once c.sort_unstable_by_key.ensures.permutation
    (subst (λ (xs : List Stand). AddsStands sorted xs once) c.new-once.ensures.items
    (subst (λ (xs : List Stand). AddsStands xs c.new-once.result.items once) c.as_slice.ensures.value c.in_ok-add_all.ensures))
