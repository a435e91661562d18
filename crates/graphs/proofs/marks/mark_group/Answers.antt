use Rattle.std.proofs.Common.{◌≡◌, ℕ, true, slice_index, arith, subst, ap, ◌∙◌}
use Rattle.std.proofs.lemmas.Option.{slice_get_within}
use Rattle.graphs.proofs.GroupLaws.{index_at}
use Rattle.graphs.specs.Groups.{is_marked}
use Rattle.graphs.proofs.marks.mark_group.Goals as goal

pub returns-clause-marked : goal.returns-clause-marked
returns-clause-marked c n m e =
    let numbers = c.args.numbers.now in
    let inside = slice_get_within numbers m.0 n m.1 in
    let end = c.loop-number-test.false in
    let is = index_at numbers m.0 n m.1 in
    subst (λ (x : ℕ). is_marked c.loop-number.marks x ≡ true) is
    (c.loop-number.invariant.marked m.0 (omega (arith, inside, end)) (ap (slice_index c.args.groups.now) is ∙ e))
