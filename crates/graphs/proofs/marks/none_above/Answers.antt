use Rattle.std.proofs.Common.{ℕ, ◌≤◌, slice_index, arith, subst}
use Rattle.std.proofs.lemmas.Option.{slice_get_within}
use Rattle.graphs.proofs.GroupLaws.{index_at}
use Rattle.graphs.proofs.marks.none_above.Goals as goal

pub returns : goal.returns
returns c e n m =
    let numbers = c.args.numbers.now in
    let inside = slice_get_within numbers m.0 n m.1 in
    let end = c.loop-number-test.false in
    subst (λ (x : ℕ). slice_index c.args.groups.now x ≤ c.args.group) (index_at numbers m.0 n m.1) (c.loop-number.invariant m.0 (omega (arith, inside, end)))
