use Rattle.std.proofs.Common.{ap, get_or, sym, ◌∙◌, ℕ, List}
use Rattle.nesting.proofs.FirstLaws.{depth_first, depth_none}
use Rattle.nesting.proofs.first.depth_fault.Goals as goal

pub returns-in-Some : goal.returns-in-Some
returns-in-Some c =
    depth_first c.args.inner.now c.args.limit c.in_ok-depths.depths c.as_slice.result.now c.in-Some.number c.depth_at.result c.in_ok-depths.ensures c.as_slice.ensures
    c.in-Some.ensures
    (c.depth_at.ensures ∙ ap (λ (xs : List ℕ). get_or xs c.in-Some.number 0) (c.as_slice-in-Some.ensures ∙ sym c.as_slice.ensures))

pub returns : goal.returns
returns c = depth_none c.args.inner.now c.args.limit c.in_ok-depths.depths c.as_slice.result.now c.in_ok-depths.ensures c.as_slice.ensures c.in-None.ensures
