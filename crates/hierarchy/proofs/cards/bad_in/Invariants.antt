use Rattle.std.proofs.Common.{◌≡◌, drop, not}
use Rattle.vrt_model.specs.Hierarchy.{is_good_card}
use Rattle.hierarchy.proofs.CardLaws.{bad_in}
use Rattle.hierarchy.proofs.cards.bad_in.Given as goal

-- each card of the cells so far is good
abbrev pub invariant-loop-cell : goal.invariant-loop-cell
invariant-loop-cell l = bad_in (λ i. not (is_good_card l.design i)) (drop l.cell-index l.cells) ≡ bad_in (λ i. not (is_good_card l.design i)) l.cells
