use Rattle.std.proofs.Common.{◌≡◌, subst, sym, ◌∙◌}
use Rattle.std.proofs.lemmas.Result.{IfOk-weaker}
use Rattle.whole_circuits.proofs.HoldLaws.{moved_are}
use Rattle.whole_circuits.specs.MovedHolds.{AreMoved, moved_by}
use Rattle.whole_circuits.specs.Shown.{AreMarks}
use Rattle.vrt_model.specs.Cut.{Cut}
use Rattle.whole_circuits.proofs.holds.moved_numbers.Goals as goal

pub returns-in-Some : goal.returns-in-Some
returns-in-Some c =
    let marks = c.args.marks.now in
    let inside = c.in-Some.inside.now in
    IfOk-weaker c.moved_by.result (λ v. v.items ≡ moved_by 0 inside) (λ moved. (cut : Cut) → AreMarks cut marks → AreMoved cut moved.items)
    (λ v e cut are. subst (AreMoved cut) (sym e) (moved_are cut marks are c.in-Some.field-0-0.now inside (sym c.as_slice.ensures.value ∙ c.in-Some.ensures.cases.0)))
    c.moved_by.ensures
