use Rattle.std.proofs.Common.{◌≡◌, ℕ, List, map, ap₂, ◌∙◌}
use Rattle.std.proofs.lemmas.Result.{IfOk-weaker}
use Rattle.whole_circuits.proofs.HoldLaws.{holds_are}
use Rattle.whole_circuits.specs.MovedHolds.{hold_by}
use Rattle.whole_circuits.specs.Shown.{AreMarks}
use Rattle.vrt_model.specs.CheckedParts.{checked_holds}
use Rattle.vrt_model.specs.Cut.{Cut}
use Rattle.vrt_model.specs.FlatCircuit.{flat_holds, flat_instances}
use Rattle.vrt_model.specs.declared.circuit.Hold.{Hold}
use Rattle.whole_circuits.proofs.holds.moved_holds.Goals as goal

pub returns : goal.returns
returns c =
    let circuit = c.args.circuit.now in
    let moved = c.in_ok-moved.moved.items in
    IfOk-weaker c.holds_by.result (λ hs. hs ≡ map (hold_by c.as_slice.result.now) c.as_slice-2.result.now)
    (λ holds. (cut : Cut) → AreMarks cut c.args.marks.now → circuit.instances ≡ flat_instances cut.top → circuit.holds ≡ flat_holds cut.top → holds ≡ checked_holds cut)
    (λ hs e cut are instances holds.
    e ∙ ap₂ (λ (m : List ℕ) (xs : List Hold). map (hold_by m) xs) c.as_slice.ensures.value c.as_slice-2.ensures
    ∙ holds_are cut moved (c.in_ok-moved.ensures cut are) circuit instances c.requires holds) c.holds_by.ensures
