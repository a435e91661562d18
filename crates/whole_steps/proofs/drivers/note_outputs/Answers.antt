use Rattle.std.proofs.Common.{◌≡◌, ℕ, ◌+◌, List, Option, length, arith, ap, sym, subst, ◌∙◌}
use Rattle.vrt_model.specs.Lists.{At}
use Rattle.vrt_model.specs.State.{OutputPin}
use Rattle.std.proofs.lemmas.Option.{slice_get_within}
use Rattle.whole_steps.proofs.DriverLaws.{all_to, none_to, noted_more, one_to, outputs_to, to_length}
use Rattle.whole_steps.proofs.TableLaws.{output_in_range}
use Rattle.whole_steps.specs.Tables.{AreNoted, driver_at, outputs_before}
use Rattle.whole_steps.specs.declared.table.OutputPlace.{OutputPlace}
use Rattle.whole_steps.proofs.drivers.note_outputs.Goals as goal

pub loop-output-init : goal.loop-output-init
loop-output-init c = subst (λ (os : List OutputPin). AreNoted c.args.circuit.now os c.args.drivers.now.items) (sym (none_to c.args.circuit.now c.args.number c.args.whole.now)) c.requires.before

pub loop-output-preserved : goal.loop-output-preserved
loop-output-preserved c =
    let circuit = c.args.circuit.now in
    let w = c.args.whole.now in
    let number = c.args.number in
    let output = c.loop-output.output in
    let pin = c.pin_at-pin.result in
    let there = c.pin_at-pin.ensures in
    let inside = (output_in_range circuit c.requires.circuit w (number, c.requires.there) pin (output, there)).0 in
    let p = c.place_of-place.ensures in
    let value = c.as_slice.ensures.value in
    let old = c.loop-output.drivers.items in
    let size : length c.as_slice.result.now ≡ length old = ap (λ (xs : List (Option OutputPlace)). length xs) value in
    let place = c.place_of-place.result in
    let count = to_length circuit number w output (let lt = slice_get_within w.outputs output pin there in omega (arith, lt)) in
    let noted = c.loop-output.invariant.size in
    let from : place.number ≡ length (outputs_before circuit place.whole) + place.output =
    subst (λ (i : ℕ). place.number ≡ length (outputs_before circuit i) + place.output) (sym p.place.0)
    (let output_is = p.place.1 in omega (arith, p.number, size, c.len.ensures, count, noted, output_is)) in
    subst (λ (os : List OutputPin). AreNoted circuit os c.note.new.drivers.items) (sym (one_to circuit number w output pin there))
    (noted_more circuit c.args.met.now c.requires.met (outputs_to circuit number w output) old c.note.new.drivers.items c.loop-output.invariant c.place_of-place.result (record { whole = w; pin = pin })
    (subst (λ (i : ℕ). At circuit.wholes i w) (sym p.place.0) c.requires.there) (subst (λ (i : ℕ). At w.outputs i pin) (sym p.place.1) there)
    (omega (arith, p.number, size, c.len.ensures)) from p.soft p.met (λ e. ap (λ (xs : List (Option OutputPlace)). driver_at xs pin.net.0) (sym value) ∙ p.first e) inside
    c.in_ok-note.ensures.len c.in_ok-note.ensures.here c.in_ok-note.ensures.last c.in_ok-note.ensures.others)

pub returns : goal.returns
returns c =
    let circuit = c.args.circuit.now in
    let ended = c.loop-output-test.false in
    subst (λ (os : List OutputPin). AreNoted circuit os c.loop-output.drivers.items)
    (all_to circuit c.args.number c.args.whole.now c.loop-output.output c.requires.there (omega (arith, ended)))
    c.loop-output.invariant
