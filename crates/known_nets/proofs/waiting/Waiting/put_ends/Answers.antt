use Rattle.std.proofs.Common.{◌≡◌, ℕ, true, get_or, length, arith, ap, inl, inr, subst, sym, ◌∙◌, below_more}
use Rattle.std.proofs.lemmas.Option.{same_Some, slice_get-get_or, slice_get_within}
use Rattle.vrt_model.proofs.Lists.{item_at}
use Rattle.known_nets.proofs.WaitLaws.{waited_none, waited_then}
use Rattle.known_nets.proofs.waiting.Waiting.put_ends.Goals.{then-number-devices+in_ok-put+in_ok-put-2, else-number-devices}
use Rattle.known_nets.specs.Waits.{HasWaited, waits}
use Rattle.known_nets.specs.declared.waiting.Waiting.{Waiting}
use Rattle.vrt_model.specs.Known.{IsPlain}
use Rattle.vrt_model.specs.Lists.{At}
use Rattle.vrt_model.specs.Path.{Joins}
use Rattle.vrt_model.specs.declared.circuit.Circuit.{Circuit}
use Rattle.vrt_model.specs.declared.circuit.Device.{Device}
use Rattle.known_nets.proofs.waiting.Waiting.put_ends.Goals as goal

pub loop-number-init : goal.loop-number-init
loop-number-init c = record {
  waited = waited_none c.args.circuit.now c.args.self.now;
  marked = λ i lt k d at there m n j p. absurd (omega (arith, lt));
}

pub put-requires : goal.put-requires
put-requires c = c.loop-number.invariant.waited.size ∙ c.requires

pub put-requires-then-number-devices : goal.put-requires-then-number-devices
put-requires-then-number-devices c = c.in_ok-put.ensures.waited.size ∙ (c.loop-number.invariant.waited.size ∙ c.requires)

-- what one number brings
abbrev Step : Circuit → ℕ → Waiting → Waiting → Type 0
Step circuit k old new =
    HasWaited circuit old new × ((d : Device) → At circuit.devices k d → (m n : ℕ) → Joins d m n → IsPlain circuit m → waits new m ≡ true)

pub loop-number-preserved : goal.loop-number-preserved
loop-number-preserved c =
    let circuit = c.args.circuit.now in
    let numbers = c.args.numbers.now in
    let i = c.loop-number.number-index in
    let k : ℕ = get_or numbers i 0 in
    let at : At numbers i k = slice_get-get_or numbers i 0 c.loop-number-test.true in
    let old : Waiting = c.loop-number.self in
    let new : Waiting = c.if-number-devices.self in
    let step : Step circuit k old new =
    elim c.if-number-devices.branch [
      | then-number-devices+in_ok-put+in_ok-put-2 w ↦
          let d = w.index-devices-number.result in
          let there : At circuit.devices k d = item_at circuit.devices c.as_slice-devices.result.now k d c.as_slice-devices.ensures w.if-number-devices.true w.index-devices-number.is in
          let mid : Waiting = w.put.new.self in
          let last : Waiting = w.put-then-number-devices.new.self in
          let two : HasWaited circuit mid last = w.in_ok-put-2.ensures.waited in
          let both : Step circuit k old last = (
            waited_then circuit old mid last w.in_ok-put.ensures.waited two,
            λ e here m n j p.
                let same : d ≡ e = same_Some d e (sym there ∙ here) in
                elim (subst (λ (x : Device). Joins x m n) (sym same) j) [
                  | inl ends ↦ subst (λ (x : ℕ). waits last x ≡ true) ends.0 (two.grown d.left.0 (w.in_ok-put.ensures.marked (subst (IsPlain circuit) (sym ends.0) p)))
                  | inr ends ↦ subst (λ (x : ℕ). waits last x ≡ true) ends.1 (w.in_ok-put-2.ensures.marked (subst (IsPlain circuit) (sym ends.1) p))
                ],
          ) in
          subst (Step circuit k old) (sym w.self-is) both
      | else-number-devices w ↦
          let len : length c.as_slice-devices.result.now ≡ length circuit.devices = ap length c.as_slice-devices.ensures in
          let past = w.if-number-devices.false in
          let none : Step circuit k old old = (
            waited_none circuit old,
            λ e here m n j p. (let inside = slice_get_within circuit.devices k e here in absurd (omega (arith, past, len, inside))),
          ) in
          subst (Step circuit k old) (sym w.self-is) none
    ] in
    let P : ℕ → Type 0 = λ i. (l : ℕ) (d : Device) → At numbers i l → At circuit.devices l d → (m n : ℕ) → Joins d m n → IsPlain circuit m → waits new m ≡ true in
    record {
      waited = waited_then circuit c.args.self.now old new c.loop-number.invariant.waited step.0;
      marked = λ j lt. below_more P i
          (λ j lt l d at_j there m n e p. step.0.grown m (c.loop-number.invariant.marked j lt l d at_j there m n e p))
          (λ l d at_i there. step.1 d (subst (λ (x : ℕ). At circuit.devices x d) (same_Some l k (sym at_i ∙ at)) there))
          j lt;
    }

pub returns-clause-waited : goal.returns-clause-waited
returns-clause-waited c = c.loop-number.invariant.waited

pub returns-clause-marked : goal.returns-clause-marked
returns-clause-marked c k d m there =
    let inside = slice_get_within c.args.numbers.now m.0 k m.1 in
    c.loop-number.invariant.marked m.0 (omega (arith, inside, c.loop-number-test.false)) k d m.1 there
