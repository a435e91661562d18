-- States of a circuit with a cell in it and of the circuit with the cell whole.
use Rattle.std.proofs.Common.{◌≡◌, ℕ, ◌⊎◌, Bool, true, false, List, Option, Some, None, cond, map, eqb, slice_get, ap, subst, sym, refl, ◌∙◌, inl, inr}
use Rattle.std.proofs.lemmas.Bool.{cases_Bool, cond-false, cond-true, eq-eqb, eqb-true}
use Rattle.std.proofs.lemmas.Option.{none-some, same_Some}
use Rattle.cell_inside.proofs.NetKinds.{plain_not_given}
use Rattle.cell_inside.specs.Regions.{IsGivenNet}
use Rattle.firm_faults.specs.StepDown.{IsSameWhole, IsStepDown}
use Rattle.known_nets.proofs.WiredLaws.{pin_of_whole}
use Rattle.vrt_model.specs.Assignment.{Assignment, IsAssignment, Tied}
use Rattle.vrt_model.specs.Comparison.{Comparison, phase_at}
use Rattle.vrt_model.specs.Known.{IsPlain}
use Rattle.vrt_model.specs.Lists.{At}
use Rattle.vrt_model.specs.Reading.{IsReading}
use Rattle.vrt_model.specs.State.{IsState, ModelGives, OutputPin, Setting, State, output_pins, surroundings_of_whole}
use Rattle.vrt_model.specs.declared.circuit.Circuit.{Circuit}
use Rattle.vrt_model.specs.declared.circuit.FlatInstance.{FlatInstance}
use Rattle.vrt_model.specs.declared.circuit.FlatNet.{FlatNet}
use Rattle.vrt_model.specs.declared.flat_model.FlatModel.{FlatModel}
use Rattle.vrt_model.specs.declared.pairing.ClockedSignal.{ClockedSignal}
use Rattle.vrt_model.specs.declared.rules.Phase.{Phase}
use Rattle.vrt_model.specs.declared.whole.Whole.{Whole}
use Rattle.vrt_model.specs.declared.whole.WholePin.{WholePin}

-- ---- what models give

-- a model with these clocks and inputs has an assignment
abbrev IsAssigned : Phase → (ℕ → Bool) → Assignment → FlatModel → List ClockedSignal → List WholePin → Type 0
IsAssigned phase reading g model clocked inputs =
    IsAssignment model (record {
      phase = phase;
      default_clock = false;
      clocked = clocked;
      tied = map (λ (p : WholePin). let tied : Tied = record { net = p.net.0; signal = p.signal } in tied) inputs;
      nets = reading;
      held = λ k. false;
    }) g

-- the same whole instance gives the same bits
same_given : (phase : Phase) (reading : ℕ → Bool) (g : Assignment) (w v : Whole) → v.model ≡ w.model → v.clocked ≡ w.clocked → v.inputs ≡ w.inputs
    → IsAssignment v.model (surroundings_of_whole phase v reading) g → IsAssignment w.model (surroundings_of_whole phase w reading) g
same_given phase reading g w v model clocked inputs is =
    subst (λ (m : FlatModel). IsAssigned phase reading g m w.clocked w.inputs) model
    (subst (λ (cs : List ClockedSignal). IsAssigned phase reading g v.model cs w.inputs) clocked (subst (IsAssigned phase reading g v.model v.clocked) inputs is))

gives_back : (phase : Phase) (reading : ℕ → Bool) (v : Bool) (out pin : OutputPin) → IsSameWhole phase out.whole pin.whole → pin.pin.signal ≡ out.pin.signal
    → ModelGives phase pin reading v → ModelGives phase out reading v
gives_back phase reading v out pin same signal is =
    (is.0, same_given phase reading is.0 out.whole pin.whole same.model same.clocked same.inputs is.1, ap is.0.signal (sym signal) ∙ is.2)

gives_there : (phase : Phase) (reading : ℕ → Bool) (v : Bool) (out pin : OutputPin) → IsSameWhole phase out.whole pin.whole → pin.pin.signal ≡ out.pin.signal
    → ModelGives phase out reading v → ModelGives phase pin reading v
gives_there phase reading v out pin same signal is =
    (is.0, same_given phase reading is.0 pin.whole out.whole (sym same.model) (sym same.clocked) (sym same.inputs) is.1, ap is.0.signal signal ∙ is.2)

module _ (k : Comparison) (phase : ℕ) (setting : Setting) (cell whole_circuit : Circuit) (at place fresh : ℕ → ℕ) (remaining compared cell_observed exposed : ℕ → Bool) (drive : ℕ → ℕ)
    (x : Whole) (i : FlatInstance) (p : IsStepDown k phase setting cell whole_circuit at place fresh remaining compared cell_observed exposed drive x i) where
  abbrev here : Phase
  here = phase_at k.rules phase

  -- ---- nets

  pub given_below : (n : ℕ) → IsGivenNet whole_circuit n → IsGivenNet k.circuit n
  given_below n g = (g.0, subst (λ (nets : List FlatNet). At nets n g.0) p.nets g.1, g.2)

  pub plain_below : (n : ℕ) → IsPlain whole_circuit n → IsPlain k.circuit n
  plain_below n g = (g.0, subst (λ (nets : List FlatNet). At nets n g.0) p.nets g.1, g.2)

  pub reading_there : (reading : ℕ → Bool) → IsReading k.circuit here setting.inputs reading → IsReading whole_circuit here setting.inputs reading
  reading_there reading is n net e = is n net (subst (λ (nets : List FlatNet). At nets n net) p.nets e)

  pub reading_below : (reading : ℕ → Bool) → IsReading whole_circuit here setting.inputs reading → IsReading k.circuit here setting.inputs reading
  reading_below reading is n net e = is n net (subst (λ (nets : List FlatNet). At nets n net) (sym p.nets) e)

  -- where a compared net is a plain net of the cell, that is exposed
  pub compared_exposed : (n m : ℕ) → compared n ≡ true → IsPlain cell m → n ≡ at m → exposed m ≡ true
  compared_exposed n m c plain e = p.whole.inside_compared m plain (subst (λ (y : ℕ). compared y ≡ true) e c)

  -- a given net is none of the cell's plain nets
  pub given_outside : (n m : ℕ) → IsGivenNet k.circuit n → IsPlain cell m → n ≡ at m → ⊥
  given_outside n m g plain e = plain_not_given k.circuit n g.0 (subst (IsPlain k.circuit) (sym e) (p.placed.plain m plain)) g.1 g.2

  -- ---- states

  -- what the models give the pins at a reading
  abbrev given_by : (ℕ → Bool) → (j : ℕ) (o : Option OutputPin) → slice_get (output_pins whole_circuit) j ≡ o → Bool
  given_by reading j None e = false
  given_by reading j (Some out) e = (p.wholes.assigned out.whole reading (pin_of_whole whole_circuit out (j, e)).0).0.signal out.pin.signal

  given_is : (reading : ℕ → Bool) (j : ℕ) (o : Option OutputPin) (e : slice_get (output_pins whole_circuit) j ≡ o) (out : OutputPin) → o ≡ Some out → ModelGives here out reading (given_by reading j o e)
  given_is reading j None e out there = absurd (none-some out there)
  given_is reading j (Some one) e out there =
      let g = p.wholes.assigned one.whole reading (pin_of_whole whole_circuit one (j, e)).0 in
      subst (λ (o : OutputPin). ModelGives here o reading (g.0.signal one.pin.signal)) (same_Some one out there) (g.0, g.1, refl)

  abbrev given_at : (ℕ → Bool) → ℕ → Bool
  given_at reading j = given_by reading j (slice_get (output_pins whole_circuit) j) refl

  -- a state with the cell whole
  pub whole_state : (reading : ℕ → Bool) → IsReading whole_circuit here setting.inputs reading
      → (driven : ℕ → Bool) × IsState whole_circuit here setting.inputs (record { reading = reading; driven = driven })
  whole_state reading is =
      (given_at reading, record { reading = is; driven = λ j out e. given_is reading j (slice_get (output_pins whole_circuit) j) refl out e })

  -- and the state that it is with the cell in the circuit
  pub state_below : (reading driven : ℕ → Bool) → IsState whole_circuit here setting.inputs (record { reading = reading; driven = driven })
      → IsState k.circuit here setting.inputs (record { reading = reading; driven = λ j. driven (place j) })
  state_below reading driven is = record {
    reading = reading_below reading is.reading;
    driven = λ j out e. let to = p.wholes.pins j out e in gives_back here reading (driven (place j)) out to.0 to.2 to.4 (is.driven (place j) to.0 to.1);
  }

  -- a state of the circuit as one with the cell whole that drives some pin as it does
  pub state_there : (t : State) → IsState k.circuit here setting.inputs t → (q : ℕ) (out : OutputPin) → At (output_pins k.circuit) q out
      → (driven : ℕ → Bool) × IsState whole_circuit here setting.inputs (record { reading = t.reading; driven = driven }) × (driven (place q) ≡ t.driven q)
  state_there t is q out e = (
    driven,
    record { reading = reading_there t.reading is.reading; driven = λ j pin f. by_place j pin f (cases_Bool (eqb j (place q))) },
    cond-true (eqb (place q) (place q)) (t.driven q) (given_at t.reading (place q)) (eq-eqb (place q) (place q) refl),
  )
    where
      driven : ℕ → Bool
      driven j = cond (eqb j (place q)) (t.driven q) (given_at t.reading j)

      by_place : (j : ℕ) (pin : OutputPin) → At (output_pins whole_circuit) j pin → (eqb j (place q) ≡ true) ⊎ (eqb j (place q) ≡ false) → ModelGives here pin t.reading (driven j)
      by_place j pin f (inr other) =
          subst (ModelGives here pin t.reading) (sym (cond-false (eqb j (place q)) (t.driven q) (given_at t.reading j) other))
          (given_is t.reading j (slice_get (output_pins whole_circuit) j) refl pin f)
      by_place j pin f (inl same) =
          let to = p.wholes.pins q out e in
          let one : to.0 ≡ pin = same_Some to.0 pin (sym to.1 ∙ ap (slice_get (output_pins whole_circuit)) (sym (eqb-true j (place q) same)) ∙ f) in
          subst (ModelGives here pin t.reading) (sym (cond-true (eqb j (place q)) (t.driven q) (given_at t.reading j) same))
          (subst (λ (o : OutputPin). ModelGives here o t.reading (t.driven q)) one (gives_there here t.reading (t.driven q) out to.0 to.2 to.4 (is.driven q out e)))
