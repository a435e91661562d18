-- The bits below a state with the cell whole: those of the cell's solution at its nets, else those of the state.
use Rattle.std.proofs.Common.{◌≡◌, ◌⊎◌, ℕ, ◌&&◌, Bool, true, false, cond, sym, refl, ◌∙◌, ap, inl, inr}
use Rattle.std.proofs.lemmas.Bool.{and_from, and_parts, cases_Bool, cond-false, cond-true, false≢true}
use Rattle.cell_inside.proofs.NetKinds.{is_plain_is, plain_is}
use Rattle.cell_inside.specs.Placed.{IsSupply}
use Rattle.firm_faults.proofs.InnerRegions.{image, in_image, of_image}
use Rattle.firm_faults.proofs.StepStates.{reading_below}
use Rattle.firm_faults.specs.Settled.{IsBrokenAt}
use Rattle.firm_faults.specs.StepDown.{IsInnerSolution, IsStepDown}
use Rattle.vrt_model.specs.Comparison.{Comparison, phase_at}
use Rattle.vrt_model.specs.Known.{IsPlain, is_plain_at}
use Rattle.vrt_model.specs.State.{IsState, Setting, State}
use Rattle.vrt_model.specs.declared.circuit.Circuit.{Circuit}
use Rattle.vrt_model.specs.declared.circuit.FlatInstance.{FlatInstance}
use Rattle.vrt_model.specs.declared.whole.Whole.{Whole}
use Rattle.whole_solutions.proofs.SettledSets.{supply_bit}

-- The reading has the bits of r outside the cell, and at its nets those that the cell has, which solve it where no constraint is broken. At a
-- net of exposed outputs it has their bit where they agree.
pub record HasStepBits (k : Comparison) (phase : ℕ) (cell whole_circuit : Circuit) (at fresh : ℕ → ℕ) (cell_observed exposed : ℕ → Bool) (drive : ℕ → ℕ) (x : Whole) (i : FlatInstance)
    (r : State) (sr bits : ℕ → Bool) : Type 0 where
  pub outside : (n : ℕ) → ((m : ℕ) → IsPlain cell m → n ≡ at m → ⊥) → sr n ≡ r.reading n
  pub inside : (m : ℕ) → IsPlain cell m → (exposed m ≡ true → ⊥) → sr (at m) ≡ bits m
  pub shared : (m : ℕ) → exposed m ≡ true → ((l : ℕ) → exposed l ≡ true → at l ≡ at m → bits l ≡ bits m) → sr (at m) ≡ bits m
  pub supplies : (n : ℕ) (value : Bool) → IsSupply cell n value → bits n ≡ value
  pub solved :
      IsBrokenAt k phase r.reading i ⊎ IsInnerSolution cell whole_circuit (phase_at k.rules phase) cell_observed exposed at fresh drive x r bits

module _ (k : Comparison) (phase : ℕ) (setting : Setting) (cell whole_circuit : Circuit) (at place fresh : ℕ → ℕ) (remaining compared cell_observed exposed : ℕ → Bool) (drive : ℕ → ℕ)
    (x : Whole) (i : FlatInstance) (p : IsStepDown k phase setting cell whole_circuit at place fresh remaining compared cell_observed exposed drive x i)
    (r : State) (is : IsState whole_circuit (phase_at k.rules phase) setting.inputs r) where
  abbrev HasBits : (ℕ → Bool) → (ℕ → Bool) → Type 0
  HasBits sr bits = HasStepBits k phase cell whole_circuit at fresh cell_observed exposed drive x i r sr bits

  -- where a constraint is broken the bits stay
  broken_bits : IsBrokenAt k phase r.reading i → HasBits r.reading (λ n. r.reading (at n))
  broken_bits broken = record {
    outside = λ n none. refl;
    inside = λ m plain own. refl;
    shared = λ m e same. refl;
    supplies = λ n value supply.
        supply_bit k.circuit (phase_at k.rules phase) setting.inputs r.reading
        (reading_below k phase setting cell whole_circuit at place fresh remaining compared cell_observed exposed drive x i p r.reading is.reading) (at n) value
        (p.placed.supplies n value supply);
    solved = inl broken;
  }

  module _ (bits : ℕ → Bool) (sol : IsInnerSolution cell whole_circuit (phase_at k.rules phase) cell_observed exposed at fresh drive x r bits) where
    abbrev hit : ℕ → Bool
    hit = image cell at (is_plain_at cell)

    abbrev chosen : ℕ → Bool
    chosen m = is_plain_at cell m && bits m

    abbrev filled : ℕ → Bool
    filled n = cond (hit n) (image cell at chosen n) (r.reading n)

    filled_outside : (n : ℕ) → ((m : ℕ) → IsPlain cell m → n ≡ at m → ⊥) → filled n ≡ r.reading n
    filled_outside n none =
        elim (cases_Bool (hit n)) [
          | inl h ↦ (let from = of_image cell at (is_plain_at cell) n h in absurd (none from.0 (plain_is cell from.0 from.1) (sym from.2)))
          | inr f ↦ cond-false (hit n) (image cell at chosen n) (r.reading n) f
        ]

    -- at a net of the cell, where the nets that are one with it agree
    filled_inside : (m : ℕ) → IsPlain cell m → ((l : ℕ) → IsPlain cell l → at l ≡ at m → bits l ≡ bits m) → filled (at m) ≡ bits m
    filled_inside m plain same =
        cond-true (hit (at m)) (image cell at chosen (at m)) (r.reading (at m)) (in_image cell at (is_plain_at cell) m (at m) plain (is_plain_is cell m plain) refl)
        ∙ by_bit (bits m) refl
      where
        by_bit : (b : Bool) → bits m ≡ b → image cell at chosen (at m) ≡ bits m
        by_bit true e = in_image cell at chosen m (at m) plain (and_from (is_plain_at cell m) (bits m) (is_plain_is cell m plain) e) refl ∙ sym e
        by_bit false e =
            elim (cases_Bool (image cell at chosen (at m))) [
              | inr f ↦ f ∙ sym e
              | inl h ↦
                  let from = of_image cell at chosen (at m) h in
                  let both = and_parts (is_plain_at cell from.0) (bits from.0) from.1 in
                  absurd (false≢true (sym e ∙ sym (same from.0 (plain_is cell from.0 both.0) from.2) ∙ both.1))
            ]

    solved_bits : HasBits filled bits
    solved_bits = record {
      outside = filled_outside;
      inside = λ m plain own. filled_inside m plain (λ l other e. elim (p.placed.apart l m other plain e) [ inl one ↦ ap bits one | inr both ↦ absurd (own both.1) ]);
      shared = λ m e same.
          let plain = p.placed.exposed_plain m e in
          filled_inside m plain (λ l other q. elim (p.placed.apart l m other plain q) [ inl one ↦ ap bits one | inr both ↦ same l both.0 q ]);
      supplies = λ n value supply. supply_bit cell (phase_at k.rules phase) bits bits sol.reads n value supply;
      solved = inr sol;
    }

  pub step_bits : (sr : ℕ → Bool) × (bits : ℕ → Bool) × HasStepBits k phase cell whole_circuit at fresh cell_observed exposed drive x i r sr bits
  step_bits =
      elim (p.inner r is) [
        | inl broken ↦ (r.reading, λ n. r.reading (at n), broken_bits broken)
        | inr found ↦ (filled found.0 found.1, found.0, solved_bits found.0 found.1)
      ]
