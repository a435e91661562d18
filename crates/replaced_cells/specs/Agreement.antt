-- Bits of a circuit with a cell in it, and of the circuit with this instance whole; and where nothing is wrong in either.
use Rattle.std.specs.Prelude.{◌≡◌, ◌↔◌, ◌⊎◌, ℕ, ◌<◌, Bool, true, List, IsSome, length}
use Rattle.channel_parts.specs.OneSolution.{HasOneSolution}
use Rattle.replaced_cells.specs.OneMoreWhole.{AreSolvedAlike, IsOneMoreWhole}
use Rattle.vrt_model.specs.Assignment.{Assignment}
use Rattle.vrt_model.specs.Checked.{with_circuit}
use Rattle.vrt_model.specs.Comparison.{Comparison, is_observed, phase_at}
use Rattle.vrt_model.specs.Constraints.{Meets}
use Rattle.vrt_model.specs.Equal.{Agree}
use Rattle.vrt_model.specs.Faults.{Assigns, BreaksConstraint, Responds, Solves, Stands}
use Rattle.vrt_model.specs.Held.{setting_of}
use Rattle.vrt_model.specs.Known.{IsPlain}
use Rattle.vrt_model.specs.Reading.{Partial, bare}
use Rattle.vrt_model.specs.Response.{Fight, Float}
use Rattle.vrt_model.specs.State.{Setting, State}
use Rattle.vrt_model.specs.declared.circuit.Circuit.{Circuit}
use Rattle.vrt_model.specs.declared.verdict.FaultKind.TheVariants.{Constraint, Fight as FightFault, Float as FloatFault}
use Rattle.whole_ranks.specs.Defined.{HasBitAt}

-- ---- bits

-- there are solutions of both circuits with the same bits at the nets that remain; that of the circuit has the cell's own inside
abbrev pub HaveSameBits : Comparison → Comparison → ℕ → Circuit → (ℕ → ℕ) → (ℕ → ℕ) → (ℕ → ℕ) → (ℕ → Bool) → Setting → Type 0
HaveSameBits k q phase whole_circuit at place fresh remaining setting =
    (s : State) × (r : State) × (bits : List Bool) × AreSolvedAlike k q phase whole_circuit at place fresh remaining setting s r bits

-- The law: there are such solutions where one with the instance whole has a bit at each observed net, no exposed output always fights,
-- and no constraint of the instance is broken.
abbrev pub BitsGoDown : Type 0
BitsGoDown =
    (k q : Comparison) (phase : ℕ) (whole_circuit : Circuit) (at place fresh : ℕ → ℕ) (remaining compared exposed : ℕ → Bool) (drive : ℕ → ℕ) (setting : Setting) (a : Partial)
    → (one : IsOneMoreWhole k q phase whole_circuit at place fresh remaining compared exposed drive)
    → Solves (with_circuit k whole_circuit) phase setting a
    → ((n : ℕ) → is_observed (with_circuit k whole_circuit) phase n ≡ true → IsSome (a n))
    → ((n : ℕ) → exposed n ≡ true → ¬ Responds (with_circuit k whole_circuit) phase setting a bare (at n) Fight)
    → ¬ BreaksConstraint k.design k.rules phase a one.instance.0
    → HaveSameBits k q phase whole_circuit at place fresh remaining setting

-- ---- nothing is wrong

-- The law: where nothing is wrong with the instance whole, nothing is wrong with the cell in its place, where there is one solution.
abbrev pub AgreementGoesDown : Type 0
AgreementGoesDown =
    (k q : Comparison) (phase : ℕ) (whole_circuit : Circuit) (at place fresh : ℕ → ℕ) (remaining compared exposed : ℕ → Bool) (drive : ℕ → ℕ) (setting : Setting)
    → IsOneMoreWhole k q phase whole_circuit at place fresh remaining compared exposed drive
    → HasOneSolution k.circuit (phase_at k.rules phase) (is_observed k phase) setting
    → Agree (with_circuit k whole_circuit) phase setting → Agree k phase setting

-- ---- from the faults of the bare stage

-- a fault of the bare stage stands by some solution: a fight, a float, or a broken constraint
abbrev pub HasBareFault : Comparison → ℕ → Setting → Type 0
HasBareFault k phase setting =
    (a : Partial) × (g : Assignment) × (at : ℕ) × Solves k phase setting a × Assigns k phase setting g
    × (Stands k phase setting a g FightFault at ⊎ (Stands k phase setting a g FloatFault at ⊎ Stands k phase setting a g Constraint at))

-- what the faults of the bare stage tell with the instance whole: where nothing fights and nothing floats a solution has a bit at each
-- observed net, and where any of them stands something is wrong in the circuit
pub record BareFaultsTell (k : Comparison) (phase : ℕ) (whole_circuit : Circuit) (setting : Setting) : Type 0 where
  pub defined :
      (a : Partial) → Solves (with_circuit k whole_circuit) phase setting a
      → ((n : ℕ) → IsPlain whole_circuit n → ¬ Responds (with_circuit k whole_circuit) phase setting a bare n Fight)
      → ((n : ℕ) → is_observed (with_circuit k whole_circuit) phase n ≡ true → ¬ Responds (with_circuit k whole_circuit) phase setting a bare n Float)
      → (n : ℕ) → is_observed (with_circuit k whole_circuit) phase n ≡ true → HasBitAt a n
  pub wrong : HasBareFault (with_circuit k whole_circuit) phase setting → ¬ Agree k phase setting

-- The law: where nothing is wrong with the cell in the circuit, nothing is wrong with the instance whole, where there is one solution and
-- the faults of the bare stage tell so much.
abbrev pub AgreementGoesUpByFaults : Type 0
AgreementGoesUpByFaults =
    (k q : Comparison) (phase : ℕ) (whole_circuit : Circuit) (at place fresh : ℕ → ℕ) (remaining compared exposed : ℕ → Bool) (drive : ℕ → ℕ) (setting : Setting)
    → IsOneMoreWhole k q phase whole_circuit at place fresh remaining compared exposed drive
    → HasOneSolution whole_circuit (phase_at k.rules phase) (is_observed (with_circuit k whole_circuit) phase) setting
    → BareFaultsTell k phase whole_circuit setting
    → Agree k phase setting → Agree (with_circuit k whole_circuit) phase setting

-- ---- all phases

-- nothing is wrong at a valuation
abbrev pub HasNoFault : Comparison → ℕ → List Bool → Type 0
HasNoFault k phase bits = Agree k phase (setting_of k phase bits)

-- the valuations are the same, and nothing is wrong in the one comparison exactly where nothing is in the other
pub record AgreesWith (k j : Comparison) : Type 0 where
  pub meets : (phase : ℕ) (bits : List Bool) → Meets k phase bits ↔ Meets j phase bits
  pub agree : (phase : ℕ) (bits : List Bool) → phase < length k.rules.phases → Meets k phase bits → HasNoFault k phase bits ↔ HasNoFault j phase bits

-- in each phase and at each valuation the circuit of a comparison has exactly one solution
abbrev pub IsAlwaysSolved : Comparison → Type 0
IsAlwaysSolved k =
    (phase : ℕ) (bits : List Bool) → phase < length k.rules.phases → HasOneSolution k.circuit (phase_at k.rules phase) (is_observed k phase) (setting_of k phase bits)

-- valuations give the same in both, and the same ones meet the constraints
pub record HaveSameValuations (k j : Comparison) : Type 0 where
  pub settings : (phase : ℕ) (bits : List Bool) → setting_of j phase bits ≡ setting_of k phase bits
  pub meets : (phase : ℕ) (bits : List Bool) → Meets j phase bits ↔ Meets k phase bits

-- The law: where one more instance is whole in each phase, both circuits are always solved, and in each phase and at each valuation the
-- faults of the bare stage tell so much, the two agree.
abbrev pub OneMoreWholeAgreesByFaults : Type 0
OneMoreWholeAgreesByFaults =
    (k q : Comparison) (whole_circuit : Circuit) (at place fresh : ℕ → ℕ) (remaining compared exposed : ℕ → Bool) (drive : ℕ → ℕ)
    → ((phase : ℕ) → phase < length k.rules.phases → IsOneMoreWhole k q phase whole_circuit at place fresh remaining compared exposed drive)
    → IsAlwaysSolved k → IsAlwaysSolved (with_circuit k whole_circuit) → HaveSameValuations k (with_circuit k whole_circuit)
    → ((phase : ℕ) (bits : List Bool) → phase < length k.rules.phases → Meets k phase bits → BareFaultsTell k phase whole_circuit (setting_of k phase bits))
    → AgreesWith k (with_circuit k whole_circuit)

-- The law: so do the first and the last of three, of which each agrees with the next.
abbrev pub AgreementIsTransitive : Type 0
AgreementIsTransitive =
    (k : Comparison) (c d : Circuit) → AgreesWith k (with_circuit k c) → AgreesWith (with_circuit k c) (with_circuit k d) → AgreesWith k (with_circuit k d)
