-- Single steps by bits: a valuation, and behind it a bit for each rising input, which says whether it has arrived.
use Rattle.std.specs.Prelude.{◌≡◌, ℕ, Bool, false, cond, List, [], ◌∷◌, ◌++◌, ◌==◌, length}
use Rattle.arrival_laws.specs.Orders.{AllOrdersGoWell, Nets, Rise}
use Rattle.arrival_laws.specs.Steps.{AllStepsHold, IsStep, StepHolds}
use Rattle.vrt_model.specs.Comparison.{Comparison}
use Rattle.vrt_model.specs.Constraints.{Meets}
use Rattle.vrt_model.specs.Equal.{IsPhaseEqual}
use Rattle.vrt_model.specs.Held.{setting_of}

-- inputs that rise, and end at the bits of a valuation
abbrev pub rise_to : Comparison → ℕ → List ℕ → List Bool → Rise
rise_to k phase nets bits = record { k = k; phase = phase; nets = nets; end = setting_of k phase bits }

-- those of the rising nets that have arrived, by a bit for each
abbrev pub arrived : List ℕ → List Bool → Nets
arrived [] arrivals n = false
arrived (net ∷ nets) [] n = false
arrived (net ∷ nets) (bit ∷ arrivals) n = cond (net == n) bit (arrived nets arrivals n)

-- The bits of a step at which a net rises: a valuation that meets the constraints, and an arrival bit for each rising net. Each net that has
-- arrived ends at 1, and so does the one that rises, which has not arrived.
pub record IsStepAt (k : Comparison) (phase : ℕ) (nets : List ℕ) (n : ℕ) (bits : List Bool) : Type 0 where
  pub end : List Bool
  pub arrivals : List Bool
  pub is : bits ≡ end ++ arrivals
  pub meets : Meets k phase end
  pub all : length arrivals ≡ length nets
  pub step : IsStep (rise_to k phase nets end) (arrived nets arrivals) n

-- the step at these bits fails
pub record FailsAt (k : Comparison) (phase : ℕ) (nets : List ℕ) (n : ℕ) (bits : List Bool) : Type 0 where
  pub at : IsStepAt k phase nets n bits
  pub fails : ¬ StepHolds (rise_to k phase nets at.end) (arrived nets at.arrivals) n

-- the step at these bits holds
pub record HoldsAt (k : Comparison) (phase : ℕ) (nets : List ℕ) (n : ℕ) (bits : List Bool) : Type 0 where
  pub at : IsStepAt k phase nets n bits
  pub holds : StepHolds (rise_to k phase nets at.end) (arrived nets at.arrivals) n

-- each step of these nets holds
abbrev pub AllHoldAt : Comparison → ℕ → List ℕ → ℕ → Type 0
AllHoldAt k phase nets n = (bits : List Bool) → IsStepAt k phase nets n bits → HoldsAt k phase nets n bits

-- ---- the laws

-- The law: where each step holds, by bits, no step fails, and in an equal phase every order goes well.
abbrev pub StepsByBits : Type 0
StepsByBits =
    (k : Comparison) (phase : ℕ) (nets : List ℕ) → IsPhaseEqual k phase → ((n : ℕ) → AllHoldAt k phase nets n) → AllStepsHold k phase nets × AllOrdersGoWell k phase nets

-- The law: where a step fails, some order does not go well.
abbrev pub FailingSteps : Type 0
FailingSteps = (k : Comparison) (phase : ℕ) (nets : List ℕ) (n : ℕ) (bits : List Bool) → IsPhaseEqual k phase → FailsAt k phase nets n bits → ¬ AllOrdersGoWell k phase nets
