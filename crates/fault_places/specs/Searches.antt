-- A search for the first fault: a list of places in their order, and what is found there.
use Rattle.std.specs.Prelude.{◌≡◌, ℕ, ◌<◌, ◌↔◌, Bool, true, false, List}
use Rattle.vrt_model.specs.Assignment.{Assignment}
use Rattle.vrt_model.specs.Comparison.{Comparison}
use Rattle.vrt_model.specs.Faults.{Assigns, Solves, Stands}
use Rattle.vrt_model.specs.Constraints.{Meets}
use Rattle.vrt_model.specs.Held.{IsValuation, setting_of}
use Rattle.vrt_model.specs.Lists.{At}
use Rattle.vrt_model.specs.Places.{Finding, IsFinding, IsOrder, comes_before, standing}
use Rattle.vrt_model.specs.Reading.{Partial}
use Rattle.vrt_model.specs.Variables.{is_less}
use Rattle.vrt_model.specs.declared.verdict.FaultKind.{FaultKind}

-- a place at which a fault may stand, with its kind: a net, an instance (Constraint) or a port of the cell (Differs), by number
pub record Spot : Type 0 where
  pub kind : FaultKind
  pub at : ℕ

-- a fault at the place, at a valuation
abbrev pub finding_at : ℕ → Spot → List Bool → Finding
finding_at phase x bits = record { phase = phase; kind = x.kind; at = x.at; bits = bits }

-- all places of a phase at which a fault may stand, in their order
pub record AreSpots (k : Comparison) (phase : ℕ) (rank least : ℕ → ℕ) (spots : List Spot) : Type 0 where
  pub order : IsOrder k phase rank least
  pub sorted :
      (i j : ℕ) (x y : Spot) → At spots i x → At spots j y → i < j
      → comes_before (standing k phase rank least x.kind x.at) (standing k phase rank least y.kind y.at) ≡ true
  pub all : (f : Finding) → IsFinding k f → f.phase ≡ phase → (i : ℕ) × (x : Spot) × At spots i x × (x.kind ≡ f.kind) × (x.at ≡ f.at)

-- the place in the list at which the first fault is found, at its least valuation
pub record IsFoundFirst (k : Comparison) (phase : ℕ) (spots : List Spot) (x : Spot) (bits : List Bool) : Type 0 where
  pub place : ℕ
  pub stands : At spots place x
  pub found : IsFinding k (finding_at phase x bits)
  pub least : (more : List Bool) → IsFinding k (finding_at phase x more) → is_less more bits ≡ false
  pub before : (i : ℕ) (y : Spot) (more : List Bool) → i < place → At spots i y → ¬ IsFinding k (finding_at phase y more)

-- no fault stands at these places in any case of care
abbrev pub IsClearOf : {W : Type 0} → (Spot → W → Type 0) → (W → Bool) → List Spot → Type 0
IsClearOf Fault care spots = (i : ℕ) (x : Spot) (v : _) → At spots i x → care v ≡ true → ¬ Fault x v

-- a fault is found: the function says where in the care set it stands, and none stands at a place before
pub record IsFoundIn {W : Type 0} (Fault : Spot → W → Type 0) (care f : W → Bool) (spots : List Spot) (x : Spot) : Type 0 where
  pub place : ℕ
  pub stands : At spots place x
  pub exact : (v : W) → (f v ≡ true) ↔ ((care v ≡ true) × Fault x v)
  pub before : (i : ℕ) (y : Spot) (v : W) → i < place → At spots i y → care v ≡ true → ¬ Fault y v

-- a fault of the phase is found at the place, at the bits of the sources
abbrev pub IsFoundAt : Comparison → ℕ → Spot → List Bool → Type 0
IsFoundAt k phase x bits = IsFinding k (finding_at phase x bits)

-- a valuation of the phase's sources, with a solution of the circuit and an assignment of the model there
pub record Case (k : Comparison) (phase : ℕ) : Type 0 where
  pub bits : List Bool
  pub solution : Partial
  pub assignment : Assignment
  pub solves : Solves k phase (setting_of k phase bits) solution
  pub assigns : Assigns k phase (setting_of k phase bits) assignment

-- the fault stands at the place in such a case
abbrev pub StandsIn : (k : Comparison) (phase : ℕ) → Spot → Case k phase → Type 0
StandsIn k phase x v = Stands k phase (setting_of k phase v.bits) v.solution v.assignment x.kind x.at

-- the function is the care set: it is 1 at the valuations that meet the constraints of the phase
abbrev pub IsCare : Comparison → ℕ → (List Bool → Bool) → Type 0
IsCare k phase care = (bits : List Bool) → IsValuation k phase bits → (care bits ≡ true) ↔ Meets k phase bits

-- there is a case at each valuation
abbrev pub HasCases : Comparison → ℕ → Type 0
HasCases k phase = (bits : List Bool) → IsValuation k phase bits → (v : Case k phase) × (v.bits ≡ bits)

-- the least valuation at which the function is 1
pub record IsLeastOf (k : Comparison) (phase : ℕ) (f : List Bool → Bool) (bits : List Bool) : Type 0 where
  pub width : IsValuation k phase bits
  pub holds : f bits ≡ true
  pub least : (more : List Bool) → IsValuation k phase more → f more ≡ true → is_less more bits ≡ false
