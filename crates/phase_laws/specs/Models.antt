-- The assignments of a model at each list of bits.
use Rattle.std.specs.Prelude.{◌≡◌, ℕ, Bool, IsSome, false, true, List, unwrap_or}
use Rattle.blif_eval.specs.OneAssignment.{IsAssigned}
use Rattle.fault_places.specs.Searches.{Case}
use Rattle.phase_terms.specs.Found.{met}
use Rattle.vrt_model.specs.Assignment.{Assignment, Tied}
use Rattle.vrt_model.specs.Comparison.{Comparison, default_clock_bit, is_observed, phase_at, tied_inputs}
use Rattle.vrt_model.specs.Equal.{SameAssignment}
use Rattle.vrt_model.specs.Faults.{Assigns, Solves}
use Rattle.vrt_model.specs.Held.{setting_of}
use Rattle.vrt_model.specs.Lists.{Among}
use Rattle.vrt_model.specs.Reading.{Partial, clock_bit}
use Rattle.vrt_model.specs.declared.pairing.ClockedSignal.{ClockedSignal}

-- the bits that signals are given: where a signal carries a clock its bit, and where it is tied to a net the bit of the net
pub record AreGiven (k : Comparison) (phase : ℕ) (given : List Bool → ℕ → Bool) : Type 0 where
  pub clocked : (bits : List Bool) (c : ClockedSignal) → Among k.pairing.clocked c → given bits c.signal ≡ clock_bit (phase_at k.rules phase) c.clock
  pub tied : (bits : List Bool) (t : Tied) → Among (tied_inputs k) t → given bits t.signal ≡ (setting_of k phase bits).inputs t.net

-- exactly one assignment of the model at each list of bits, whatever its length
pub record HasOneModel (k : Comparison) (phase : ℕ) : Type 0 where
  pub some : (bits : List Bool) → (g : Assignment) × Assigns k phase (setting_of k phase bits) g
  pub one :
      (bits : List Bool) (g h : Assignment)
      → Assigns k phase (setting_of k phase bits) g → Assigns k phase (setting_of k phase bits) h → SameAssignment k g h

-- the bit of the default clock
abbrev pub default_bit : Comparison → ℕ → Bool
default_bit k phase = unwrap_or (default_clock_bit k.rules (phase_at k.rules phase)) false

-- an assignment of the model, by the bits that its inputs and clocks are given
abbrev pub IsAssignedAt : Comparison → ℕ → (List Bool → ℕ → Bool) → List Bool → Assignment → Type 0
IsAssignedAt k phase given bits g = IsAssigned k.model (default_bit k phase) (setting_of k phase bits).elements (given bits) g

-- a case at each list of bits
abbrev pub HasCaseAt : Comparison → ℕ → Type 0
HasCaseAt k phase = (bits : List Bool) → (v : Case k phase) × (v.bits ≡ bits)

-- at each list of bits that meets the constraints, each solution has a bit at each observed net
abbrev pub AreDefined : Comparison → ℕ → Type 0
AreDefined k phase =
    (bits : List Bool) (a : Partial) (n : ℕ) → met k phase bits ≡ true → Solves k phase (setting_of k phase bits) a → is_observed k phase n ≡ true → IsSome (a n)
