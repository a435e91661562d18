-- What is found in a phase.
use Rattle.std.specs.Prelude.{◌≡◌, ◌≢◌, ℕ, ◌+◌, ◌*◌, ◌^◌, ◌<◌, Bool, true, List, length, Option, Some, None, option_map}
use Rattle.bdd_core.specs.Diagram.{IsWithin}
use Rattle.bdd_core.specs.Store.{Diagrams, IsLive, IsSpan, function_of}
use Rattle.bdd_core.specs.declared.handle.H.{H}
use Rattle.bdd_ops.specs.Ops.{bits_of}
use Rattle.fault_places.specs.Searches.{IsLeastOf, Spot, finding_at}
use Rattle.phase_terms.specs.declared.found.PhaseFault.{PhaseFault}
use Rattle.phase_terms.specs.declared.found.PhaseFound.{PhaseFound}
use Rattle.phase_terms.specs.declared.found.PhaseFound.TheVariants.{Clear, Vacuous, Fault, Spent}
use Rattle.vrt_model.specs.Assignment.{Assignment}
use Rattle.vrt_model.specs.Comparison.{Comparison}
use Rattle.vrt_model.specs.Constraints.{meets}
use Rattle.vrt_model.specs.Equal.{IsPhaseEqual, IsVacuous}
use Rattle.vrt_model.specs.Faults.{Assigns, IsPrintedWith, Solves}
use Rattle.vrt_model.specs.Held.{setting_of, sources_of}
use Rattle.vrt_model.specs.Places.{IsFirstInPhase}
use Rattle.vrt_model.specs.Reading.{Partial}

-- whether a valuation meets the constraints of a phase
abbrev pub met : Comparison → ℕ → List Bool → Bool
met k phase bits = meets k phase (setting_of k phase bits)

-- the function of a handle, by the bits of the variables
abbrev pub at_bits : Diagrams → H → List Bool → Bool
at_bits d h bits = function_of d h (bits_of bits)

-- the place of a fault
abbrev pub fault_spot : PhaseFault → Spot
fault_spot fault = record { kind = fault.kind; at = fault.place }

-- handles of the values that a fault is printed with are live
abbrev pub AreValuesLive : Diagrams → Option (H × H) → Type 0
AreValuesLive d None = Unit {0}
AreValuesLive d (Some values) = IsLive d values.0 × IsLive d values.1

-- the bits of these values
abbrev pub circuit_bit : Diagrams → Option (H × H) → List Bool → Option Bool
circuit_bit d values bits = option_map (λ (p : H × H). at_bits d p.0 bits) values

abbrev pub wanted_bit : Diagrams → Option (H × H) → List Bool → Option Bool
wanted_bit d values bits = option_map (λ (p : H × H). at_bits d p.1 bits) values

-- The first fault of a phase. Its handle is live, not that of the constant 0, and reads the variables of the phase alone; at the
-- least valuation at which its function is 1 stands the first finding; and at each such valuation it is printed with these values.
pub record IsPhaseFault (k : Comparison) (phase : ℕ) (fault : PhaseFault) (d : Diagrams) : Type 0 where
  pub live : IsLive d fault.at
  pub some : fault.at.0 ≢ 0
  pub reads : IsWithin (length (sources_of k phase)) (function_of d fault.at)
  pub values : AreValuesLive d fault.values
  pub least : IsSpan d fault.least × (fault.least.len ≡ d.vars)
  pub first : (bits : List Bool) → IsLeastOf k phase (at_bits d fault.at) bits → IsFirstInPhase k (finding_at phase (fault_spot fault) bits)
  pub printed :
      (bits : List Bool) (a : Partial) (g : Assignment)
      → at_bits d fault.at bits ≡ true → Solves k phase (setting_of k phase bits) a → Assigns k phase (setting_of k phase bits) g
      → IsPrintedWith k phase (setting_of k phase bits) a g fault.kind fault.place (circuit_bit d fault.values bits) (wanted_bit d fault.values bits)

-- more than four variables, and more nodes than the budget has may be added by so many operations
pub record MaySpend (k : Comparison) (budget phase operations : ℕ) : Type 0 where
  pub many : 4 < length (sources_of k phase)
  pub passed : budget < 2 + 2 ^ length (sources_of k phase) * operations

-- equal in the phase; or no valuation meets its constraints; or its first fault; or the budget used up, where so many operations may do so,
-- and as many nodes are there
abbrev pub PhaseGives : Comparison → ℕ → ℕ → ℕ → Diagrams → PhaseFound → Type 0
PhaseGives k phase budget operations d (Clear open_phase) = IsPhaseEqual k phase
PhaseGives k phase budget operations d Vacuous = IsVacuous k phase
PhaseGives k phase budget operations d (Fault fault) = IsPhaseFault k phase fault d
PhaseGives k phase budget operations d Spent = MaySpend k budget phase operations × (length d.nodes ≡ budget)
