-- What holds of the comparison of a supported cell.
use Rattle.std.specs.Prelude.{◌≡◌, ℕ, ◌<◌, Bool, true, List, Some, length}
use Rattle.vrt_model.specs.Assignment.{Assignment}
use Rattle.vrt_model.specs.Comparison.{Comparison}
use Rattle.vrt_model.specs.Constraints.{Meets, meets_assumes}
use Rattle.vrt_model.specs.Faults.{Assigns, Solves, next_phase}
use Rattle.vrt_model.specs.Held.{setting_of}
use Rattle.vrt_model.specs.Lists.{At, Among}
use Rattle.vrt_model.specs.Reading.{Partial}
use Rattle.vrt_model.specs.Runs.{IsRelated, Memory, with_inputs}
use Rattle.vrt_model.specs.Variables.{enter_of}
use Rattle.vrt_model.specs.declared.circuit.Hold.{Hold}
use Rattle.vrt_model.specs.declared.groups.Group.{Group}
use Rattle.vrt_model.specs.declared.groups.Member.{Member}

-- each related memory, with inputs that meet the `assume` rules of the phase, is a valuation; the next phase is a phase;
-- groups have members, and members and entered places are holds
pub record IsSound (k : Comparison) : Type 0 where
  pub valuation :
      (phase : ℕ) (m : Memory) (inputs : ℕ → Bool) → IsRelated k phase m → meets_assumes k.design k.rules k.cell k.circuit phase inputs ≡ true
      → (bits : List Bool) × Meets k phase bits
      × ((a : Partial) → Solves k phase (with_inputs m inputs) a → Solves k phase (setting_of k phase bits) a)
      × ((g : Assignment) → Assigns k phase (with_inputs m inputs) g → Assigns k phase (setting_of k phase bits) g)
  pub follows : (phase : ℕ) → phase < length k.rules.phases → next_phase k.rules phase < length k.rules.phases
  pub member : (at : ℕ) (group : Group) (one : Member) → At k.groups at group → Among group.members one → (h : Hold) × At k.circuit.holds one.hold h
  pub least : (at : ℕ) (group : Group) → At k.groups at group → (one : Member) × At group.members 0 one
  pub entered : (phase place : ℕ) (v : Bool) → enter_of k.circuit phase place ≡ Some v → (h : Hold) × At k.circuit.holds place h
