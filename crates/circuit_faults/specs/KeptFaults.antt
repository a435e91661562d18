-- The faults of the kept circuit: plain nets that both values reach, and observed nets that do not keep their bits.
use Rattle.std.specs.Prelude.{◌≡◌, ℕ, Bool, true, false, List, [], ◌∷◌, length, Some}
use Rattle.std.specs.List.{range_with_len}
use Rattle.bdd_core.specs.Diagram.{Valuation}
use Rattle.channel_parts.specs.OneSolution.{AreObserved}
use Rattle.circuit_faults.specs.Faults.{SolvedCase}
use Rattle.fault_places.specs.PhaseSpots.{spots_each}
use Rattle.fault_places.specs.Searches.{Spot}
use Rattle.vrt_model.specs.Known.{IsPlain}
use Rattle.vrt_model.specs.Lists.{Among}
use Rattle.vrt_model.specs.Reading.{Partial, kept}
use Rattle.vrt_model.specs.Response.{Fight as Fights, IsResponse, Shows}
use Rattle.vrt_model.specs.Solution.{Agrees, AlwaysResponds}
use Rattle.vrt_model.specs.State.{IsState, Setting, State, network_of}
use Rattle.vrt_model.specs.declared.circuit.Circuit.{Circuit}
use Rattle.vrt_model.specs.declared.circuit.Device.{Device}
use Rattle.vrt_model.specs.declared.rules.Phase.{Phase}
use Rattle.vrt_model.specs.declared.verdict.FaultKind.{FaultKind}
use Rattle.vrt_model.specs.declared.verdict.FaultKind.TheVariants.{Fight, FightKept, Float, Unsettled, Constraint, Differs, Next, Apart, Enter}

-- no device is a keeper: the kept circuit is the bare one
abbrev pub HasNoKeeper : Circuit → Type 0
HasNoKeeper c = (d : Device) → Among c.devices d → d.keeper ≡ false

-- the gates of the devices are observed, those of keepers too, and nets of the circuit alone are
abbrev pub AreKeptObserved : Circuit → (ℕ → Bool) → Type 0
AreKeptObserved c observed = AreObserved c observed × ((d : Device) → Among c.devices d → observed d.gate.0 ≡ true)

-- the kept circuit shows the bit of the net in no state that agrees with the solution
abbrev pub NeverKeeps : Circuit → Phase → (ℕ → Bool) → Setting → Partial → ℕ → Type 0
NeverKeeps c phase observed setting a n =
    (s : State) → IsState c phase setting.inputs s → Agrees observed a s.reading
    → (v : Bool) → a n ≡ Some v → ¬ IsResponse (network_of c kept setting.held s) n (Shows v)

-- a fault of this kind stands at the net, where a is a solution: a fight at a plain net, a lost bit at an observed one
abbrev pub HasKeptFault : Circuit → Phase → (ℕ → Bool) → Setting → Partial → FaultKind → ℕ → Type 0
HasKeptFault c phase observed setting a FightKept n = IsPlain c n × AlwaysResponds c phase observed setting a kept n Fights
HasKeptFault c phase observed setting a Unsettled n = (observed n ≡ true) × NeverKeeps c phase observed setting a n
HasKeptFault c phase observed setting a Fight n = ⊥
HasKeptFault c phase observed setting a Float n = ⊥
HasKeptFault c phase observed setting a Constraint n = ⊥
HasKeptFault c phase observed setting a Differs n = ⊥
HasKeptFault c phase observed setting a Next n = ⊥
HasKeptFault c phase observed setting a Apart n = ⊥
HasKeptFault c phase observed setting a Enter n = ⊥

-- the fault stands at the place in such a case
abbrev pub StandsKept : (c : Circuit) (phase : Phase) (observed : ℕ → Bool) (root : Valuation → ℕ → Bool) → Spot → SolvedCase c phase observed root → Type 0
StandsKept c phase observed root x v = HasKeptFault c phase observed v.setting v.solution x.kind x.at

-- the places of a circuit: net by net a fight before a lost bit
abbrev pub kept_spots : Circuit → List Spot
kept_spots c = spots_each (FightKept ∷ Unsettled ∷ []) (range_with_len 0 (length c.nets))
