-- Instances that are tried together: whether arcs have a cycle is asked once, of the circuit in which all of them are whole.
use Rattle.std.specs.Prelude.{◌≡◌, ◌↔◌, ℕ, suc, ◌<◌, true, false, List, length}
use Rattle.replaced_instances.specs.Steps.{IsAllowedInstance}
use Rattle.whole_circuits.specs.Acyclic.{AreAcyclic}
use Rattle.substitution_laws.specs.Chosen.{IsTrial}
use Rattle.vrt_model.specs.Checked.{HasArcWith, IsChoice, IsCircuitWith, MayBeWhole, before}
use Rattle.vrt_model.specs.Circuits.{IsCircuit}
use Rattle.vrt_model.specs.Comparison.{phase_at}
use Rattle.vrt_model.specs.Cut.{Cut, NumberedPlace, is_inside_whole, numbered_places, whole_places}
use Rattle.vrt_model.specs.FlatCircuit.{flat_circuit_of, flat_nets}
use Rattle.vrt_model.specs.Known.{HasArc, IsKnown}
use Rattle.vrt_model.specs.Lists.{Among, At}
use Rattle.vrt_model.specs.PairedPorts.{Model, paired_model}
use Rattle.vrt_model.specs.Reading.{clock_bit}
use Rattle.vrt_model.specs.Unrolled.{all_places}
use Rattle.vrt_model.specs.Unsupported.{IsAcyclic, comparison_of}
use Rattle.vrt_model.specs.WholeInstances.{Pin, pins_of}
use Rattle.vrt_model.specs.declared.blif.Blif.{Blif}
use Rattle.vrt_model.specs.declared.circuit.Circuit.{Circuit}
use Rattle.vrt_model.specs.declared.circuit.FlatNet.{FlatNet}
use Rattle.vrt_model.specs.declared.circuit.NetKind.TheVariants.{Clock as ClockNet}
use Rattle.vrt_model.specs.declared.pairing.PortRole.TheVariants.{Clock}
use Rattle.vrt_model.specs.declared.rules.ClockRef.{ClockRef}
use Rattle.vrt_model.specs.declared.whole.CellFacts.{CellFacts}

-- ---- clock ports

-- A clock port has its bit in a cell alone, and so it is known there; around an instance it need not be. In a phase the net of each clock port of
-- an instance that is left whole is known in the circuit, with the clock's bit.
abbrev pub AreClocksKnown : Cut → Blif → Circuit → ℕ → Type 0
AreClocksKnown cut blif c phase =
    (p : NumberedPlace) (m : ℕ) (pin : Pin) (clock : ClockRef)
    → Among (whole_places cut) p → paired_model cut.top.design blif cut.top.rules p.at.cell ≡ Model m
    → Among (pins_of (comparison_of cut.top.design blif cut.top.rules p.at.cell m) p.at) pin → pin.port.role ≡ Clock clock
    → IsKnown c (phase_at cut.top.rules phase) pin.net.0 (clock_bit (phase_at cut.top.rules phase) clock)

-- each is at a net that carries the same clock
abbrev pub AreClocksCarried : Cut → Blif → Type 0
AreClocksCarried cut blif =
    (p : NumberedPlace) (m : ℕ) (pin : Pin) (clock : ClockRef)
    → Among (whole_places cut) p → paired_model cut.top.design blif cut.top.rules p.at.cell ≡ Model m
    → Among (pins_of (comparison_of cut.top.design blif cut.top.rules p.at.cell m) p.at) pin → pin.port.role ≡ Clock clock
    → (net : FlatNet) × At (flat_nets cut.top) pin.net.0 net × (net.kind ≡ ClockNet clock)

-- The law: so it is known in each phase.
abbrev pub CarriedClocksAreKnown : Type 0
CarriedClocksAreKnown =
    (cut : Cut) (blif : Blif) (facts : List CellFacts) (c : Circuit) (phase : ℕ)
    → IsCircuitWith cut blif facts c → AreClocksCarried cut blif → AreClocksKnown cut blif c phase

-- ---- trials

-- instances that are allowed one besides the other in a well-formed flat circuit, whatever is told of drives, with the circuit in which all of them
-- are whole; their clock ports are known there in the phase
pub record IsTrialInPhase (cut : Cut) (blif : Blif) (facts : List CellFacts) (c : Circuit) (phase : ℕ) : Type 0 where
  pub trial : IsTrial cut blif facts
  pub formed : IsCircuit (flat_circuit_of cut.top)
  pub circuit : IsCircuitWith cut blif facts c
  pub there : phase < length cut.top.rules.phases
  pub clocks : AreClocksKnown cut blif c phase

-- The law: where the arcs have no cycle with the instances up to one whole, they have none with those before it whole.
abbrev pub AnyStepKeepsAcyclic : Type 0
AnyStepKeepsAcyclic =
    (cut : Cut) (blif : Blif) (facts : List CellFacts) (c : Circuit) (i phase : ℕ)
    → IsTrialInPhase cut blif facts c phase → suc i < length (all_places cut.top)
    → IsAcyclic (HasArcWith (before cut (suc i)) blif facts phase) → IsAcyclic (HasArcWith (before cut i) blif facts phase)

-- The law: so where they have none with all of them whole, they have none with those before any of them whole, nor has the flat circuit.
abbrev pub AnyTrialsAreAcyclic : Type 0
AnyTrialsAreAcyclic =
    (cut : Cut) (blif : Blif) (facts : List CellFacts) (c : Circuit) (phase : ℕ)
    → IsTrialInPhase cut blif facts c phase → IsAcyclic (HasArc c (phase_at cut.top.rules phase))
    → ((i : ℕ) → IsAcyclic (HasArcWith (before cut i) blif facts phase))
    × IsAcyclic (HasArc (flat_circuit_of cut.top) (phase_at cut.top.rules phase))

-- so in each phase, and the arcs of the circuit in which all are whole have no cycle in any
pub record IsAcyclicTrial (cut : Cut) (blif : Blif) (facts : List CellFacts) (c : Circuit) : Type 0 where
  pub trial : IsTrial cut blif facts
  pub formed : IsCircuit (flat_circuit_of cut.top)
  pub circuit : IsCircuitWith cut blif facts c
  pub clocks : (phase : ℕ) → phase < length cut.top.rules.phases → AreClocksKnown cut blif c phase
  pub acyclic : AreAcyclic c cut.top.rules.phases

-- The law: then each of the instances may be left whole besides those before it.
abbrev pub AnyTriedMayBeWhole : Type 0
AnyTriedMayBeWhole =
    (cut : Cut) (blif : Blif) (facts : List CellFacts) (c : Circuit) (i : ℕ) (p : NumberedPlace)
    → IsAcyclicTrial cut blif facts c → At (numbered_places cut.top) (suc i) p → cut.choice i ≡ true
    → (is_inside_whole (before cut i) p.at ≡ false) × ((m : ℕ) × MayBeWhole (before cut i) blif facts i p m)

-- an instance is chosen exactly where it is not inside a whole one and is allowed besides those before it
abbrev pub IsChoiceOfAllowed : Cut → Blif → List CellFacts → Type 0
IsChoiceOfAllowed cut blif facts =
    (i : ℕ) (p : NumberedPlace) → At (numbered_places cut.top) (suc i) p
    → (cut.choice i ≡ true) ↔ ((is_inside_whole (before cut i) p.at ≡ false) × ((m : ℕ) × IsAllowedInstance (before cut i) blif facts i p m))

-- The law: so all that are allowed are chosen as the definition asks, without a look at cycles on the way.
abbrev pub AnyAllowedAreChosen : Type 0
AnyAllowedAreChosen =
    (cut : Cut) (blif : Blif) (facts : List CellFacts) (c : Circuit)
    → IsChoiceOfAllowed cut blif facts → IsAcyclicTrial cut blif facts c → IsChoice cut blif facts
