-- The arcs of the circuits of a chain have no cycle.
use Rattle.std.specs.Prelude.{◌≡◌, ℕ, ◌<◌, List, Some, length}
use Rattle.vrt_model.specs.Checked.{HasArcWith, IsChoice, IsCircuitWith, before}
use Rattle.vrt_model.specs.Comparison.{Comparison, CellPort, output_signal, phase_at, ports_of}
use Rattle.vrt_model.specs.Cut.{Cut, NumberedPlace, whole_places}
use Rattle.vrt_model.specs.FlatCircuit.{flat_circuit_of}
use Rattle.vrt_model.specs.Inputs.{AreRules}
use Rattle.vrt_model.specs.Known.{HasArc}
use Rattle.vrt_model.specs.Lists.{Among}
use Rattle.vrt_model.specs.PairedPorts.{Model, paired_model}
use Rattle.vrt_model.specs.Unrolled.{all_places}
use Rattle.vrt_model.specs.Unsupported.{IsAcyclic, comparison_of}
use Rattle.vrt_model.specs.declared.blif.Blif.{Blif}
use Rattle.vrt_model.specs.declared.circuit.Circuit.{Circuit}
use Rattle.vrt_model.specs.declared.whole.CellFacts.{CellFacts}

-- The law: at each place of the chain the arcs have no cycle in a phase, where those of the flat circuit have none.
abbrev pub ChainIsAcyclic : Type 0
ChainIsAcyclic =
    (cut : Cut) (blif : Blif) (facts : List CellFacts) (i phase : ℕ)
    → IsChoice cut blif facts → phase < length cut.top.rules.phases → i < length (all_places cut.top)
    → IsAcyclic (HasArc (flat_circuit_of cut.top) (phase_at cut.top.rules phase))
    → IsAcyclic (HasArcWith (before cut i) blif facts phase)

-- the outputs of a cell have different signals
abbrev pub AreOutputsApart : Comparison → Type 0
AreOutputsApart k =
    (a b : CellPort) (s : ℕ) → Among (ports_of k) a → Among (ports_of k) b → output_signal a.role ≡ Some s → output_signal b.role ≡ Some s
    → a.place ≡ b.place

-- those of each cell that is left whole have
abbrev pub AreWholeOutputsApart : Cut → Blif → Type 0
AreWholeOutputsApart cut blif =
    (p : NumberedPlace) (m : ℕ) → Among (whole_places cut) p → paired_model cut.top.design blif cut.top.rules p.at.cell ≡ Model m
    → AreOutputsApart (comparison_of cut.top.design blif cut.top.rules p.at.cell m)

-- The law: an arc of a circuit with its links is one of the circuit with a choice, where phases have different names.
abbrev pub ArcsAreOfChoice : Type 0
ArcsAreOfChoice =
    (cut : Cut) (blif : Blif) (facts : List CellFacts) (c : Circuit) (phase : ℕ)
    → AreRules cut.top.rules → AreWholeOutputsApart cut blif → IsCircuitWith cut blif facts c → phase < length cut.top.rules.phases
    → (from to : ℕ) → HasArc c (phase_at cut.top.rules phase) from to → HasArcWith cut blif facts phase from to

-- The law: so the arcs of each circuit of the chain have no cycle.
abbrev pub CircuitsAreAcyclic : Type 0
CircuitsAreAcyclic =
    (cut : Cut) (blif : Blif) (facts : List CellFacts) (c : Circuit) (i phase : ℕ)
    → AreRules cut.top.rules → AreWholeOutputsApart (before cut i) blif → IsChoice cut blif facts → IsCircuitWith (before cut i) blif facts c
    → phase < length cut.top.rules.phases → i < length (all_places cut.top)
    → IsAcyclic (HasArc (flat_circuit_of cut.top) (phase_at cut.top.rules phase))
    → IsAcyclic (HasArc c (phase_at cut.top.rules phase))
