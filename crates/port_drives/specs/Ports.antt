-- The output ports of a cell: their nets, and which are alone in the phases of its comparison.
use Rattle.std.specs.Prelude.{◌≡◌, ℕ, ◌<◌, All, Bool, List, Option, length, map, option_map}
use Rattle.known_nets.specs.KnownTables.{IsKnownTable, known_at}
use Rattle.lone_outputs.specs.Lone.{AreLoneBefore, AreOutputNets}
use Rattle.phase_ports.specs.declared.port_list.Port.{Port}
use Rattle.phase_terms.specs.declared.plan.PhasePlan.{PhasePlan}
use Rattle.vrt_model.specs.Comparison.{Comparison, cell_at, output_signal, phase_at, port_nets}
use Rattle.vrt_model.specs.Lists.{At}
use Rattle.vrt_model.specs.PairedPorts.{HasRoles}
use Rattle.vrt_model.specs.declared.circuit.Circuit.{Circuit}
use Rattle.vrt_model.specs.declared.ids.Net.{Net}
use Rattle.vrt_model.specs.declared.pairing.Pairing.{Pairing}

-- ---- their nets

-- the net of a port that is an output
abbrev pub output_net : Port → Option Net
output_net port = option_map (λ (signal : ℕ). let net : Net = record { 0 = port.net } in net) (output_signal port.role)

-- the nets are those of the output ports of each comparison with this pairing
abbrev pub AreOutputNetsOf : Pairing → List Net → Type 0
AreOutputNetsOf pairing nets = (k : Comparison) → k.pairing ≡ pairing → HasRoles k.rules (cell_at k.design k.cell) k.pairing → AreOutputNets k nets

-- The law: they are nets of the circuit where those of all ports are.
abbrev pub OutputNetsAreWithin : Type 0
OutputNetsAreWithin =
    (k : Comparison) (nets : List Net) → AreOutputNets k nets → All (λ net. net < length k.circuit.nets) (port_nets k.rules (cell_at k.design k.cell).ports)
    → All (λ (n : Net). n.0 < length k.circuit.nets) nets

-- ---- alone

-- the plans have the known nets of the phases of a comparison
abbrev pub HaveKnownNets : Comparison → List PhasePlan → Type 0
HaveKnownNets k plans = (phase : ℕ) (plan : PhasePlan) → At plans phase plan → IsKnownTable k.circuit (phase_at k.rules phase) (known_at plan.parts.known)

-- the marks say which of the nets are alone in each of the first phases, in each comparison of the circuit whose plans these are
abbrev pub AreLonePorts : Circuit → List PhasePlan → List Net → ℕ → List Bool → Type 0
AreLonePorts c plans nets upto lone =
    (k : Comparison) → k.circuit ≡ c → HaveKnownNets k plans → AreLoneBefore k upto (map (λ (n : Net). n.0) nets) lone
