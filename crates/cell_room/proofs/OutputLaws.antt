-- The output ports of a cell: which of them are alone in its flat circuit.
use Rattle.std.proofs.Common.{ℕ, Bool, List, length, map, refl, subst}
use Rattle.cell_room.proofs.CheckedLaws.{no_whole}
use Rattle.cell_room.specs.Checked.{IsCheckable}
use Rattle.cell_room.specs.Works.{ArePlans}
use Rattle.known_nets.proofs.WiredLaws.{flat_wired}
use Rattle.known_nets.specs.Wired.{IsWired}
use Rattle.lone_outputs.specs.Lone.{AreLoneBefore}
use Rattle.phase_terms.specs.declared.plan.PhasePlan.{PhasePlan}
use Rattle.port_drives.specs.Ports.{AreLonePorts, HaveKnownNets}
use Rattle.vrt_model.specs.Checked.{top_of}
use Rattle.vrt_model.specs.Circuits.{IsCircuit}
use Rattle.vrt_model.specs.Comparison.{Comparison}
use Rattle.vrt_model.specs.declared.blif.Blif.{Blif}
use Rattle.vrt_model.specs.declared.ids.Net.{Net}
use Rattle.vrt_model.specs.declared.whole.CellFacts.{CellFacts}

-- the flat circuit has no whole instance, so no output is at a net that is not plain
pub wired_flat : (k : Comparison) (blif : Blif) (facts : List CellFacts) → IsCheckable k blif facts → IsCircuit k.circuit → IsWired k.circuit
wired_flat k blif facts able formed = flat_wired k.circuit (record { wholes = no_whole (top_of k) k.circuit able.flat; devices = formed.devices; holds = formed.holds })

-- the plans have the known nets of their phases, so the marks of the ports are those of all phases
pub lone_by_plans : (k : Comparison) (plans : List PhasePlan) (nets : List Net) (lone : List Bool) → ArePlans k (length k.rules.phases) plans
    → AreLonePorts k.circuit plans nets (length plans) lone → AreLoneBefore k (length k.rules.phases) (map (λ (n : Net). n.0) nets) lone
lone_by_plans k plans nets lone are marks =
    let known : HaveKnownNets k plans = λ phase plan at. (are.each phase plan at).is.parts.1.known in
    subst (λ (upto : ℕ). AreLoneBefore k upto (map (λ (n : Net). n.0) nets) lone) are.count (marks k refl known)
