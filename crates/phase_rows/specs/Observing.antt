-- Marks of the observed nets, and what is asked where faults are looked for.
use Rattle.std.specs.Prelude.{◌≡◌, ℕ, ◌<◌, All, Bool, true, List, length}
use Rattle.channel_parts.specs.OneSolution.{AreObserved}
use Rattle.circuit_faults.specs.KeptFaults.{AreKeptObserved}
use Rattle.circuit_faults.specs.Keys.{HasAllPorts}
use Rattle.vrt_model.specs.Circuits.{IsFlat}
use Rattle.vrt_model.specs.Comparison.{phase_at}
use Rattle.vrt_model.specs.Hierarchy.{IsOrdered}
use Rattle.vrt_model.specs.Inputs.{AreRules, IsDesign}
use Rattle.vrt_model.specs.Lists.{mark_at}
use Rattle.vrt_model.specs.declared.circuit.Circuit.{Circuit}
use Rattle.vrt_model.specs.declared.circuit.FlatInstance.{FlatInstance}
use Rattle.vrt_model.specs.declared.design.Design.{Design}
use Rattle.vrt_model.specs.declared.ids.Net.{Net}
use Rattle.vrt_model.specs.declared.rules.Phase.{Phase}
use Rattle.vrt_model.specs.declared.rules.Rules.{Rules}

-- an instance is of a cell of the netlist, and has a marked net for each of its ports
pub record IsSeen (design : Design) (marks : List Bool) (i : FlatInstance) : Type 0 where
  pub cell : i.cell < length design.cells
  pub ports : HasAllPorts design i
  pub marked : All (λ (net : Net). mark_at marks net.0 ≡ true) i.ports

-- one mark for each net, as the calls ask
pub record IsObserving (design : Design) (c : Circuit) (marks : List Bool) : Type 0 where
  pub len : length marks ≡ length c.nets
  pub bare : AreObserved c (mark_at marks)
  pub kept : AreKeptObserved c (mark_at marks)
  pub seen : All (IsSeen design marks) c.instances

-- the netlist, the rules and the circuit are as they are to be, the phase is that of the number, and the marks fit
pub record IsSearched (design : Design) (rules : Rules) (c : Circuit) (phase : Phase) (number : ℕ) (marks : List Bool) : Type 0 where
  pub netlist : IsDesign design
  pub ruled : AreRules rules
  pub ordered : IsOrdered design rules
  pub flat : IsFlat c
  pub phase_is : phase ≡ phase_at rules number
  pub observing : IsObserving design c marks
