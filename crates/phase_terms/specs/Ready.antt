-- Which comparisons are looked through phase by phase.
use Rattle.std.specs.Prelude.{◌≡◌, ◌≢◌, ℕ, ◌<◌, ◌⊎◌, All, ◌++◌, bytes_eq, length, Some}
use Rattle.circuit_faults.specs.Keys.{HasAllPorts}
use Rattle.circuit_faults.specs.Wholes.{HasSoundWholes}
use Rattle.constraints.specs.Obliged.{AreNamed}
use Rattle.hold_groups.specs.Grouped.{AreGroups}
use Rattle.phase_terms.specs.declared.compared.Comparison.{Comparison as CellComparison}
use Rattle.vrt_model.specs.Assignment.{Tied}
use Rattle.vrt_model.specs.Circuits.{IsCircuit}
use Rattle.vrt_model.specs.Comparison.{CellPort, Comparison, cell_at, is_observed, output_signal, phase_at, port_nets, ports_of, tied_inputs}
use Rattle.vrt_model.specs.Elements.{element_names}
use Rattle.vrt_model.specs.FlatModels.{HasOneBitEach, IsFlatModel}
use Rattle.vrt_model.specs.Inputs.{AllApart, AreRules}
use Rattle.vrt_model.specs.Lists.{Among, At}
use Rattle.vrt_model.specs.PairedPorts.{HasRoles}
use Rattle.vrt_model.specs.declared.circuit.FlatInstance.{FlatInstance}
use Rattle.vrt_model.specs.declared.circuit.FlatNet.{FlatNet}
use Rattle.vrt_model.specs.declared.circuit.NetKind.TheVariants.{Input}
use Rattle.vrt_model.specs.declared.groups.Group.{Group}
use Rattle.vrt_model.specs.declared.pairing.ClockedSignal.{ClockedSignal}

-- the comparison that the code has
abbrev pub comparison_in : CellComparison → Comparison
comparison_in s = record {
  design = s.design.now;
  rules = s.rules.now;
  cell = s.cell;
  pairing = s.pairing.now;
  circuit = s.circuit.now;
  model = s.model.now;
  groups = s.groups.now;
}

-- a signal carries a clock
abbrev pub IsClocked : Comparison → ℕ → Type 0
IsClocked k s = (c : ClockedSignal) × Among k.pairing.clocked c × (c.signal ≡ s)

-- a signal has the bit of a port's net
abbrev pub IsTiedTo : Comparison → ℕ → Type 0
IsTiedTo k s = (t : Tied) × Among (tied_inputs k) t × (t.signal ≡ s)

-- an input or a clock of the model
abbrev pub IsModelInput : Comparison → ℕ → Type 0
IsModelInput k s = Among (k.model.inputs ++ k.model.clocks) s

-- each input and clock of the model carries a clock, or has the bit of an input net, and of one alone
pub record HasPairedInputs (k : Comparison) : Type 0 where
  pub all : (s : ℕ) → IsModelInput k s → IsClocked k s ⊎ IsTiedTo k s
  pub clocked : (c : ClockedSignal) → Among k.pairing.clocked c → IsModelInput k c.signal
  pub tied : (t : Tied) → Among (tied_inputs k) t → IsModelInput k t.signal
  pub nets : (t : Tied) → Among (tied_inputs k) t → (net : FlatNet) × At k.circuit.nets t.net net × (net.kind ≡ Input)
  pub below : (s : ℕ) → IsModelInput k s → s < length k.model.signals
  pub apart : (c : ClockedSignal) (t : Tied) → Among k.pairing.clocked c → Among (tied_inputs k) t → c.signal ≢ t.signal
  pub one_net : (t u : Tied) → Among (tied_inputs k) t → Among (tied_inputs k) u → t.signal ≡ u.signal → t.net ≡ u.net
  pub one_clock : (c d : ClockedSignal) → Among k.pairing.clocked c → Among k.pairing.clocked d → c.signal ≡ d.signal → c.clock ≡ d.clock

-- an instance has a net for each port of its cell, whose ports have different names, and the lines of the cell name ports of it
pub record IsNamedInstance (k : Comparison) (i : FlatInstance) : Type 0 where
  pub ports : HasAllPorts k.design i
  pub apart : AllApart bytes_eq (cell_at k.design i.cell).ports
  pub named : AreNamed k.rules (cell_at k.design i.cell)

-- A comparison of a well-formed circuit with a well-formed model: each output of a whole instance is at a plain net and follows in
-- each phase from observed inputs that are linked to it, the ports pair, each hold is in one group, no output has two don't-care bits,
-- and what lines and groups name is there. It may have instances, holds, latches, keepers and constraints.
pub record IsReady (k : Comparison) : Type 0 where
  pub rules : AreRules k.rules
  pub cell : k.cell < length k.design.cells
  pub circuit : IsCircuit k.circuit
  pub wholes : (phase : ℕ) → phase < length k.rules.phases → HasSoundWholes k.circuit (phase_at k.rules phase) (is_observed k phase)
  pub model : IsFlatModel k.model
  pub dontcares : HasOneBitEach k.model
  pub roles : HasRoles k.rules (cell_at k.design k.cell) k.pairing
  pub ports : All (λ net. net < length k.circuit.nets) (port_nets k.rules (cell_at k.design k.cell).ports)
  pub outputs : (at : ℕ) (port : CellPort) (signal : ℕ) → At (ports_of k) at port → output_signal port.role ≡ Some signal → signal < length k.model.signals
  pub inputs : HasPairedInputs k
  pub groups : AreGroups k.circuit k.groups
  pub elements : (g : Group) (e : ℕ) → Among k.groups g → g.element ≡ Some e → e < length (element_names k.model)
  pub instances : All (IsNamedInstance k) k.circuit.instances
