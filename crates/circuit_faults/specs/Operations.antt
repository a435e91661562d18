-- How many operations are made, and what a refusal says.
use Rattle.std.specs.Prelude.{◌≡◌, ℕ, ◌+◌, ◌*◌, ◌==◌, List, cond, length, option_map, slice_get, sum_by, unwrap_or}
use Rattle.std.specs.List.{list_any}
use Rattle.bdd_core.specs.Store.{Diagrams}
use Rattle.bdd_core.specs.declared.handle.Spent.{Spent}
use Rattle.channel_parts.specs.declared.part.Part.{Part}
use Rattle.vrt_model.specs.declared.circuit.Circuit.{Circuit}
use Rattle.circuit_faults.specs.Steps.{InPhase}
use Rattle.circuit_faults.specs.declared.steps.CircuitStep.{CircuitStep}
use Rattle.circuit_faults.specs.declared.steps.CircuitStep.TheVariants.{Part as PartStep, Instance as InstanceStep}
use Rattle.constraints.specs.Obliged.{has_lines, obligation_size}
use Rattle.path_fixpoint.specs.Spending.{solving_operations}
use Rattle.vrt_model.specs.declared.circuit.FlatInstance.{FlatInstance}
use Rattle.vrt_model.specs.declared.ids.Net.{Net}
use Rattle.vrt_model.specs.declared.whole.Whole.{Whole}
use Rattle.vrt_model.specs.declared.whole.WholePin.{WholePin}
use Rattle.whole_steps.specs.Evaluations.{evaluation_operations}

-- the refusal tells the budget, and as many nodes are there
abbrev pub IsUsedUp : Diagrams → Diagrams → Spent → Type 0
IsUsedUp old new spent = (spent.nodes ≡ old.budget) × (length new.nodes ≡ old.budget)

-- of the outputs at a net: the model of each instance that has one there is evaluated once
abbrev pub instance_evaluation : ℕ → Whole → ℕ
instance_evaluation n w = cond (list_any (λ (p : WholePin). p.net.0 == n) w.outputs) (evaluation_operations w) 0

abbrev pub net_operations : Circuit → ℕ → ℕ
net_operations c n = sum_by (instance_evaluation n) c.wholes

-- of the outputs at the nets of a part
abbrev pub outputs_operations : Circuit → Part → ℕ
outputs_operations c part = sum_by (λ (net : Net). net_operations c net.0) part.nets

-- of a part: its outputs, to solve it, and four for each net
abbrev pub part_operations : Circuit → Part → ℕ
part_operations c part = outputs_operations c part + (solving_operations c part + 4 * length part.nets)

abbrev pub circuit_operations : Circuit → List Part → ℕ
circuit_operations c parts = sum_by (part_operations c) parts

-- of the kept circuit: to solve all its parts, and twenty for each net
abbrev pub kept_operations : Circuit → List Part → ℕ
kept_operations c parts = sum_by (solving_operations c) parts + 20 * length c.nets

-- of an instance: its lines, and two
abbrev pub instance_operations : InPhase → FlatInstance → ℕ
instance_operations w i = 20 * obligation_size w.design w.rules i w.phase + 2

-- the same where its cell has a line for the phase; else it is no step
abbrev pub constraint_operations : InPhase → FlatInstance → ℕ
constraint_operations w i = cond (has_lines w.design w.rules w.phase i) (instance_operations w i) 0

-- of a step: those of its part or of its instance
abbrev pub step_operations : InPhase → CircuitStep → ℕ
step_operations w (PartStep number) = unwrap_or (option_map (part_operations w.circuit) (slice_get w.parts number)) 0
step_operations w (InstanceStep at) = unwrap_or (option_map (instance_operations w) (slice_get w.circuit.instances at)) 0

abbrev pub steps_operations : InPhase → ℕ
steps_operations w = sum_by (step_operations w) w.steps
