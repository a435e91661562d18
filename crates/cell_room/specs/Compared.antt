-- What is compared of a cell, and what is known of it before its phases.
use Rattle.std.specs.Prelude.{◌≡◌, ℕ, ◌<◌, None, length}
use Rattle.cell_room.specs.Flat.{Flattened}
use Rattle.flatten.specs.Structures.{IsStructured}
use Rattle.hold_groups.specs.Grouped.{AreGroups}
use Rattle.vrt_model.specs.Circuits.{IsCircuit, IsFlat}
use Rattle.vrt_model.specs.Comparison.{Comparison, cell_at}
use Rattle.vrt_model.specs.FlatBlif.{flat_model_of}
use Rattle.vrt_model.specs.FlatCircuit.{flat_circuit}
use Rattle.vrt_model.specs.FlatModels.{IsFlatModel}
use Rattle.vrt_model.specs.Groups.{groups_of}
use Rattle.vrt_model.specs.Hierarchy.{IsOrdered}
use Rattle.vrt_model.specs.Inputs.{AreRules, IsBlif, IsDesign}
use Rattle.vrt_model.specs.Models.{AreModels}
use Rattle.vrt_model.specs.PairedPorts.{HasRoles, Model, output_is_input, paired_model, pairing_of, ports_fault}
use Rattle.vrt_model.specs.Unsupported.{latch_without_clock, model_limits, too_large, top_before, unmatched}
use Rattle.vrt_model.specs.declared.blif.Blif.{Blif}
use Rattle.vrt_model.specs.declared.circuit.Circuit.{Circuit}
use Rattle.vrt_model.specs.declared.design.Design.{Design}
use Rattle.vrt_model.specs.declared.flat_model.FlatModel.{FlatModel}
use Rattle.vrt_model.specs.declared.pairing.Pairing.{Pairing}
use Rattle.vrt_model.specs.declared.rules.Rules.{Rules}

-- a netlist, models and rules that can be checked cell by cell, and a cell of the netlist
pub record AreInputs (design : Design) (blif : Blif) (rules : Rules) (cell : ℕ) : Type 0 where
  pub netlist : IsDesign design
  pub names : IsBlif blif
  pub models : AreModels blif
  pub valid : AreRules rules
  pub there : cell < length design.cells
  pub ordered : IsOrdered design rules

-- the comparison of a cell
abbrev pub comparison : Design → Rules → ℕ → Flattened → Comparison
comparison design rules cell f = record {
  design = design;
  rules = rules;
  cell = cell;
  pairing = f.pairing;
  circuit = f.circuit;
  model = f.model;
  groups = f.groups;
}

-- a circuit and a model with their pairing, with the groups of the circuit's holds, which reach each element of the model
pub record IsGrouped (design : Design) (rules : Rules) (cell : ℕ) (pairing : Pairing) (circuit : Circuit) (model : FlatModel) (f : Flattened) : Type 0 where
  pub pairing_is : f.pairing ≡ pairing
  pub circuit_is : f.circuit ≡ circuit
  pub model_is : f.model ≡ model
  pub groups_are : f.groups ≡ groups_of circuit model
  pub groups : AreGroups circuit f.groups
  pub matched : unmatched rules (cell_at design cell).name model f.groups ≡ None

-- what is known of a cell before its phases: its model, its flat circuit and flat model, their pairing and the groups of its
-- holds, none of which has anything in its way
pub record IsFlattened (design : Design) (blif : Blif) (rules : Rules) (cell m : ℕ) (f : Flattened) : Type 0 where
  pub paired : paired_model design blif rules cell ≡ Model m
  pub structured : IsStructured (top_before design rules cell)
  pub small : too_large (model_limits blif m) ≡ None
  pub ports : ports_fault design cell f.model rules ≡ None
  pub outputs : output_is_input f.model ≡ None
  pub clock : latch_without_clock f.model rules ≡ None
  pub matched : unmatched rules (cell_at design cell).name f.model f.groups ≡ None
  pub model_is : f.model ≡ flat_model_of blif m
  pub pairing_is : f.pairing ≡ pairing_of design cell m f.model rules
  pub circuit_is : f.circuit ≡ flat_circuit design rules cell f.pairing
  pub groups_are : f.groups ≡ groups_of f.circuit f.model
  pub roles : HasRoles rules (cell_at design cell) f.pairing
  pub model : IsFlatModel f.model
  pub circuit : IsCircuit f.circuit
  pub flat : IsFlat f.circuit
  pub groups : AreGroups f.circuit f.groups
