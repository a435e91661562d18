-- A cell with its model, flattened.
use Rattle.std.specs.Prelude.{◌≡◌, ℕ, List}
use Rattle.flatten.specs.Circuits.{IsFlatCircuit}
use Rattle.net_places.specs.Links.{IsUnrolled}
use Rattle.net_places.specs.Whole.{whole_of}
use Rattle.net_places.specs.declared.whole.Unrolled.{Unrolled}
use Rattle.vrt_model.specs.Comparison.{cell_at}
use Rattle.vrt_model.specs.FlatBlif.{flat_model_of}
use Rattle.vrt_model.specs.FlatModels.{IsFlatModel}
use Rattle.vrt_model.specs.Hierarchy.{IsOrdered}
use Rattle.vrt_model.specs.Inputs.{AreRules, IsBlif, IsDesign}
use Rattle.vrt_model.specs.Models.{AreModels}
use Rattle.vrt_model.specs.PairedPorts.{HasRoles, pairing_of}
use Rattle.vrt_model.specs.declared.blif.Blif.{Blif}
use Rattle.vrt_model.specs.declared.design.Design.{Design}
use Rattle.vrt_model.specs.declared.pairing.PortRole.{PortRole}
use Rattle.vrt_model.specs.declared.rules.Rules.{Rules}
use Rattle.whole_cells.specs.declared.own.Own.{Own}

-- a netlist whose cells have an order, with models and rules, as readers give them
pub record AreFiles (design : Design) (blif : Blif) (rules : Rules) : Type 0 where
  pub netlist : IsDesign design
  pub names : IsBlif blif
  pub models : AreModels blif
  pub valid : AreRules rules
  pub ordered : IsOrdered design rules

-- the places of a cell and its instances, whatever the roles of its ports are
abbrev pub AreItsPlaces : Design → Rules → ℕ → Unrolled → Type 0
AreItsPlaces design rules cell unrolled = (roles : List PortRole) → IsUnrolled (whole_of design rules cell roles) unrolled

-- the places, the flat circuit and the flat model of a cell, and their pairing, in whose way nothing stands
pub record IsOwn (design : Design) (blif : Blif) (rules : Rules) (cell m : ℕ) (own : Own) : Type 0 where
  pub model_is : own.model ≡ flat_model_of blif m
  pub pairing_is : own.pairing ≡ pairing_of design cell m own.model rules
  pub unrolled : AreItsPlaces design rules cell own.unrolled
  pub circuit : IsFlatCircuit design rules cell own.pairing own.circuit
  pub model : IsFlatModel own.model
  pub roles : HasRoles rules (cell_at design cell) own.pairing
