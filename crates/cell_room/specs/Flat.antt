-- What is made of a cell: its flat circuit and flat model, their pairing, and the groups of its holds.
use Rattle.std.specs.Prelude.{List}
use Rattle.vrt_model.specs.declared.circuit.Circuit.{Circuit}
use Rattle.vrt_model.specs.declared.flat_model.FlatModel.{FlatModel}
use Rattle.vrt_model.specs.declared.groups.Group.{Group}
use Rattle.vrt_model.specs.declared.pairing.Pairing.{Pairing}

pub record Flattened : Type 0 where
  pub pairing : Pairing
  pub circuit : Circuit
  pub model : FlatModel
  pub groups : List Group
