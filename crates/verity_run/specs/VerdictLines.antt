-- What a verdict's line takes from the flat circuit and the flat model of its cell.
use Rattle.std.specs.Prelude.{Option, option_map}
use Rattle.cell_room.specs.Flat.{Flattened}
use Rattle.vrt_model.specs.declared.circuit.Circuit.{Circuit}
use Rattle.vrt_model.specs.declared.flat_model.FlatModel.{FlatModel}

abbrev pub circuit_in : Option Flattened → Option Circuit
circuit_in flattened = option_map (λ (f : Flattened). f.circuit) flattened

abbrev pub model_in : Option Flattened → Option FlatModel
model_in flattened = option_map (λ (f : Flattened). f.model) flattened
