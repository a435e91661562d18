-- How large the flat circuit of a cell is.
use Rattle.std.specs.Prelude.{◌≡◌, length}
use Rattle.flat_sizes.specs.declared.counts.FlatSizes.{FlatSizes}
use Rattle.vrt_model.specs.FlatCircuit.{flat_devices, flat_instances, flat_nets}
use Rattle.vrt_model.specs.Unrolled.{Top}
use Rattle.vrt_model.specs.Unsupported.{carried}

-- the counts of a flat circuit
pub record AreSizes (t : Top) (sizes : FlatSizes) : Type 0 where
  pub nets : sizes.nets ≡ carried (length (flat_nets t))
  pub devices : sizes.devices ≡ carried (length (flat_devices t))
  pub instances : sizes.instances ≡ carried (length (flat_instances t))
