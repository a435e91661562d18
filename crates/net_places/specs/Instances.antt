-- The instances at places.
use Rattle.std.specs.Prelude.{◌<◌, ◌^◌, List}
use Rattle.net_places.specs.declared.places.Place.{Place}
use Rattle.vrt_model.specs.Lists.{Among}
use Rattle.vrt_model.specs.declared.circuit.FlatInstance.{FlatInstance}

-- the numbers of the cells fit 32 bits
abbrev pub AreSmall : List Place → Type 0
AreSmall places = (p : Place) → Among places p → p.cell < 2 ^ 32

-- the instance at a place
abbrev pub instance_by : Place → FlatInstance
instance_by p = record { path = p.path; cell = p.cell; ports = p.ports }
