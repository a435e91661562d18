-- The devices, holds and instances of the checked circuit. Its nets are those of the flat circuit, with their numbers there:
-- a net inside a whole instance stays in the list and meets nothing.
use Rattle.std.specs.Prelude.{not, List, map, filter, flat_map, option_map, drop}
use Rattle.vrt_model.specs.Comparison.{cell_at}
use Rattle.vrt_model.specs.Cut.{Cut, NumberedPlace, is_inside_whole, moved_instance, shown}
use Rattle.vrt_model.specs.FlatCircuit.{flat_device, flat_holds, flat_instance}
use Rattle.vrt_model.specs.Unrolled.{Place, all_places}
use Rattle.vrt_model.specs.declared.circuit.Device.{Device}
use Rattle.vrt_model.specs.declared.circuit.FlatInstance.{FlatInstance}
use Rattle.vrt_model.specs.declared.circuit.Hold.{Hold}
use Rattle.vrt_model.specs.declared.circuit.HoldEnd.{HoldEnd}
use Rattle.vrt_model.specs.declared.circuit.HoldEnd.TheVariants.{Own, Latch}

-- the devices of the places that are shown
abbrev pub checked_devices : Cut → List Device
checked_devices cut =
    flat_map (λ (p : NumberedPlace). map (flat_device cut.top p.at) (cell_at cut.top.design p.at.cell).devices) (shown cut)

-- an end names an instance by its place among those that are shown
abbrev pub moved_end : Cut → HoldEnd → HoldEnd
moved_end cut (Own n) = Own n
moved_end cut (Latch instance element) = Latch (option_map (moved_instance cut) instance) element

-- all holds of the flat circuit, since a whole instance has none
abbrev pub checked_holds : Cut → List Hold
checked_holds cut = map (λ (h : Hold). record h { end = moved_end cut h.end }) (flat_holds cut.top)

-- the instances that are not inside a whole one
abbrev pub checked_instances : Cut → List FlatInstance
checked_instances cut =
    map flat_instance (filter (λ (at : Place). not (is_inside_whole cut at)) (drop 1 (all_places cut.top)))
