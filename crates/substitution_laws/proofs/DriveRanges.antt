-- What is told of how strongly outputs of equal cells drive is a level of devices.
use Rattle.std.proofs.Common.{◌≡◌, ℕ, suc, ◌<◌, List, [], length, refl, sym, ◌∙◌}
use Rattle.std.specs.Prelude.{is_some}
use Rattle.formed_cells.specs.Formed.{IsFormed}
use Rattle.placed_cells.proofs.SplitLaws.{places_in_stand_together}
use Rattle.replaced_instances.proofs.ChosenSteps.{told_drive}
use Rattle.replaced_instances.proofs.StepHides.{output_observed}
use Rattle.replaced_instances.proofs.StepPorts.{no_holds, output_drive, output_plain, place_there, port_of_output, told}
use Rattle.replaced_instances.specs.Steps.{IsStep, compared_at}
use Rattle.vrt_model.proofs.Filtered.{filter_among}
use Rattle.vrt_model.proofs.Scales.{same_device_level}
use Rattle.vrt_model.specs.Circuits.{IsDrive}
use Rattle.vrt_model.specs.Comparison.{CellPort, Comparison, output_signal, ports_of}
use Rattle.vrt_model.specs.Cut.{Cut, NumberedPlace}
use Rattle.vrt_model.specs.Facts.{HasLevel, IsAloneInside, output_ports}
use Rattle.vrt_model.specs.FlatCircuit.{flat_circuit_of}
use Rattle.vrt_model.specs.Levels.{IsDeviceLevel, source_of}
use Rattle.vrt_model.specs.Lists.{Among, At}
use Rattle.vrt_model.specs.Networks.{HasRanges}
use Rattle.vrt_model.specs.Unrolled.{Top}
use Rattle.vrt_model.specs.WholeInstances.{OutputAt, drive_in, outputs_of_place}
use Rattle.vrt_model.specs.declared.blif.Blif.{Blif}
use Rattle.vrt_model.specs.declared.circuit.Circuit.{Circuit}
use Rattle.vrt_model.specs.declared.whole.CellFacts.{CellFacts}
use Rattle.vrt_model.specs.declared.whole.Drive.{Drive}
use Rattle.vrt_model.specs.declared.whole.Drive.TheVariants.{Soft, Level}
use Rattle.substitution_laws.proofs.EqualStates.{level_in_range}

pub flat_source : (t : Top) → (flat_circuit_of t).source ≡ source_of t.rules
unfolding flat_circuit_of
flat_source t = refl

module _ (cut : Cut) (blif : Blif) (facts : List CellFacts) (i : ℕ) (p : NumberedPlace) (m : ℕ) (step : IsStep cut blif facts i p m)
    (formed : IsFormed (compared_at cut.top blif p m)) (some_phase : 0 < length cut.top.rules.phases) where
  abbrev q : Comparison
  q = compared_at cut.top blif p m

  ranges_there : HasRanges q.circuit
  ranges_there = record { devices = formed.circuit.devices; holds = formed.circuit.holds; wholes = formed.circuit.wholes }

  no_wholes : q.circuit.wholes ≡ []
  unfolding flat_circuit_of
  no_wholes = refl

  told_level : (j : ℕ) (port : CellPort) (level : ℕ) → At (output_ports q) j port → drive_in facts p.at.cell j ≡ Level level → IsDeviceLevel q.circuit level
  told_level j port level there e =
      let f = told cut blif facts i p m step in
      let split = places_in_stand_together cut.top (suc i) p.at (place_there cut blif facts i p m step) in
      let out = filter_among (λ (x : CellPort). is_some (output_signal x.role)) (ports_of q) port (j, there) in
      let plain = (output_plain cut blif facts i p m step port (j, there)).1 in
      let seen = output_observed cut blif facts i p m step split.0 split.1 split.2 split.3 0 port some_phase out.0 out.1 in
      let is_told : HasLevel q port.net level × IsAloneInside q port = told_drive cut blif facts i p m step j port level there e in
      level_in_range q 0 (f.2.equal f.1 0 some_phase) ranges_there (no_holds cut blif facts i p m step) no_wholes port.net level some_phase plain seen is_told.0

  source_there : q.circuit.source ≡ source_of cut.top.rules
  unfolding flat_circuit_of
  source_there = refl

  -- its drive is in range, in each circuit with the source level of the rules
  pub told_in_range : (c : Circuit) → c.source ≡ source_of cut.top.rules → (o : OutputAt) → Among (outputs_of_place cut.top blif facts p) o → IsDrive c o.pin.drive
  told_in_range c source o (j, e) = by_drive o.pin.drive (sym (output_drive cut blif facts i p m step j o e))
    where
      port : (port : CellPort) × At (output_ports q) j port
      port = (let x = port_of_output cut blif facts i p m step j o e in (x.0, x.1))

      by_drive : (d : Drive) → drive_in facts p.at.cell j ≡ d → IsDrive c d
      by_drive Soft is = tt
      by_drive (Level level) is = same_device_level q.circuit c (source_there ∙ sym source) level (told_level j port.0 level port.1 is)
