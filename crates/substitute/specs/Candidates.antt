-- An instance that is tried next, with what stands in the tables.
use Rattle.std.specs.Prelude.{◌≡◌, ℕ, suc, Bool, false, List, length}
use Rattle.checked_chain.specs.Arcs.{AreWholeOutputsApart}
use Rattle.formed_cells.specs.Formed.{AreRead}
use Rattle.known_nets.specs.Incidence.{AreHeldMarks}
use Rattle.replaced_instances.specs.Steps.{IsSoundNetlist}
use Rattle.whole_cells.specs.Entries.{IsAllowed}
use Rattle.whole_circuits.specs.Acyclic.{AreAcyclic}
use Rattle.whole_circuits.specs.Counts.{AreCounts}
use Rattle.whole_circuits.specs.Taken.{AreTaken}
use Rattle.whole_circuits.specs.declared.marks.Marks.{Marks}
use Rattle.whole_circuits.specs.declared.outputs.NetMarks.{NetMarks}
use Rattle.vrt_model.specs.Checked.{with_one}
use Rattle.vrt_model.specs.CheckedParts.{checked_devices}
use Rattle.vrt_model.specs.Circuits.{IsCircuit}
use Rattle.vrt_model.specs.Cut.{Cut, NumberedPlace, is_inside_whole}
use Rattle.vrt_model.specs.Facts.{IsTrueOf}
use Rattle.vrt_model.specs.Lists.{At}
use Rattle.vrt_model.specs.Unrolled.{Top}
use Rattle.vrt_model.specs.Unsupported.{comparison_of}
use Rattle.vrt_model.specs.WholeInstances.{all_outputs, driven_pins}
use Rattle.vrt_model.specs.declared.blif.Blif.{Blif}
use Rattle.vrt_model.specs.declared.circuit.Circuit.{Circuit}
use Rattle.vrt_model.specs.declared.whole.CellFacts.{CellFacts}
use Rattle.vrt_model.specs.declared.whole.WholePin.{WholePin}
use Rattle.substitute.specs.Cycles.{IsTriedBy}
use Rattle.substitute.specs.Chosen.{AreRightly}
use Rattle.substitute.specs.Right.{IsNext}
use Rattle.substitute.specs.Trial.{AreMarksBeside}
use Rattle.substitute.specs.declared.tables.Tables.{Tables}

-- a sound netlist with models and rules as readers give them, true facts, and a well-formed flat circuit without cycles
pub record IsGround (t : Top) (blif : Blif) (facts : List CellFacts) (flat : Circuit) : Type 0 where
  pub netlist : IsSoundNetlist t
  pub read : AreRead blif t.rules
  pub told : (cell : ℕ) (f : CellFacts) → At facts cell f → IsTrueOf t.design blif t.rules cell f
  pub formed : IsCircuit flat
  pub acyclic : AreAcyclic flat t.rules.phases

-- on this ground the next instance, behind those that are rightly chosen or not, is outside whole ones and of an allowed cell; the counts are
-- those with it whole, and so are marks with its own
pub record IsCandidate (asked : Bool) (cut : Cut) (blif : Blif) (facts : List CellFacts) (i : ℕ) (p : NumberedPlace) (m : ℕ) (tables : Tables) (whole : List Bool) (at : ℕ) (nets : NetMarks) (pins : List WholePin) : Type 0 where
  pub ground : IsGround cut.top blif facts tables.flat.now
  pub phases_are : cut.top.rules.phases ≡ tables.phases.now
  pub next : IsNext cut blif i p m tables.flat.now
  pub decided : AreRightly asked cut blif facts (suc i)
  pub outside : is_inside_whole cut p.at ≡ false
  pub cell : IsAllowed cut.top blif facts p.at.cell m
  pub by : (own : Marks) → AreMarksBeside tables.unrolled.now whole at own → IsTriedBy (with_one cut i) blif facts tables own
  pub apart : AreWholeOutputsApart (with_one cut i) blif
  pub held : AreHeldMarks tables.flat.now nets.held.items
  pub counts : AreCounts (length tables.flat.now.nets) (checked_devices (with_one cut i)) nets.channels.items
  pub taken : AreTaken (all_outputs cut blif facts) nets.taken.items
  pub pins_are : pins ≡ driven_pins facts (comparison_of cut.top.design blif cut.top.rules p.at.cell m) p.at
