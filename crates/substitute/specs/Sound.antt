-- An instance that is tried besides those that are decided.
use Rattle.std.specs.Prelude.{◌≡◌, ℕ, suc, Bool, false, List, ◌++◌}
use Rattle.replaced_instances.specs.Steps.{AreAllowed}
use Rattle.whole_cells.specs.Entries.{IsAllowed}
use Rattle.whole_circuits.specs.Outputs.{AreOpen, own_outputs}
use Rattle.vrt_model.specs.Checked.{with_one}
use Rattle.vrt_model.specs.CheckedParts.{checked_devices}
use Rattle.vrt_model.specs.Cut.{Cut, NumberedPlace, is_inside_whole, numbered_places}
use Rattle.vrt_model.specs.FlatCircuit.{flat_circuit_of}
use Rattle.vrt_model.specs.Lists.{At}
use Rattle.vrt_model.specs.PairedPorts.{Model, paired_model}
use Rattle.vrt_model.specs.Unsupported.{comparison_of}
use Rattle.vrt_model.specs.WholeInstances.{all_outputs, driven_pins}
use Rattle.vrt_model.specs.declared.blif.Blif.{Blif}
use Rattle.vrt_model.specs.declared.circuit.Circuit.{Circuit}
use Rattle.vrt_model.specs.declared.whole.CellFacts.{CellFacts}
use Rattle.substitute.specs.Chosen.{AreRightly, NoneFrom}

-- the instances before number i are rightly chosen or not, and the one there, whose cell pairs with model m, is not inside a whole one, its cell allows it,
-- and its outputs are open
pub record IsOpenBeside (asked : Bool) (cut : Cut) (blif : Blif) (facts : List CellFacts) (i : ℕ) (p : NumberedPlace) (m : ℕ) (flat : Circuit) : Type 0 where
  pub none : NoneFrom cut i
  pub decided : AreRightly asked cut blif facts (suc i)
  pub place : At (numbered_places cut.top) (suc i) p
  pub paired : paired_model cut.top.design blif cut.top.rules p.at.cell ≡ Model m
  pub outside : is_inside_whole cut p.at ≡ false
  pub cell : IsAllowed cut.top blif facts p.at.cell m
  pub flat_is : flat ≡ flat_circuit_of cut.top
  pub outputs :
      AreOpen flat (checked_devices (with_one cut i))
      (all_outputs cut blif facts ++ own_outputs p.number (driven_pins facts (comparison_of cut.top.design blif cut.top.rules p.at.cell m) p.at))
      (own_outputs p.number (driven_pins facts (comparison_of cut.top.design blif cut.top.rules p.at.cell m) p.at))

-- The law: then all of these are allowed, each besides those before it.
abbrev pub OpenAreAllowed : Type 0
OpenAreAllowed =
    (asked : Bool) (cut : Cut) (blif : Blif) (facts : List CellFacts) (i : ℕ) (p : NumberedPlace) (m : ℕ) (flat : Circuit)
    → IsOpenBeside asked cut blif facts i p m flat → AreAllowed (with_one cut i) blif facts
