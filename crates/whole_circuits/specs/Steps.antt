-- When one more instance may be left whole, by what can be tested of circuits.
use Rattle.std.specs.Prelude.{◌≡◌, ℕ, true, List, [], ◌++◌}
use Rattle.vrt_model.specs.FlatBlif.{model_at}
use Rattle.whole_circuits.specs.Acyclic.{AreAcyclic}
use Rattle.whole_circuits.specs.Outputs.{AreOpen, own_outputs}
use Rattle.vrt_model.specs.Checked.{before, is_cell_allowed, with_one}
use Rattle.vrt_model.specs.CheckedParts.{checked_devices}
use Rattle.vrt_model.specs.Cut.{Cut, NumberedPlace}
use Rattle.vrt_model.specs.Unsupported.{comparison_of}
use Rattle.vrt_model.specs.WholeInstances.{all_outputs, driven_pins}
use Rattle.vrt_model.specs.declared.blif.Blif.{Blif}
use Rattle.vrt_model.specs.declared.circuit.Circuit.{Circuit}
use Rattle.vrt_model.specs.declared.whole.CellFacts.{CellFacts}

-- the instance at place i, whose cell pairs with model m, passes the tests: its cell is allowed, and the model has no don't-care network; its
-- outputs are at plain nets without holds, and are allowed where it is whole too; and neither the circuit with it whole nor the flat circuit has a
-- cycle of arcs
pub record Passes (cut : Cut) (blif : Blif) (facts : List CellFacts) (i : ℕ) (p : NumberedPlace) (m : ℕ) (flat with_it : Circuit) : Type 0 where
  pub cell : is_cell_allowed cut.top facts (comparison_of cut.top.design blif cut.top.rules p.at.cell m) ≡ true
  pub cared : (model_at blif m).exdc ≡ []
  pub outputs :
      AreOpen flat (checked_devices (with_one (before cut i) i))
      (all_outputs (before cut i) blif facts ++ own_outputs p.number (driven_pins facts (comparison_of cut.top.design blif cut.top.rules p.at.cell m) p.at))
      (own_outputs p.number (driven_pins facts (comparison_of cut.top.design blif cut.top.rules p.at.cell m) p.at))
  pub acyclic : AreAcyclic with_it cut.top.rules.phases
  pub flat_acyclic : AreAcyclic flat cut.top.rules.phases
