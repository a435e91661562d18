-- What is said of a cell by its variables is what each comparison that has these variables says.
use Rattle.std.proofs.Common.{◌≡◌, Bool, List, Result, ap, subst}
use Rattle.mode_lines.specs.Points.{AreVariables, meets_in, meets_with, setting_in, setting_with}
use Rattle.mode_lines.specs.declared.points.CellPhase.{CellPhase}
use Rattle.constraints.specs.Cared.{meets_by}
use Rattle.vrt_model.specs.Held.{bit_of, held_bit, is_element, is_input_of, setting_of}
use Rattle.vrt_model.specs.State.{Setting}
use Rattle.vrt_model.specs.declared.flat_model.FlatModel.{FlatModel}
use Rattle.vrt_model.specs.declared.groups.Source.{Source}
use Rattle.vrt_model.specs.declared.pairing.Pairing.{Pairing}
use Rattle.vrt_model.specs.declared.rules.Phase.{Phase}
use Rattle.witness.specs.ReplayAnswers.{ReplayGives}
use Rattle.witness.specs.declared.values.ReplayFault.{ReplayFault}
use Rattle.witness.specs.declared.values.Values.{Values}

module _ (s : CellPhase) (pairing : Pairing) (model : FlatModel) (are : AreVariables s model) (bits : List Bool) where
  abbrev setting_by : List Source → Setting
  setting_by sources = record {
    inputs = λ n. bit_of (is_input_of n) sources bits;
    held = λ hold. held_bit s.circuit.now s.groups.now s.phase sources bits hold;
    elements = λ e. bit_of (is_element e) sources bits;
  }

  setting_is : setting_in s bits ≡ setting_with s pairing model bits
  unfolding setting_of
  setting_is = ap setting_by are

  pub meets_is : meets_in s bits ≡ meets_with s pairing model bits
  unfolding setting_of
  meets_is = ap (λ (sources : List Source). meets_by s.design.now s.rules.now s.cell s.circuit.now s.groups.now sources s.phase bits) are

  pub replay_is : (phase : Phase) (r : Result Values ReplayFault) → ReplayGives s.circuit.now phase (setting_in s bits) r → ReplayGives s.circuit.now phase (setting_with s pairing model bits) r
  replay_is phase r gives = subst (λ (setting : Setting). ReplayGives s.circuit.now phase setting r) setting_is gives
