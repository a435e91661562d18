-- An equal cell of some files, with what was planned of it.
use Rattle.std.proofs.Common.{◌≡◌, ℕ, List, [], Option, Result, Ok, Err, Some, ap, subst, sym, ◌∙◌}
use Rattle.std.specs.Prelude.{IfOk, slice_get, unwrap_or}
use Rattle.cell_room.specs.Compared.{AreInputs}
use Rattle.cell_room.specs.Planned.{IsPlannedCell}
use Rattle.cell_writer.proofs.StandingLaws.{written_cells_stand}
use Rattle.cell_writer.specs.Standing.{StandsAlone}
use Rattle.cell_writer.specs.Writing.{IsWriting}
use Rattle.cell_writer.specs.Written.{WriteGives}
use Rattle.cell_writer.specs.declared.refusal.WriteRefusal.{WriteRefusal}
use Rattle.cell_writer.specs.declared.writing.Writing.{Writing}
use Rattle.rule_index.specs.Tables.{AreRuleTables}
use Rattle.vrt_model.specs.Equal.{IsEqual}
use Rattle.vrt_model.specs.FlatBlif.{model_at}
use Rattle.vrt_model.specs.PairedPorts.{model_of_paired, paired_model}
use Rattle.vrt_model.specs.Unsupported.{IsSupported, comparison_of}
use Rattle.vrt_model.specs.declared.blif.Blif.{Blif}
use Rattle.vrt_model.specs.declared.blif.BlifModel.{BlifModel}
use Rattle.vrt_model.specs.declared.design.Design.{Design}
use Rattle.vrt_model.specs.declared.rules.Rules.{Rules}

-- a model that is found by its number
pub model_is : (blif : Blif) (number : ℕ) (b : BlifModel) → Some b ≡ slice_get blif.models number → b ≡ model_at blif number
model_is blif number b found =
    let none : BlifModel =
    record { line = 0; name = []; inputs = []; input_lines = []; clocks = []; clock_lines = []; outputs = []; output_lines = []; covers = []; latches = []; subs = []; exdc = [] } in
    ap (λ (o : Option BlifModel). unwrap_or o none) found

-- a supported cell pairs with one model
pub number_is : (design : Design) (blif : Blif) (rules : Rules) (cell m number : ℕ) → Some number ≡ model_of_paired (paired_model design blif rules cell) → IsSupported design blif rules cell m → number ≡ m
number_is design blif rules cell m number found supported = (let same : Some number ≡ Some m = found ∙ ap model_of_paired supported.paired in cc)

-- what was planned is what is to be written
pub is_writing : (w : Writing) (number m n : ℕ) → AreInputs w.design.now w.blif.now w.rules.now w.cell → AreRuleTables w.rules.now w.index.now
    → IsPlannedCell w.design.now w.blif.now w.rules.now w.cell number w.planned.now → w.model.now ≡ model_at w.blif.now number
    → Some number ≡ model_of_paired (paired_model w.design.now w.blif.now w.rules.now w.cell) → IsSupported w.design.now w.blif.now w.rules.now w.cell m
    → IsEqual (comparison_of w.design.now w.blif.now w.rules.now w.cell m) → IsSupported w.design.now w.blif.now w.rules.now w.cell n → IsWriting n w
is_writing w number m n inputs tables planned model found supported equal again =
    let first : number ≡ m = number_is w.design.now w.blif.now w.rules.now w.cell m number found supported in
    let other : number ≡ n = number_is w.design.now w.blif.now w.rules.now w.cell n number found again in
    record {
      inputs = inputs;
      tables = tables;
      planned = subst (λ (x : ℕ). IsPlannedCell w.design.now w.blif.now w.rules.now w.cell x w.planned.now) other planned;
      equal = subst (λ (x : ℕ). IsEqual (comparison_of w.design.now w.blif.now w.rules.now w.cell x)) (sym first ∙ other) equal;
      model = model ∙ ap (model_at w.blif.now) other;
    }

-- a text that is given stands for the cell
pub stands_if : (design : Design) (blif : Blif) (rules : Rules) (cell m budget : ℕ) (result : Result (List ℕ) WriteRefusal) → AreInputs design blif rules cell → IsSupported design blif rules cell m
    → IsEqual (comparison_of design blif rules cell m) → WriteGives (comparison_of design blif rules cell m) blif (model_at blif m) budget result → IfOk result (StandsAlone design rules cell)
stands_if design blif rules cell m budget (Ok text) inputs supported equal gives =
    written_cells_stand design blif rules cell m budget text (record { names = inputs.names; models = inputs.models; valid = inputs.valid }) supported equal gives
stands_if design blif rules cell m budget (Err refusal) inputs supported equal gives = tt
