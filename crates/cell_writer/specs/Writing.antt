-- A planned cell that is to be written.
use Rattle.std.specs.Prelude.{◌≡◌, ℕ, List, filter, not}
use Rattle.cell_room.specs.Compared.{AreInputs}
use Rattle.cell_room.specs.Planned.{IsPlannedCell}
use Rattle.cell_writer.specs.Refused.{MayBeWritten}
use Rattle.cell_writer.specs.declared.writing.Writing.{Writing}
use Rattle.rule_index.specs.Tables.{AreRuleTables}
use Rattle.vrt_model.specs.Comparison.{Comparison}
use Rattle.vrt_model.specs.Equal.{IsEqual}
use Rattle.vrt_model.specs.FlatBlif.{model_at}
use Rattle.vrt_model.specs.Lists.{has_name}
use Rattle.vrt_model.specs.Unsupported.{comparison_of}

-- what is compared of it
abbrev pub written_of : Writing → ℕ → Comparison
written_of w m = comparison_of w.design.now w.blif.now w.rules.now w.cell m

-- an equal cell of these files, with its model, what was made of its phases, and the tables of the rules
pub record IsWriting (m : ℕ) (w : Writing) : Type 0 where
  pub inputs : AreInputs w.design.now w.blif.now w.rules.now w.cell
  pub tables : AreRuleTables w.rules.now w.index.now
  pub planned : IsPlannedCell w.design.now w.blif.now w.rules.now w.cell m w.planned.now
  pub equal : IsEqual (comparison_of w.design.now w.blif.now w.rules.now w.cell m)
  pub model : w.model.now ≡ model_at w.blif.now m

-- of which nothing is refused
abbrev pub IsFree : Writing → Type 0
IsFree w = (m : ℕ) → IsWriting m w → MayBeWritten (written_of w m) (model_at w.blif.now m)

-- the clocks besides the inputs
abbrev pub clocks_of : Writing → List (List ℕ)
clocks_of w = filter (λ name. not (has_name w.model.now.inputs name)) w.model.now.clocks
