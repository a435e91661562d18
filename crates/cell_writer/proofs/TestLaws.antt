-- What tests of a planned cell say of the cell.
use Rattle.std.proofs.Common.{◌≡◌, ℕ, List, [], ◌∷◌, ◌++◌, None, ap, sym, ◌∙◌}
use Rattle.std.specs.Prelude.{find}
use Rattle.cell_writer.proofs.WritingLaws.{comparison_same}
use Rattle.cell_writer.specs.Refused.{MayBeWritten, clock_among, first_clock, first_hold, first_refused}
use Rattle.cell_writer.specs.Writing.{IsWriting, clocks_of, written_of}
use Rattle.cell_writer.specs.declared.writing.Writing.{Writing}
use Rattle.model_writer.specs.Refused.{is_refused}
use Rattle.vrt_model.specs.Comparison.{Comparison, cell_at}
use Rattle.vrt_model.specs.FlatBlif.{model_at}

module _ (m : ℕ) (w : Writing) (is : IsWriting m w) where
  pub hold_same : first_hold w.planned.now.flattened.circuit ≡ first_hold (written_of w m).circuit
  hold_same = ap (λ (k : Comparison). first_hold k.circuit) (comparison_same m w is)

  pub clock_same : clock_among (cell_at w.design.now w.cell).ports w.planned.now.flattened.pairing.ports ≡ first_clock (written_of w m)
  clock_same = ap first_clock (comparison_same m w is)

  pub names_same : (names clocks : List (List ℕ)) → names ≡ (w.model.now.name ∷ []) ++ w.model.now.inputs ++ clocks ++ w.model.now.outputs → clocks ≡ clocks_of w
      → find is_refused names ≡ first_refused (model_at w.blif.now m)
  names_same names clocks e clocks_are =
      ap (find is_refused) (e ∙ ap (λ (cs : List (List ℕ)). (w.model.now.name ∷ []) ++ w.model.now.inputs ++ cs ++ w.model.now.outputs) clocks_are)
      ∙ ap first_refused is.model

  -- nothing is refused
  pub is_free : first_hold w.planned.now.flattened.circuit ≡ None → clock_among (cell_at w.design.now w.cell).ports w.planned.now.flattened.pairing.ports ≡ None
      → first_refused (model_at w.blif.now m) ≡ None → MayBeWritten (written_of w m) (model_at w.blif.now m)
  is_free holds clocks names = record { holds = sym hold_same ∙ holds; clocks = sym clock_same ∙ clocks; names = names }
