use Rattle.std.proofs.Common.{◌≤◌, List, length, subst, sym}
use Rattle.std.specs.Prelude.{All}
use Rattle.cell_room.proofs.SizeLaws.{whole_signals}
use Rattle.vrt_model.specs.declared.whole.Whole.{Whole}
use Rattle.cell_room.proofs.sizes.counts_with.Goals as goal

pub most_model_words-requires : goal.most_model_words-requires
most_model_words-requires c = record {
  signals = subst (λ (ws : List Whole). All (λ (w : Whole). length w.model.signals ≤ 20000) ws) (sym c.as_slice.ensures) (whole_signals c.args.compared.circuit.now c.requires.circuit);
}
