use Rattle.std.proofs.Common.{◌≡◌, ◌≤◌, length}
use Rattle.std.specs.Prelude.{All, max}
use Rattle.phase_terms.specs.Stores.{most_model_words}
use Rattle.vrt_model.specs.declared.whole.Whole.{Whole}
use Rattle.phase_open.proofs.words.most_model_words.Given as goal

-- the greatest so far and that of the others are the greatest of all
abbrev pub invariant-wholes : goal.invariant-wholes
invariant-wholes l = record {
  few : l.most ≤ 40001;
  rest : All (λ (w : Whole). length w.model.signals ≤ 20000) l.rest;
  most : max l.most (most_model_words l.rest) ≡ most_model_words l.fn.wholes;
}

abbrev pub decreases-wholes : goal.decreases-wholes
decreases-wholes l = length l.rest
