-- The words of the greatest model of some whole instances, one after the other.
use Rattle.std.proofs.Common.{◌≡◌, ℕ, ◌≤◌, List, ◌∷◌, length, arith, ap, sym, ◌∙◌}
use Rattle.std.specs.Prelude.{max}
use Rattle.phase_terms.specs.Stores.{most_model_words}
use Rattle.vrt_model.specs.declared.whole.Whole.{Whole}
use Rattle.whole_steps.specs.Words.{model_words}

max_turned : (m w r n : ℕ) → n ≡ max m w → max n r ≡ max m (max w r)
max_turned m w r n e = omega (arith, e)

-- of one more
pub most_next : (rest behind all : List Whole) (w : Whole) (most next : ℕ) → rest ≡ w ∷ behind → max most (most_model_words rest) ≡ most_model_words all
    → next ≡ max most (model_words w.model) → max next (most_model_words behind) ≡ most_model_words all
most_next rest behind all w most next is before e =
    max_turned most (model_words w.model) (most_model_words behind) next e ∙ ap (λ (ws : List Whole). max most (most_model_words ws)) (sym is) ∙ before
