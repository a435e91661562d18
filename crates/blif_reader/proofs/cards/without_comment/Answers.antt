use Rattle.std.proofs.Common.{if◌then◌else◌, ◌≡◌, ◌||◌, Bool, false, List, [], ◌∷◌, refl, ap, sym, ◌∙◌, inl, inr}
use Rattle.std.proofs.lemmas.Bool.{cases_Bool, false≢true}
use Rattle.std.specs.List.{list_any}
use Rattle.text_lines.specs.Groups.{up_to}
use Rattle.blif_reader.specs.Cards.{is_hash}
use Rattle.blif_reader.proofs.cards.without_comment.Goals as goal

-- a list in which nothing ends goes on to its end
goes_on : {X : Type 0} (ends : X → Bool) (xs : List X) → list_any ends xs ≡ false → up_to ends xs ≡ xs
goes_on ends [] none = refl
goes_on {X} ends (x ∷ xs) none =
    elim (cases_Bool (ends x)) [
      | inl t ↦ absurd (false≢true (sym none ∙ ap (λ (b : Bool). b || list_any ends xs) t))
      | inr f ↦
          ap (λ (b : Bool). if b then [] else x ∷ up_to ends xs) f
          ∙ ap (λ (ys : List X). x ∷ ys) (goes_on ends xs (sym (ap (λ (b : Bool). b || list_any ends xs) f) ∙ none))
    ]

pub returns-then-not-has_comment : goal.returns-then-not-has_comment
returns-then-not-has_comment c = sym (goes_on is_hash c.args.line.now (sym c.has_comment.ensures ∙ c.if-not-has_comment.true))
