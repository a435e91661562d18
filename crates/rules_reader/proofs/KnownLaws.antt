-- What one line more changes of what is known.
use Rattle.std.proofs.Common.{◌≡◌, ◌++◌, ◌∷◌, ◌||◌, not, [], ℕ, List, Bool, Option, Some, None, refl, ap, ap₂, ◌∙◌, append-nil}
use Rattle.std.proofs.lemmas.Grind.{flat_map-append}
use Rattle.std.proofs.Math.Bool.{or-false}
use Rattle.vrt_model.specs.Levels.{usual_scale}
use Rattle.vrt_model.specs.Lists.{distinct, is_empty}
use Rattle.names.specs.Names.{with_names}
use Rattle.names.proofs.NameLaws.{distinct_more, with_names-append}
use Rattle.rules_reader.specs.Learned.{learned, learned_from}
use Rattle.rules_reader.specs.Refused.{key_texts, known_by, levels_on, phases_named}
use Rattle.rules_reader.specs.Tables.{clocks_in, clocks_of, phase_names_in, phase_names_of, scale_by, scale_from, scales_in, told, told_on}
use Rattle.rules_reader.specs.declared.cards.Card.{Card}
use Rattle.rules_lines.specs.declared.entry.Entry.{Entry}
use Rattle.rules_reader.specs.declared.known.Known.{Known}

told_more : {X : Type 0} (f : Entry → List X) (before : List Card) (card : Card) → told f (before ++ card ∷ []) ≡ told f before ++ told_on f card
told_more f before card = flat_map-append (told_on f) before (card ∷ []) ∙ ap (λ xs. told f before ++ xs) (append-nil (told_on f card))

empty_more : {X : Type 0} (xs ys : List X) → not (is_empty (xs ++ ys)) ≡ (not (is_empty xs) || not (is_empty ys))
empty_more [] ys = refl
empty_more (x ∷ xs) ys = refl

-- the scale behind some lines and some more
pub scale_more : (scale : ℕ) (xs ys : List ℕ) → scale_from scale (xs ++ ys) ≡ scale_from (scale_from scale xs) ys
scale_more scale [] ys = refl
scale_more scale (x ∷ xs) ys = scale_more x xs ys

abbrev by_card : Known → Card → Known
by_card known card = record {
  clocks = with_names known.clocks (told_on clocks_in card);
  phases = with_names known.phases (told_on phase_names_in card);
  keys = with_names known.keys (told_on key_texts card);
  is_phase_named = known.is_phase_named || not (is_empty (told_on phases_named card));
  scale = scale_from known.scale (told_on scales_in card);
  has_levels = known.has_levels || not (is_empty (told_on levels_on card));
}

abbrev pub knows : List (List ℕ) → List (List ℕ) → List (List ℕ) → Bool → ℕ → Bool → Known
knows clocks phases keys named scale levels = record { clocks = clocks; phases = phases; keys = keys; is_phase_named = named; scale = scale; has_levels = levels }

pub same_known : {c d p q k l : List (List ℕ)} {b e : Bool} {s t : ℕ} {v w : Bool} → c ≡ d → p ≡ q → k ≡ l → b ≡ e → s ≡ t → v ≡ w → knows c p k b s v ≡ knows d q l e t w
same_known {c} {d} {p} {q} {k} {l} {b} {e} {s} {t} {v} {w} h i j m n o =
    ap₂ (λ c p. knows c p k b s v) h i ∙ ap₂ (λ k b. knows d q k b s v) j m ∙ ap₂ (λ s v. knows d q l e s v) n o

card_learned : (known : Known) (line : ℕ) (is_all_text : Bool) (entry : Option Entry)
    → by_card known (record { line = line; is_all_text = is_all_text; entry = entry }) ≡ learned_from known entry
card_learned known line is_all_text None = same_known refl refl refl (or-false known.is_phase_named) refl (or-false known.has_levels)
card_learned known line is_all_text (Some entry) = refl

-- behind one line more
pub known_more : (before : List Card) (card : Card) → known_by (before ++ card ∷ []) ≡ learned (known_by before) card
unfolding known_by clocks_of phase_names_of scale_by
known_more before card =
    same_known
    (ap distinct (told_more clocks_in before card) ∙ distinct_more (told clocks_in before) (told_on clocks_in card))
    (ap distinct (told_more phase_names_in before card) ∙ distinct_more (told phase_names_in before) (told_on phase_names_in card))
    (ap (with_names []) (told_more key_texts before card) ∙ with_names-append [] (told key_texts before) (told_on key_texts card))
    (ap (λ ns. not (is_empty ns)) (told_more phases_named before card) ∙ empty_more (told phases_named before) (told_on phases_named card))
    (ap (scale_from usual_scale) (told_more scales_in before card) ∙ scale_more usual_scale (told scales_in before) (told_on scales_in card))
    (ap (λ ns. not (is_empty ns)) (told_more levels_on before card) ∙ empty_more (told levels_on before) (told_on levels_on card))
    ∙ card_learned (known_by before) card.line card.is_all_text card.entry
