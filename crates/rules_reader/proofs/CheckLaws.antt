-- The loop over the lines.
use Rattle.std.proofs.Common.{◌≡◌, ◌++◌, ◌∷◌, ◌⊎◌, [], ℕ, List, false, Some, None, length, take, refl, ap, ap₂, sym, subst, ◌∙◌}
use Rattle.text_lines.specs.Faults.{IsClean, IsFirst}
use Rattle.text_lines.proofs.FaultLaws.{clean, first}
use Rattle.text_lines.proofs.ReadLaws.{all_read, card_fails, card_more}
use Rattle.rules_reader.specs.Learned.{Reads, learned}
use Rattle.rules_reader.specs.Entries.{cards_left, cards_of}
use Rattle.rules_reader.proofs.CardLaws.{all_left}
use Rattle.rules_reader.specs.Refused.{fault_by, fault_of, known_by, rules_fault}
use Rattle.rules_reader.specs.Tables.{clocks_of, phase_names_of, scale_by}
use Rattle.rules_reader.proofs.KnownLaws.{known_more, same_known}
use Rattle.rules_reader.specs.declared.cards.Card.{Card}
use Rattle.rules_reader.specs.declared.known.Known.{Known}
use Rattle.rules_reader.specs.declared.faults.RulesFault.{RulesFault}
use Rattle.rules_reader.specs.declared.faults.RulesFault.TheVariants.{NoMemory}
use Rattle.vrt_model.specs.Levels.{usual_scale}

-- the fault by the count and what is known is that by the lines
by_cards : (cards left listed : List Card) (known : Known) (card : Card) (r : Reads cards left known listed) → fault_of (take r.place cards) card ≡ fault_by (length listed) known card
by_cards cards left listed known card r = ap₂ (λ cs k. fault_by (length cs) k card) (sym r.holds) (sym r.tells)

-- one line more
pub reads_card : (cards left rest listed new : List Card) (known next : Known) (card : Card) → Reads cards left known listed → left ≡ card ∷ rest → fault_by (length listed) known card ≡ None
    → next ≡ learned known card → new ≡ listed ++ card ∷ [] → Reads cards rest next new
reads_card cards left rest listed new known next card r is none e more =
    card_more known_by fault_of (λ read. listed ≡ read) (λ read. new ≡ read) cards left rest known next card r is (by_cards cards left listed known card r ∙ none)
    (e ∙ ap (λ k. learned k card) r.tells ∙ sym (known_more (take r.place cards) card)) (more ∙ ap (λ cs. cs ++ card ∷ []) r.holds)

-- a line with a fault
pub reads_fault : (cards left rest listed : List Card) (known : Known) (card : Card) (f : RulesFault) → Reads cards left known listed → left ≡ card ∷ rest
    → fault_by (length listed) known card ≡ Some f → IsFirst fault_of cards f
reads_fault cards left rest listed known card f r is e =
    card_fails known_by fault_of (λ read. listed ≡ read) cards left rest known card f r is (by_cards cards left listed known card r ∙ e)

-- the lines that are left at first are those of the text
pub reading_of_text : (text : List ℕ) (listed : List Card) (known : Known) → Reads (cards_left 1 text) [] known listed
    → IsClean fault_of (cards_of text) × (known ≡ known_by (cards_of text)) × (listed ≡ cards_of text)
reading_of_text text listed known r =
    let P : List Card → Type 0 = λ cards. Reads cards [] known listed in all_read known_by fault_of (λ read. listed ≡ read) (cards_of text) known (subst P (all_left text) r)

pub fault_of_text : (text : List ℕ) (f : RulesFault) → (f ≡ NoMemory) ⊎ IsFirst fault_of (cards_left 1 text) f → (f ≡ NoMemory) ⊎ IsFirst fault_of (cards_of text) f
fault_of_text text f h = let P : List Card → Type 0 = λ cards. (f ≡ NoMemory) ⊎ IsFirst fault_of cards f in subst P (all_left text) h

-- nothing is known at first
pub starts : (clocks phases keys : List (List ℕ)) → clocks ≡ [] → phases ≡ [] → keys ≡ []
    → (let k : Known = record { clocks = clocks; phases = phases; keys = keys; is_phase_named = false; scale = usual_scale; has_levels = false } in k) ≡ known_by []
unfolding known_by clocks_of phase_names_of scale_by
starts clocks phases keys c p k = same_known c p k refl refl refl

-- the fault that is computed is the first one
pub fault_is : (cards : List Card) (f : RulesFault) → rules_fault cards ≡ Some f → IsFirst fault_of cards f
fault_is cards f e = first fault_of cards f e

-- none is computed only where none stands
pub no_fault_is : (cards : List Card) → rules_fault cards ≡ None → IsClean fault_of cards
no_fault_is cards e = clean fault_of cards e
