-- The loop over the cards.
use Rattle.std.proofs.Common.{◌≡◌, ◌++◌, ◌∷◌, ◌⊎◌, [], ℕ, List, Some, None, take, ap, sym, subst, ◌∙◌}
use Rattle.text_lines.specs.Faults.{IsClean, IsFirst}
use Rattle.text_lines.proofs.FaultLaws.{clean, first}
use Rattle.text_lines.proofs.ReadLaws.{all_read, begins, card_fails, card_more}
use Rattle.blif_reader.specs.Learned.{Reads, learned}
use Rattle.blif_reader.specs.Cards.{cards_of}
use Rattle.blif_reader.specs.Opened.{cards_left}
use Rattle.blif_reader.proofs.CardLaws.{all_left}
use Rattle.blif_reader.specs.Refused.{blif_fault, fault_by, fault_of, known_by}
use Rattle.blif_reader.proofs.KnownLaws.{known_more}
use Rattle.blif_reader.specs.declared.cards.Card.{Card}
use Rattle.blif_reader.specs.declared.known.Known.{Known}
use Rattle.blif_reader.specs.declared.faults.BlifFault.{BlifFault}
use Rattle.blif_reader.specs.declared.faults.BlifFault.TheVariants.{NoMemory}

-- the fault by what is known is that by the cards
by_cards : (cards left listed : List Card) (known : Known) (card : Card) (r : Reads cards left known listed) → fault_of (take r.place cards) card ≡ fault_by known card
by_cards cards left listed known card r = ap (λ k. fault_by k card) (sym r.tells)

-- nothing is read at first
pub begins_reading : (cards left listed : List Card) (known : Known) → left ≡ cards → known ≡ known_by [] → listed ≡ [] → Reads cards left known listed
begins_reading cards left listed known all e none = begins known_by fault_of (λ read. listed ≡ read) cards left known all e none

-- one card more
pub reads_card : (cards left rest listed new : List Card) (known next : Known) (card : Card) → Reads cards left known listed → left ≡ card ∷ rest → fault_by known card ≡ None
    → next ≡ learned known card → new ≡ listed ++ card ∷ [] → Reads cards rest next new
reads_card cards left rest listed new known next card r is none e more =
    card_more known_by fault_of (λ read. listed ≡ read) (λ read. new ≡ read) cards left rest known next card r is (by_cards cards left listed known card r ∙ none)
    (e ∙ ap (λ k. learned k card) r.tells ∙ sym (known_more (take r.place cards) card)) (more ∙ ap (λ cs. cs ++ card ∷ []) r.holds)

-- a card with a fault
pub reads_fault : (cards left rest listed : List Card) (known : Known) (card : Card) (f : BlifFault) → Reads cards left known listed → left ≡ card ∷ rest → fault_by known card ≡ Some f
    → IsFirst fault_of cards f
reads_fault cards left rest listed known card f r is e =
    card_fails known_by fault_of (λ read. listed ≡ read) cards left rest known card f r is (by_cards cards left listed known card r ∙ e)

-- the cards that are left at first are those of the text
pub reading_of_text : (text : List ℕ) (listed : List Card) (known : Known) → Reads (cards_left 1 text None) [] known listed
    → IsClean fault_of (cards_of text) × (known ≡ known_by (cards_of text)) × (listed ≡ cards_of text)
reading_of_text text listed known r =
    let P : List Card → Type 0 = λ cards. Reads cards [] known listed in all_read known_by fault_of (λ read. listed ≡ read) (cards_of text) known (subst P (all_left text) r)

pub fault_of_text : (text : List ℕ) (f : BlifFault) → (f ≡ NoMemory) ⊎ IsFirst fault_of (cards_left 1 text None) f → (f ≡ NoMemory) ⊎ IsFirst fault_of (cards_of text) f
fault_of_text text f h = let P : List Card → Type 0 = λ cards. (f ≡ NoMemory) ⊎ IsFirst fault_of cards f in subst P (all_left text) h

-- the fault that is computed is the first one
pub fault_is : (cards : List Card) (f : BlifFault) → blif_fault cards ≡ Some f → IsFirst fault_of cards f
fault_is cards f e = first fault_of cards f e

-- none is computed only where none stands
pub no_fault_is : (cards : List Card) → blif_fault cards ≡ None → IsClean fault_of cards
no_fault_is cards e = clean fault_of cards e
