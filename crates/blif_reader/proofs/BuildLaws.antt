-- Words of a card, and lists of signals, item by item.
use Rattle.std.proofs.lemmas.List.{drop_more}
use Rattle.blif_reader.specs.declared.cards.Card.{Card}
use Rattle.std.proofs.Common.{◌≡◌, ◌<◌, ◌+◌, drop, flat_map, get_or, length, ◌++◌, ◌∷◌, [], ℕ, List, Bool, true, false, cond, refl, ap, sym, ◌∙◌, append-nil, append_assoc}
use Rattle.names.specs.Names.{distinct_by, distinct_from}
use Rattle.vrt_model.specs.Lists.{has_name}
use Rattle.blif_reader.specs.Built.{with_signal, with_signals}
use Rattle.blif_reader.specs.Models.{Listed, names, signals_on}

pub signals_append : (found xs ys : List Listed) → with_signals found (xs ++ ys) ≡ with_signals (with_signals found xs) ys
signals_append found [] ys = refl
signals_append found (x ∷ xs) ys = signals_append (with_signal found x) xs ys

names_append : (xs : List Listed) (x : Listed) → names (xs ++ x ∷ []) ≡ names xs ++ x.name ∷ []
names_append [] x = refl
names_append (y ∷ ys) x = ap (λ rest. y.name ∷ rest) (names_append ys x)

pub signals_are : (found xs : List Listed) → with_signals found xs ≡ found ++ distinct_from (λ (s : Listed). s.name) (names found) xs
signals_are found [] = sym (append-nil found)
signals_are found (x ∷ xs) =
    by_test (has_name (names found) x.name) found x xs (signals_are found xs) (signals_are (found ++ x ∷ []) xs) where
      by_test : (b : Bool) (found : List Listed) (x : Listed) (xs : List Listed) → with_signals found xs ≡ found ++ distinct_from (λ (s : Listed). s.name) (names found) xs
          → with_signals (found ++ x ∷ []) xs ≡ (found ++ x ∷ []) ++ distinct_from (λ (s : Listed). s.name) (names (found ++ x ∷ [])) xs
          → with_signals (cond b found (found ++ x ∷ [])) xs
          ≡ found ++ cond b (distinct_from (λ (s : Listed). s.name) (names found) xs) (x ∷ distinct_from (λ (s : Listed). s.name) (names found ++ x.name ∷ []) xs)
      by_test true found x xs old new = old
      by_test false found x xs old new =
          new ∙ append_assoc found (x ∷ []) (distinct_from (λ (s : Listed). s.name) (names (found ++ x ∷ [])) xs)
          ∙ ap (λ known. found ++ x ∷ distinct_from (λ (s : Listed). s.name) known xs) (names_append found x)

-- each signal once, one by one
pub all_signals : (xs : List Listed) → with_signals [] xs ≡ distinct_by (λ (s : Listed). s.name) xs
all_signals xs = signals_are [] xs

-- the signals of one card more
pub signals_turn : (i : ℕ) (word : List ℕ) (body : List Card) (card other : Card) (old new : List Listed) → i < length body → get_or body i other ≡ card
    → new ≡ with_signals old (signals_on word card)
    → with_signals new (flat_map (signals_on word) (drop (i + 1) body)) ≡ with_signals old (flat_map (signals_on word) (drop i body))
signals_turn i word body card other old new lt here e =
    ap (λ found. with_signals found (flat_map (signals_on word) (drop (i + 1) body))) (e ∙ ap (λ c. with_signals old (signals_on word c)) (sym here))
    ∙ sym (signals_append old (signals_on word (get_or body i other)) (flat_map (signals_on word) (drop (i + 1) body)))
    ∙ ap (λ cards. with_signals old (flat_map (signals_on word) cards)) (sym (drop_more body i other lt))
