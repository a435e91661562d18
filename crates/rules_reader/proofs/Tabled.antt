-- Facts of tables by facts of lines.
use Rattle.std.proofs.Common.{◌≡◌, ◌++◌, ◌∷◌, ◌≤◌, ◌<◌, ◌+◌, ◌||◌, nat_lt, not, [], ℕ, suc, List, Bool, true, false, cond, length, map, Option, Some, None, unwrap_or, refl, ap, sym, subst, ◌∙◌, arith}
use Rattle.std.specs.Prelude.{All, bytes_eq, slice_get}
use Rattle.std.specs.List.{list_any, position_or_len}
use Rattle.std.proofs.lemmas.Bool.{lt-ltb, ltb-true}
use Rattle.std.proofs.lemmas.List.Elements.{All-append, All-nil}
use Rattle.std.proofs.lemmas.Slice.Eq.{bytes_eq-Decides}
use Rattle.vrt_model.specs.Lists.{has_name}
use Rattle.text_lines.specs.Words.{word_at}
use Rattle.rules_reader.specs.Refused.{first_missing, key_texts}
use Rattle.rules_reader.specs.Tables.{by_entry, number_in, on_card, table, told}
use Rattle.rules_reader.specs.declared.cards.Card.{Card}
use Rattle.rules_lines.specs.declared.entry.Entry.{Entry}
use Rattle.rules_reader.proofs.Fine.{AllSay}
use Rattle.rules_reader.proofs.Within.{Within, within_append, within_none}
use Rattle.rules_reader.proofs.Within.Within.{nothing}

-- ---- tables

pub both_say : (P Q : Entry → Type 0) (cards : List Card) → AllSay P cards → AllSay Q cards → AllSay (λ e. P e × Q e) cards
both_say P Q [] p q = tt
both_say P Q (card ∷ cards) p q = (λ e is. (p.0 e is, q.0 e is), both_say P Q cards p.1 q.1)

pub table_all : {X : Type 0} (f : ℕ → Entry → List X) (Q : X → Type 0) (P : Entry → Type 0) → ((line : ℕ) (e : Entry) → P e → All Q (f line e)) → (cards : List Card) → AllSay P cards
    → All Q (table f cards)
table_all f Q P each [] p = All-nil Q
table_all {X} f Q P each (card ∷ cards) p = All-append Q (on_card f card) (table f cards) (by_said card.entry p.0) (table_all f Q P each cards p.1) where
  by_said : (o : Option Entry) → ((e : Entry) → o ≡ Some e → P e) → All Q (by_entry f card.line o)
  by_said None h = All-nil Q
  by_said (Some e) h = each card.line e (h e refl)

pub map_join : {X : Type 0} (g : X → List ℕ) (xs ys : List X) → map g (xs ++ ys) ≡ map g xs ++ map g ys
map_join g [] ys = refl
map_join g (x ∷ xs) ys = ap (λ rest. g x ∷ rest) (map_join g xs ys)

pub table_within : {X : Type 0} (f : ℕ → Entry → List X) (g : X → List ℕ) (P : Entry → Type 0) → ((line : ℕ) (e : Entry) → P e → Within (map g (f line e)) (key_texts e))
    → (cards : List Card) → AllSay P cards → Within (map g (table f cards)) (told key_texts cards)
table_within f g P each [] p = nothing
table_within {X} f g P each (card ∷ cards) p =
    subst (λ xs. Within xs (told key_texts (card ∷ cards))) (sym (map_join g (on_card f card) (table f cards)))
    (within_append (by_said card.entry p.0) (table_within f g P each cards p.1)) where
      by_said : (o : Option Entry) → ((e : Entry) → o ≡ Some e → P e) → Within (map g (by_entry f card.line o)) (by_entry (λ line. key_texts) card.line o)
      by_said None h = within_none []
      by_said (Some e) h = each card.line e (h e refl)

-- ---- numbers of names

record Found (p : List ℕ → Bool) (xs : List (List ℕ)) : Type 0 where
  name : List ℕ
  stands : slice_get xs (position_or_len p xs) ≡ Some name
  passes : p name ≡ true
  within : position_or_len p xs < length xs

at_place : (p : List ℕ → Bool) (xs : List (List ℕ)) → list_any p xs ≡ true → Found p xs
at_place p [] e = cc
at_place p (x ∷ xs) e = by_test (p x) refl e (at_place p xs) where
  with_first : (b : Bool) → p x ≡ b → position_or_len p (x ∷ xs) ≡ cond (not b) (1 + position_or_len p xs) 0
  with_first b h = ap (λ c. cond (not c) (1 + position_or_len p xs) 0) h

  by_test : (b : Bool) → p x ≡ b → (b || list_any p xs) ≡ true → (list_any p xs ≡ true → Found p xs) → Found p (x ∷ xs)
  by_test true h e rest =
      let first : position_or_len p (x ∷ xs) ≡ 0 = with_first true h in
      record { name = x; stands = ap (slice_get (x ∷ xs)) first; passes = h; within = omega (arith, first) }
  by_test false h e rest =
      let f = rest e in
      let one : 1 + position_or_len p xs ≡ suc (position_or_len p xs) = omega arith in
      let next : position_or_len p (x ∷ xs) ≡ suc (position_or_len p xs) = with_first false h ∙ one in
      record { name = f.name; stands = ap (slice_get (x ∷ xs)) next ∙ f.stands; passes = f.passes; within = omega (arith, next, f.within) }

number_is : (ps : List (List ℕ)) (name : List ℕ) → position_or_len (bytes_eq name) ps < length ps → number_in ps name ≡ position_or_len (bytes_eq name) ps
number_is ps name lt =
    ap (λ b. unwrap_or (cond b (Some (position_or_len (bytes_eq name) ps)) None) 0) (lt-ltb (position_or_len (bytes_eq name) ps) (length ps) lt)

-- the number of a name that is there
pub number_within : (ps : List (List ℕ)) (name : List ℕ) → has_name ps name ≡ true → number_in ps name < length ps
number_within ps name e = let f = at_place (bytes_eq name) ps e in omega (arith, number_is ps name f.within, f.within)

pub name_back : (ps : List (List ℕ)) (name : List ℕ) → has_name ps name ≡ true → word_at ps (number_in ps name) ≡ name
name_back ps name e =
    let f = at_place (bytes_eq name) ps e in
    ap (λ n. word_at ps n) (number_is ps name f.within) ∙ ap (λ o. unwrap_or o []) f.stands ∙ sym ((bytes_eq-Decides name f.name).0 f.passes)

-- where there is any, a number is below the count
pub number_small : (ps : List (List ℕ)) (name : List ℕ) (m : ℕ) → 0 < m → length ps ≤ m → number_in ps name < m
number_small ps name m some le = by_test (nat_lt (position_or_len (bytes_eq name) ps) (length ps)) refl where
  by_test : (b : Bool) → nat_lt (position_or_len (bytes_eq name) ps) (length ps) ≡ b → unwrap_or (cond b (Some (position_or_len (bytes_eq name) ps)) None) 0 < m
  by_test true h = let lt : position_or_len (bytes_eq name) ps < length ps = ltb-true (position_or_len (bytes_eq name) ps) (length ps) h in omega (arith, lt, le)
  by_test false h = some

-- a known name
pub known_one : (known : List (List ℕ)) (name : List ℕ) → first_missing known (name ∷ []) ≡ None → has_name known name ≡ true
known_one known name e = by_test (has_name known name) refl e where
  by_test : (b : Bool) → has_name known name ≡ b → cond b None (Some name) ≡ None → has_name known name ≡ true
  by_test true h e = h
  by_test false h e = cc
