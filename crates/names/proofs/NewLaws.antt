-- Names that are new, each behind those that were there and those before it.
use Rattle.std.proofs.Common.{◌≡◌, ◌++◌, ◌∷◌, ◌||◌, [], ℕ, List, Bool, true, false, cond, map, refl, ap, ap₂, sym, ◌∙◌, append-nil, append_assoc}
use Rattle.std.specs.Prelude.{bytes_eq}
use Rattle.std.proofs.lemmas.Slice.Eq.{bytes_eq-Decides}
use Rattle.vrt_model.specs.Inputs.{AllApart}
use Rattle.vrt_model.specs.Lists.{has_name}
use Rattle.names.specs.Names.{distinct_by, distinct_from, with_name, with_names}
use Rattle.names.proofs.ApartLaws.{NoRepeat, apart, no_repeat_end}
use Rattle.names.proofs.NameLaws.{among_names, with_front}

-- each name is none of those known, and none of those before it
abbrev pub AreNew : List (List ℕ) → List (List ℕ) → Type 0
AreNew known [] = Unit {0}
AreNew known (y ∷ ys) = (has_name known y ≡ false) × AreNew (with_name known y) ys

pub new_append : (known xs ys : List (List ℕ)) → AreNew known xs → AreNew (with_names known xs) ys → AreNew known (xs ++ ys)
new_append known [] ys m n = n
new_append known (x ∷ xs) ys m n = (m.0, new_append (with_name known x) xs ys m.1 n)

-- what is known stays known
pub among_more : (known ys : List (List ℕ)) (z : List ℕ) → has_name known z ≡ true → has_name (with_names known ys) z ≡ true
among_more known ys z e = among_names known ys z ∙ ap (λ (b : Bool). b || has_name ys z) e

still_among : (known : List (List ℕ)) (y z : List ℕ) → has_name known z ≡ true → has_name (with_name known y) z ≡ true
still_among known y z e = with_front known y z ∙ or_second (bytes_eq z y) (has_name known z) e where
  or_second : (a b : Bool) → b ≡ true → (a || b) ≡ true
  or_second true b e = refl
  or_second false b e = e

among_added : (known : List (List ℕ)) (y : List ℕ) → has_name (with_name known y) y ≡ true
among_added known y = with_front known y y ∙ ap (λ (b : Bool). b || has_name known y) ((bytes_eq-Decides y y).1 refl)

-- what is known is not among the new
not_new : (known ys : List (List ℕ)) → AreNew known ys → (z : List ℕ) → has_name known z ≡ true → has_name ys z ≡ false
not_new known [] n z e = refl
not_new known (y ∷ ys) n z e = ap₂ (λ (a b : Bool). a || b) (differs (bytes_eq z y) refl) (not_new (with_name known y) ys n.1 z (still_among known y z e)) where
  differs : (b : Bool) → bytes_eq z y ≡ b → bytes_eq z y ≡ false
  differs false h = h
  differs true h = let same : has_name known y ≡ true = ap (has_name known) (sym ((bytes_eq-Decides z y).0 h)) ∙ e in let no : true ≡ false = sym same ∙ n.0 in cc

-- new names do not repeat
pub new_apart : (known ys : List (List ℕ)) → AreNew known ys → NoRepeat ys
new_apart known [] n = tt
new_apart known (y ∷ ys) n = (not_new (with_name known y) ys n.1 y (among_added known y), new_apart (with_name known y) ys n.1)

-- nor do those of the first item of each name
first_apart : {X : Type 0} (name : X → List ℕ) (known : List (List ℕ)) (xs : List X) → NoRepeat known → NoRepeat (known ++ map name (distinct_from name known xs))
first_apart name known [] n = rw (append-nil known) n
first_apart {X} name known (x ∷ xs) n =
    by_test (has_name known (name x)) refl (first_apart name known xs n) (λ h. first_apart name (known ++ name x ∷ []) xs (no_repeat_end known (name x) n h)) where
      by_test : (b : Bool) → has_name known (name x) ≡ b → NoRepeat (known ++ map name (distinct_from name known xs))
          → (has_name known (name x) ≡ false → NoRepeat ((known ++ name x ∷ []) ++ map name (distinct_from name (known ++ name x ∷ []) xs)))
          → NoRepeat (known ++ map name (cond b (distinct_from name known xs) (x ∷ distinct_from name (known ++ name x ∷ []) xs)))
      by_test true h kept new = kept
      by_test false h kept new = rw (sym (append_assoc known (name x ∷ []) (map name (distinct_from name (known ++ name x ∷ []) xs)))) (new h)

pub distinct_by_apart : {X : Type 0} (name : X → List ℕ) (xs : List X) → AllApart bytes_eq (map name (distinct_by name xs))
distinct_by_apart name xs = apart (map name (distinct_by name xs)) (first_apart name [] xs tt)
