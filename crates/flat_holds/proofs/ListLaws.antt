-- Laws of lists.
use Rattle.std.proofs.Common.{◌≡◌, ◌∷◌, [], ℕ, suc, Bool, true, false, List, Option, Some, None, filter, length, map, refl, ap, ap₂, sym, ◌∙◌, arith}
use Rattle.std.specs.Prelude.{cond, find, option_and_then, slice_get}
use Rattle.std.specs.List.{cons_option, filter_map}
use Rattle.std.specs.Option.{option_or}
use Rattle.flat_holds.specs.Ends.{first_at, if_passes}
use Rattle.rule_index.proofs.PlacedLaws.{first_same, rest_same}

-- ---- what is found among the items that pass another test

pub find_kept : {X : Type 0} (kept test : X → Bool) (xs : List X) → ((x : X) → kept x ≡ false → test x ≡ false) → find test (filter kept xs) ≡ find test xs
find_kept kept test [] fails = refl
find_kept {X} kept test (x ∷ xs) fails = by_bit (kept x) refl (find_kept kept test xs fails) where
  by_bit : (b : Bool) → kept x ≡ b → find test (filter kept xs) ≡ find test xs → find test (cond b (x ∷ filter kept xs) (filter kept xs)) ≡ cond (test x) (Some x) (find test xs)
  by_bit true e below = ap (cond (test x) (Some x)) below
  by_bit false e below = below ∙ sym (ap (λ (b : Bool). cond b (Some x) (find test xs)) (fails x e))

pub made_kept : {X Y : Type 0} (kept : X → Bool) (f : X → Option Y) (xs : List X) → ((x : X) → kept x ≡ false → f x ≡ None) → filter_map f (filter kept xs) ≡ filter_map f xs
made_kept kept f [] fails = refl
made_kept {X} {Y} kept f (x ∷ xs) fails = by_bit (kept x) refl (made_kept kept f xs fails) where
  by_bit : (b : Bool) → kept x ≡ b → filter_map f (filter kept xs) ≡ filter_map f xs → filter_map f (cond b (x ∷ filter kept xs) (filter kept xs)) ≡ cons_option (f x) (filter_map f xs)
  by_bit true e below = ap (cons_option (f x)) below
  by_bit false e below = below ∙ sym (ap (λ (o : Option Y). cons_option o (filter_map f xs)) (fails x e))

-- ---- items at places

pub none_behind : {X : Type 0} (x : X) (xs : List X) → [] ≡ x ∷ xs → ⊥
none_behind {X} x xs e = let l : 0 ≡ suc (length xs) = ap (λ (zs : List X). length zs) e in omega (arith, l)

find_placed : {X : Type 0} (test : X → Bool) (xs : List X) (places : List ℕ) (own : List X) → map (slice_get xs) places ≡ map Some own → first_at test xs places ≡ find test own
find_placed test xs [] [] e = refl
find_placed test xs [] (x ∷ own) e = absurd (none_behind (Some x) (map Some own) e)
find_placed test xs (at ∷ places) [] e = absurd (none_behind (slice_get xs at) (map (slice_get xs) places) (sym e))
find_placed {X} test xs (at ∷ places) (x ∷ own) e =
    ap₂ (λ (o p : Option X). option_or (if_passes test o) p) (first_same (slice_get xs at) (Some x) (map (slice_get xs) places) (map Some own) e)
    (find_placed test xs places own (rest_same (slice_get xs at) (Some x) (map (slice_get xs) places) (map Some own) e))
    ∙ by_bit (test x) (find test own) where
      by_bit : (b : Bool) (o : Option X) → option_or (cond b (Some x) None) o ≡ cond b (Some x) o
      by_bit true o = refl
      by_bit false o = refl

made_placed : {X Y : Type 0} (f : X → Option Y) (xs : List X) (places : List ℕ) (own : List X) → map (slice_get xs) places ≡ map Some own
    → filter_map (λ (at : ℕ). option_and_then f (slice_get xs at)) places ≡ filter_map f own
made_placed f xs [] [] e = refl
made_placed f xs [] (x ∷ own) e = absurd (none_behind (Some x) (map Some own) e)
made_placed f xs (at ∷ places) [] e = absurd (none_behind (slice_get xs at) (map (slice_get xs) places) (sym e))
made_placed {X} {Y} f xs (at ∷ places) (x ∷ own) e =
    ap₂ (λ (o : Option X) (ys : List Y). cons_option (option_and_then f o) ys) (first_same (slice_get xs at) (Some x) (map (slice_get xs) places) (map Some own) e)
    (made_placed f xs places own (rest_same (slice_get xs at) (Some x) (map (slice_get xs) places) (map Some own) e))

-- the first that passes, where those at places are all that may pass
pub first_placed : {X : Type 0} (kept test : X → Bool) (xs : List X) (places : List ℕ) → map (slice_get xs) places ≡ map Some (filter kept xs) → ((x : X) → kept x ≡ false → test x ≡ false)
    → first_at test xs places ≡ find test xs
first_placed kept test xs places e fails = find_placed test xs places (filter kept xs) e ∙ find_kept kept test xs fails

-- what is made of all, where those at places are all of which something is made
pub all_placed : {X Y : Type 0} (kept : X → Bool) (f : X → Option Y) (xs : List X) (places : List ℕ) → map (slice_get xs) places ≡ map Some (filter kept xs) → ((x : X) → kept x ≡ false → f x ≡ None)
    → filter_map (λ (at : ℕ). option_and_then f (slice_get xs at)) places ≡ filter_map f xs
all_placed kept f xs places e fails = made_placed f xs places (filter kept xs) e ∙ made_kept kept f xs fails
