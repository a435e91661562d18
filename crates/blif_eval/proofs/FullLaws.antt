-- Covers whose rows ask a bit of every input: each input selects which of the rows are left, and no more operations are taken than the rows have bytes.
use Rattle.std.proofs.Common.{◌≡◌, ℕ, zero, suc, ◌+◌, ◌-◌, ◌<◌, ◌≤◌, ◌&&◌, ◌||◌, ◌⊎◌, Bool, true, false, cond, List, [], ◌∷◌, Option, Some, None, Result, Ok, Err, drop, get_or, length, arith, ap, ap₂, refl, sym, subst, ◌∙◌, inl, inr}
use Rattle.std.specs.Prelude.{All, filter, sum_by, ◌==◌}
use Rattle.std.specs.List.{list_all, list_any}
use Rattle.std.proofs.Math.Seq.{drop-cons}
use Rattle.std.proofs.lemmas.Bool.{eq-eqb, eqb-true, true≢false}
use Rattle.std.proofs.lemmas.List.Folds.{list_any_at, list_any_none}
use Rattle.std.proofs.lemmas.List.Sums.{AllPass-from_list_all, sum_by-cons}
use Rattle.bdd_core.proofs.Frames.{gives_made, gives_next, gives_none, gives_refused}
use Rattle.bdd_core.proofs.Meaning.{meaning_one, meaning_zero}
use Rattle.bdd_core.specs.Diagram.{Function, IsReduced, IsSame, IsWithin, choice, meaning}
use Rattle.bdd_core.specs.Store.{Diagrams, Gives, Makes, function_of}
use Rattle.bdd_core.specs.Words.{IsFilled, word_at}
use Rattle.bdd_core.specs.declared.handle.H.{H}
use Rattle.bdd_core.specs.declared.handle.Spent.{Spent}
use Rattle.bdd_ops.proofs.CountingLaws.{counts_made}
use Rattle.bdd_ops.proofs.WithinLaws.{within_same}
use Rattle.bdd_ops.specs.Counting.{Counts, IsSpanWithin}
use Rattle.blif_eval.proofs.CountLaws.{among_drop}
use Rattle.blif_eval.proofs.RowLaws.{bits_kept}
use Rattle.blif_eval.specs.FullRows.{IsFull, IsNext, agree, class_fits, class_operations, has_next, in_class, is_bit, is_full}
use Rattle.blif_eval.specs.Operations.{rows_operations}
use Rattle.blif_eval.specs.Settled.{bits_in}
use Rattle.node_pool.specs.declared.region.Span.{Span}
use Rattle.vrt_model.proofs.Assignments.{row_same}
use Rattle.vrt_model.proofs.Lists.{any_same}
use Rattle.vrt_model.proofs.Members.{all_among}
use Rattle.vrt_model.specs.Budget.{literals_in}
use Rattle.vrt_model.specs.Covers.{byte_fits, row_fits, some_row_fits}
use Rattle.vrt_model.specs.FlatModels.{IsRow}
use Rattle.vrt_model.specs.Lists.{Among}

-- ---- lists, item by item

both_true : (a b : Bool) → (a && b) ≡ true → (a ≡ true) × (b ≡ true)
both_true true b h = (refl, h)
both_true false b h = absurd (true≢false (sym h))

one_true : (a b : Bool) → (a || b) ≡ true → (a ≡ true) ⊎ (b ≡ true)
one_true true b h = inl refl
one_true false b h = inr h

and_then : (a b c : Bool) → ((a && b) && c) ≡ (a && (b && c))
and_then true b c = refl
and_then false b c = refl

none_at : {X : Type 0} (p : X → Bool) (xs : List X) (i : ℕ) (d : X) → i < length xs → list_any p xs ≡ false → p (get_or xs i d) ≡ false
none_at {X} p xs i d lt h = split (p (get_or xs i d)) refl
  where
    split : (b : Bool) → p (get_or xs i d) ≡ b → p (get_or xs i d) ≡ false
    split true e = absurd (true≢false (sym (list_any_at p xs i d lt e) ∙ h))
    split false e = e

any_each : {X : Type 0} (p q : X → Bool) (d : X) (xs : List X) → ((i : ℕ) → i < length xs → p (get_or xs i d) ≡ q (get_or xs i d)) → list_any p xs ≡ list_any q xs
any_each p q d [] h = refl
any_each p q d (x ∷ xs) h = ap₂ (λ (a b : Bool). a || b) (h 0 (omega arith)) (any_each p q d xs (λ i lt. h (suc i) (omega (arith, lt))))

sum_three : {X : Type 0} (f g h k : X → ℕ) (d : X) (xs : List X)
    → ((i : ℕ) → i < length xs → f (get_or xs i d) ≡ g (get_or xs i d) + (h (get_or xs i d) + k (get_or xs i d)))
    → sum_by f xs ≡ sum_by g xs + (sum_by h xs + sum_by k xs)
sum_three f g h k d [] same = refl
sum_three f g h k d (x ∷ xs) same =
    let rest = sum_three f g h k d xs (λ i lt. same (suc i) (omega (arith, lt))) in
    let here = same 0 (omega arith) in
    let fs = sum_by-cons f x xs in
    let gs = sum_by-cons g x xs in
    let hs = sum_by-cons h x xs in
    let ks = sum_by-cons k x xs in
    omega (arith, rest, here, fs, gs, hs, ks)

sum_less : {X : Type 0} (f g : X → ℕ) (d : X) (xs : List X) → ((i : ℕ) → i < length xs → f (get_or xs i d) ≤ g (get_or xs i d)) → sum_by f xs ≤ sum_by g xs
sum_less f g d [] less = omega arith
sum_less f g d (x ∷ xs) less =
    let rest = sum_less f g d xs (λ i lt. less (suc i) (omega (arith, lt))) in
    let here = less 0 (omega arith) in
    let fs = sum_by-cons f x xs in
    let gs = sum_by-cons g x xs in
    omega (arith, rest, here, fs, gs)

sum_some : {X : Type 0} (f : X → ℕ) (d : X) (xs : List X) (i : ℕ) → i < length xs → 1 ≤ f (get_or xs i d) → 1 ≤ sum_by f xs
sum_some f d [] i lt some = absurd (omega (arith, lt))
sum_some f d (x ∷ xs) zero lt some = let fs = sum_by-cons f x xs in omega (arith, some, fs)
sum_some f d (x ∷ xs) (suc i) lt some =
    let rest = sum_some f d xs i (omega (arith, lt)) some in
    let fs = sum_by-cons f x xs in
    omega (arith, rest, fs)

-- ---- bytes that ask a bit

is_either : (x : ℕ) → is_bit x ≡ true → (x ≡ 48) ⊎ (x ≡ 49)
is_either x h = elim (one_true (x == 48) (x == 49) h) [
  | inl e ↦ inl (eqb-true x 48 e)
  | inr e ↦ inr (eqb-true x 49 e)
]

asks_one : (x : ℕ) → is_bit x ≡ true → (x == 49) ≡ byte_fits x true
asks_one x h = elim (is_either x h) [
  | inl e ↦ subst (λ (k : ℕ). (k == 49) ≡ byte_fits k true) (sym e) refl
  | inr e ↦ subst (λ (k : ℕ). (k == 49) ≡ byte_fits k true) (sym e) refl
]

asks_zero : (x : ℕ) → is_bit x ≡ true → (x == 48) ≡ byte_fits x false
asks_zero x h = elim (is_either x h) [
  | inl e ↦ subst (λ (k : ℕ). (k == 48) ≡ byte_fits k false) (sym e) refl
  | inr e ↦ subst (λ (k : ℕ). (k == 48) ≡ byte_fits k false) (sym e) refl
]

-- a row of a class is in one of the two that the next input leaves
shared : (a : Bool) (n m : ℕ) → n ≡ suc m → cond a n 0 ≡ cond (a && true) m 0 + (cond (a && false) m 0 + cond a 1 0)
shared true n m e = omega (arith, e)
shared false n m e = refl

shared_other : (a : Bool) (n m : ℕ) → n ≡ suc m → cond a n 0 ≡ cond (a && false) m 0 + (cond (a && true) m 0 + cond a 1 0)
shared_other true n m e = omega (arith, e)
shared_other false n m e = refl

weight_shared : (a : Bool) (x n m : ℕ) → is_bit x ≡ true → n ≡ suc m → cond a n 0 ≡ cond (a && (x == 48)) m 0 + (cond (a && (x == 49)) m 0 + cond a 1 0)
weight_shared a x n m h e = elim (is_either x h) [
  | inl w ↦ subst (λ (k : ℕ). cond a n 0 ≡ cond (a && (k == 48)) m 0 + (cond (a && (k == 49)) m 0 + cond a 1 0)) (sym w) (shared a n m e)
  | inr w ↦ subst (λ (k : ℕ). cond a n 0 ≡ cond (a && (k == 48)) m 0 + (cond (a && (k == 49)) m 0 + cond a 1 0)) (sym w) (shared_other a n m e)
]

literals_full : (row : List ℕ) → is_full row ≡ true → literals_in row ≡ length row
literals_full [] h = refl
literals_full (byte ∷ row) h =
    let parts = both_true (is_bit byte) (is_full row) h in
    ap (λ (b : Bool). length (cond b (byte ∷ filter is_bit row) (filter is_bit row))) parts.0 ∙ ap (λ (k : ℕ). suc k) (literals_full row parts.1)

-- ---- rows that agree

agree_self : (at : ℕ) (row : List ℕ) → agree at row row ≡ true
agree_self zero row = refl
agree_self (suc at) row = ap₂ (λ (a b : Bool). a && b) (agree_self at row) (eq-eqb (get_or row at 0) (get_or row at 0) refl)

agree_alike : (at : ℕ) (first second row : List ℕ) → agree at first second ≡ true → agree at second row ≡ agree at first row
agree_alike zero first second row h = refl
agree_alike (suc at) first second row h =
    let parts = both_true (agree at first second) (get_or second at 0 == get_or first at 0) h in
    ap₂ (λ (a b : Bool). a && b) (agree_alike at first second row parts.0)
    (ap (λ (k : ℕ). get_or row at 0 == k) (eqb-true (get_or second at 0) (get_or first at 0) parts.1))

-- the class that a byte leaves
narrowed : (rows : List (List ℕ)) (like : List ℕ) (at byte : ℕ) (next : Option ℕ) → IsNext rows like at byte next → (i : ℕ) → i < length rows
    → in_class rows next (suc at) (get_or rows i []) ≡ has_next like at byte (get_or rows i [])
narrowed rows like at byte None is i lt = sym (none_at (has_next like at byte) rows i [] lt is)
narrowed rows like at byte (Some place) is i lt =
    let other : List ℕ = get_or rows place [] in
    let row : List ℕ = get_or rows i [] in
    let parts = both_true (agree at like other) (get_or other at 0 == byte) is.1 in
    ap₂ (λ (a b : Bool). a && b) (agree_alike at like other row parts.0) (ap (λ (k : ℕ). get_or row at 0 == k) (eqb-true (get_or other at 0) byte parts.1))

-- ---- what fits

none_fits : (bits : ℕ → Bool) (inputs : List ℕ) (rows : List (List ℕ)) (at : ℕ) → class_fits bits inputs rows None at ≡ false
none_fits bits inputs rows at = list_any_none (λ (row : List ℕ). false) rows (λ i d lt. refl)

nothing_left : (inputs : List ℕ) → drop (length inputs) inputs ≡ []
nothing_left [] = refl
nothing_left (input ∷ inputs) = nothing_left inputs

last_fits : (bits : ℕ → Bool) (inputs : List ℕ) (rows : List (List ℕ)) (place at : ℕ) → place < length rows → at ≡ length inputs
    → class_fits bits inputs rows (Some place) at ≡ true
last_fits bits inputs rows place at lt end =
    let row : List ℕ = get_or rows place [] in
    list_any_at (λ (r : List ℕ). agree at row r && row_fits bits (drop at inputs) (drop at r)) rows place [] lt
    (ap₂ (λ (a b : Bool). a && b) (agree_self at row) (ap (λ (xs : List ℕ). row_fits bits xs (drop at row)) (ap (λ (k : ℕ). drop k inputs) end ∙ nothing_left inputs)))

pub all_fit : (bits : ℕ → Bool) (inputs : List ℕ) (rows : List (List ℕ)) → class_fits bits inputs rows (Some 0) 0 ≡ some_row_fits bits inputs rows
all_fit bits inputs rows = refl

-- ---- one input

module _ (inputs : List ℕ) (rows : List (List ℕ)) (full : All (IsFull (length inputs)) rows) (at : ℕ) (lt : at < length inputs) where
  bit_at : (i : ℕ) → i < length rows → is_bit (get_or (get_or rows i []) at 0) ≡ true
  bit_at i low =
      let row = full i [] low in
      let wide = row.length in
      AllPass-from_list_all is_bit (get_or rows i []) row.bits at 0 (omega (arith, wide, lt))

  module _ (bits : ℕ → Bool) (like : List ℕ) where
    -- one byte more of a row
    fits_more : (byte i : ℕ) → i < length rows → (get_or (get_or rows i []) at 0 == byte) ≡ byte_fits (get_or (get_or rows i []) at 0) (bits (get_or inputs at 0))
        → (has_next like at byte (get_or rows i []) && row_fits bits (drop (suc at) inputs) (drop (suc at) (get_or rows i [])))
        ≡ (agree at like (get_or rows i []) && row_fits bits (drop at inputs) (drop at (get_or rows i [])))
    fits_more byte i low asks =
        let row : List ℕ = get_or rows i [] in
        let wide = (full i [] low).length in
        let rest : Bool = row_fits bits (drop (suc at) inputs) (drop (suc at) row) in
        let whole : row_fits bits (drop at inputs) (drop at row) ≡ (byte_fits (get_or row at 0) (bits (get_or inputs at 0)) && rest) =
        ap₂ (λ (xs ys : List ℕ). row_fits bits xs ys) (drop-cons inputs at 0 lt) (drop-cons row at 0 (omega (arith, wide, lt))) in
        and_then (agree at like row) (get_or row at 0 == byte) rest ∙ ap (λ (b : Bool). agree at like row && b) (ap (λ (b : Bool). b && rest) asks ∙ sym whole)

    next_fits : (byte : ℕ) (next : Option ℕ) → IsNext rows like at byte next
        → ((x : ℕ) → is_bit x ≡ true → (x == byte) ≡ byte_fits x (bits (get_or inputs at 0)))
        → class_fits bits inputs rows next (suc at) ≡ list_any (λ (row : List ℕ). agree at like row && row_fits bits (drop at inputs) (drop at row)) rows
    next_fits byte next is asks =
        any_each (λ (row : List ℕ). in_class rows next (suc at) row && row_fits bits (drop (suc at) inputs) (drop (suc at) row))
        (λ (row : List ℕ). agree at like row && row_fits bits (drop at inputs) (drop at row)) [] rows
        (λ i low. ap (λ (b : Bool). b && row_fits bits (drop (suc at) inputs) (drop (suc at) (get_or rows i []))) (narrowed rows like at byte next is i low)
        ∙ fits_more byte i low (asks (get_or (get_or rows i []) at 0) (bit_at i low)))

  -- the input selects which rows are left
  selected_fits : (bits : ℕ → Bool) (place : ℕ) (none one : Option ℕ) → IsNext rows (get_or rows place []) at 48 none → IsNext rows (get_or rows place []) at 49 one
      → cond (bits (get_or inputs at 0)) (class_fits bits inputs rows one (suc at)) (class_fits bits inputs rows none (suc at)) ≡ class_fits bits inputs rows (Some place) at
  selected_fits bits place none one is_none is_one = split (bits (get_or inputs at 0)) refl
    where
      split : (b : Bool) → bits (get_or inputs at 0) ≡ b
          → cond b (class_fits bits inputs rows one (suc at)) (class_fits bits inputs rows none (suc at)) ≡ class_fits bits inputs rows (Some place) at
      split true e = next_fits bits (get_or rows place []) 49 one is_one (λ x h. asks_one x h ∙ ap (λ (b : Bool). byte_fits x b) (sym e))
      split false e = next_fits bits (get_or rows place []) 48 none is_none (λ x h. asks_zero x h ∙ ap (λ (b : Bool). byte_fits x b) (sym e))

  operations_shared : (place : ℕ) (none one : Option ℕ) → place < length rows → IsNext rows (get_or rows place []) at 48 none → IsNext rows (get_or rows place []) at 49 one
      → class_operations (length inputs) rows none (suc at) + (class_operations (length inputs) rows one (suc at) + 1) ≤ class_operations (length inputs) rows (Some place) at
  operations_shared place none one here is_none is_one =
      let like : List ℕ = get_or rows place [] in
      let left : ℕ = length inputs - suc at in
      let own : (List ℕ → ℕ) = λ row. cond (agree at like row) 1 0 in
      let all = sum_three (λ (row : List ℕ). cond (agree at like row) (length inputs - at) 0) (λ (row : List ℕ). cond (in_class rows none (suc at) row) left 0)
      (λ (row : List ℕ). cond (in_class rows one (suc at) row) left 0) own [] rows
      (λ i low. weight_shared (agree at like (get_or rows i [])) (get_or (get_or rows i []) at 0) (length inputs - at) left (bit_at i low) (omega (arith, lt))
      ∙ sym (ap₂ (λ (a b : Bool). cond a left 0 + (cond b left 0 + own (get_or rows i []))) (narrowed rows like at 48 none is_none i low) (narrowed rows like at 49 one is_one i low))) in
      let some = sum_some own [] rows place here (let self : cond (agree at like like) 1 0 ≡ 1 = ap {B = ℕ} (λ (b : Bool). cond b 1 0) (agree_self at like) in omega (arith, self)) in
      omega (arith, all, some)

  pub operations_next : (place next : ℕ) (none one : Option ℕ) → next ≡ suc at → place < length rows → IsNext rows (get_or rows place []) at 48 none
      → IsNext rows (get_or rows place []) at 49 one
      → class_operations (length inputs) rows none next + (class_operations (length inputs) rows one next + 1) ≤ class_operations (length inputs) rows (Some place) at
  operations_next place next none one is here is_none is_one =
      subst (λ (k : ℕ). class_operations (length inputs) rows none k + (class_operations (length inputs) rows one k + 1) ≤ class_operations (length inputs) rows (Some place) at) (sym is)
      (operations_shared place none one here is_none is_one)

-- all rows have no more bytes than literals
pub operations_all : (width : ℕ) (rows : List (List ℕ)) → All (IsFull width) rows → class_operations width rows (Some 0) 0 ≤ rows_operations rows
operations_all width rows full =
    let less = sum_less (λ (row : List ℕ). width - 0) literals_in [] rows
    (λ i lt. let row = full i [] lt in let wide = row.length in let all = literals_full (get_or rows i []) row.bits in omega (arith, wide, all)) in
    omega (arith, less)

pub full_rows : (width : ℕ) (rows : List (List ℕ)) → All (IsRow width) rows → list_all is_full rows ≡ true → All (IsFull width) rows
full_rows width rows wide full i d lt = record { length = (wide i d lt).length; bits = AllPass-from_list_all is_full rows full i d lt }

-- ---- in a store

abbrev pub class_of : Diagrams → Span → List ℕ → List (List ℕ) → Option ℕ → ℕ → Function
class_of d span inputs rows class at = λ v. class_fits (bits_in d span v) inputs rows class at

pub none_gives : (d : Diagrams) (span : Span) (inputs : List ℕ) (rows : List (List ℕ)) (at : ℕ) → IsReduced d.vars d.nodes → length d.nodes ≤ d.budget
    → Gives d d (class_of d span inputs rows None at) (Ok (record { 0 = 0 }))
none_gives d span inputs rows at sound within =
    gives_none d (class_of d span inputs rows None at) (record { 0 = 0 }) sound within (let ends = sound.ends in omega (arith, ends))
    (λ v. meaning_zero d.nodes v ∙ sym (none_fits (bits_in d span v) inputs rows at))

pub last_gives : (d : Diagrams) (span : Span) (inputs : List ℕ) (rows : List (List ℕ)) (place at : ℕ) → place < length rows → at ≡ length inputs → IsReduced d.vars d.nodes
    → length d.nodes ≤ d.budget → Gives d d (class_of d span inputs rows (Some place) at) (Ok (record { 0 = 1 }))
last_gives d span inputs rows place at lt end sound within =
    gives_none d (class_of d span inputs rows (Some place) at) (record { 0 = 1 }) sound within (let ends = sound.ends in omega (arith, ends))
    (λ v. meaning_one d.nodes v ∙ sym (last_fits (bits_in d span v) inputs rows place at lt end))

class_same : (b d : ℕ → Bool) (inputs : List ℕ) (rows : List (List ℕ)) (class : Option ℕ) (at : ℕ) → ((s : ℕ) → Among inputs s → b s ≡ d s)
    → class_fits b inputs rows class at ≡ class_fits d inputs rows class at
class_same b d inputs rows class at h =
    any_same (λ (row : List ℕ). in_class rows class at row && row_fits b (drop at inputs) (drop at row)) (λ (row : List ℕ). in_class rows class at row && row_fits d (drop at inputs) (drop at row))
    (λ row. ap (λ (x : Bool). in_class rows class at row && x) (row_same b d (drop at inputs) (drop at row) (λ s m. h s (among_drop at inputs s m)))) rows

module _ (a : Diagrams) (span : Span) (inputs : List ℕ) (rows : List (List ℕ)) (live : IsFilled a span) (low : All (λ s. s < span.len) inputs) where
  pub class_kept : (b : Diagrams) (f : Function) (r : Result H Spent) → Gives a b f r → (class : Option ℕ) (at : ℕ) → IsSame (class_of b span inputs rows class at) (class_of a span inputs rows class at)
  class_kept b f r g class at v =
      class_same (bits_in b span v) (bits_in a span v) inputs rows class at (λ s m. bits_kept a b f r span s v g live (all_among (λ (k : ℕ). k < span.len) inputs s low m))

  pub class_within : (u : ℕ) → IsSpanWithin u a span → (class : Option ℕ) (at : ℕ) → IsWithin u (class_of a span inputs rows class at)
  class_within u reads class at v w same =
      class_same (bits_in a span v) (bits_in a span w) inputs rows class at (λ s m. reads s (all_among (λ (k : ℕ). k < span.len) inputs s low m) v w same)

  -- the low branch from a to b, the high one from b to c, and the choice from c on
  module _ (full : All (IsFull (length inputs)) rows) (place at next : ℕ) (lt : at < length inputs) (is_next : next ≡ suc at) (none one : Option ℕ)
      (is_none : IsNext rows (get_or rows place []) at 48 none) (is_one : IsNext rows (get_or rows place []) at 49 one) (b : Diagrams) (lo : H)
      (first : Gives a b (class_of a span inputs rows none next) (Ok lo)) where
    pub high_refused : (c : Diagrams) (s : Spent) → Gives b c (class_of b span inputs rows one next) (Err s) → Gives a c (class_of a span inputs rows (Some place) at) (Err s)
    high_refused c s second =
        gives_refused a b c (class_of a span inputs rows none next) (class_of b span inputs rows one next) (class_of a span inputs rows (Some place) at) lo s first second

    module _ (c : Diagrams) (hi value : H) (second : Gives b c (class_of b span inputs rows one next) (Ok hi)) (is : value.0 ≡ word_at c span (get_or inputs at 0)) where
      abbrev pub chosen : Function
      chosen = choice (function_of c value) (function_of c hi) (function_of c lo)

      chosen_is : IsSame chosen (class_of a span inputs rows (Some place) at)
      chosen_is v =
          let signal : ℕ = get_or inputs at 0 in
          let both : Gives a c (class_of b span inputs rows one next) (Ok hi) =
          gives_next a b c (class_of a span inputs rows none next) (class_of b span inputs rows one next) (class_of b span inputs rows one next) lo (Ok hi) first second (λ w. refl) in
          let bit : function_of c value v ≡ bits_in a span v signal =
          ap (λ (k : ℕ). meaning c.nodes k v) is ∙ bits_kept a c (class_of b span inputs rows one next) (Ok hi) span signal v both live (low at 0 lt) in
          let high : function_of c hi v ≡ class_fits (bits_in a span v) inputs rows one (suc at) =
          second.ok.same v ∙ class_kept b (class_of a span inputs rows none next) (Ok lo) first one next v
          ∙ ap (λ (k : ℕ). class_fits (bits_in a span v) inputs rows one k) is_next in
          let low_is : function_of c lo v ≡ class_fits (bits_in a span v) inputs rows none (suc at) =
          second.adds.kept lo.0 first.ok.live v ∙ first.ok.same v ∙ ap (λ (k : ℕ). class_fits (bits_in a span v) inputs rows none k) is_next in
          ap (λ (x : Bool). cond x (function_of c hi v) (function_of c lo v)) bit ∙ ap₂ (λ (x y : Bool). cond (bits_in a span v signal) x y) high low_is
          ∙ selected_fits inputs rows full at lt (bits_in a span v) place none one is_none is_one

      pub chosen_gives : (d : Diagrams) (r : Result H Spent) → Makes c d chosen r → Gives a d (class_of a span inputs rows (Some place) at) r
      chosen_gives d r made =
          let third : Gives c d (class_of a span inputs rows (Some place) at) r = gives_made c d chosen (class_of a span inputs rows (Some place) at) r chosen_is made in
          let on : Gives b d (class_of a span inputs rows (Some place) at) r =
          gives_next b c d (class_of b span inputs rows one next) (class_of a span inputs rows (Some place) at) (class_of a span inputs rows (Some place) at) hi r second third (λ v. refl) in
          gives_next a b d (class_of a span inputs rows none next) (class_of a span inputs rows (Some place) at) (class_of a span inputs rows (Some place) at) lo r first on (λ v. refl)

      pub chosen_counts : (u : ℕ) (d : Diagrams) (r : Result H Spent) → 2 ≤ length a.nodes → IsSpanWithin u a span → Makes c d chosen r → Counts u 1 c d r
      chosen_counts u d r two reads made =
          let more = first.adds.longer in
          let then = second.adds.longer in
          counts_made u c d (omega (arith, two, more, then)) chosen r made
          (within_same u (class_of a span inputs rows (Some place) at) chosen chosen_is (class_within u reads (Some place) at))
