-- A row but for one place, and two rows that ask opposite bits of an input: the input selects which of them asks the rest.
use Rattle.std.proofs.Common.{◌≡◌, ℕ, zero, suc, ◌+◌, ◌<◌, ◌≤◌, ◌&&◌, ◌||◌, ◌⊎◌, Bool, true, false, cond, List, [], ◌∷◌, Result, Ok, get_or, length, arith, ap, ap₂, refl, sym, subst, ◌∙◌, inl, inr}
use Rattle.std.specs.Prelude.{All, set, sum_by, ◌==◌}
use Rattle.std.proofs.lemmas.Bool.{eqb-true, true≢false}
use Rattle.std.proofs.lemmas.List.Sums.{sum_by-cons}
use Rattle.bdd_core.proofs.Frames.{gives_next, gives_same}
use Rattle.bdd_core.specs.Diagram.{Function, Valuation, meaning}
use Rattle.bdd_core.specs.Store.{Diagrams, Gives, IsLive, function_of}
use Rattle.bdd_core.specs.Words.{IsFilled, word_at}
use Rattle.bdd_core.specs.declared.handle.H.{H}
use Rattle.bdd_core.specs.declared.handle.Spent.{Spent}
use Rattle.blif_eval.proofs.CountLaws.{literals_are}
use Rattle.blif_eval.proofs.RowLaws.{bits_kept, row_bits}
use Rattle.blif_eval.specs.Operations.{literal_count, rows_operations}
use Rattle.blif_eval.specs.Selections.{IsSelector, are_opposite}
use Rattle.blif_eval.specs.Settled.{bits_in, stored}
use Rattle.node_pool.specs.declared.region.Span.{Span}
use Rattle.vrt_model.specs.Budget.{literals_in}
use Rattle.vrt_model.specs.Covers.{byte_fits, row_fits, some_row_fits}
use Rattle.vrt_model.specs.FlatModels.{IsCover}
use Rattle.vrt_model.specs.declared.flat_model.Cover.{Cover}

-- ---- a row that asks nothing at one place

count_left : (row : List ℕ) (at : ℕ) → sum_by literal_count (set row at 45) ≤ sum_by literal_count row
count_left [] at = omega arith
count_left (byte ∷ row) zero =
    let none : literal_count 45 ≡ 0 = refl in
    let new = sum_by-cons literal_count 45 row in
    let old = sum_by-cons literal_count byte row in
    omega (arith, none, new, old)
count_left (byte ∷ row) (suc at) =
    let rest = count_left row at in
    let new = sum_by-cons literal_count byte (set row at 45) in
    let old = sum_by-cons literal_count byte row in
    omega (arith, rest, new, old)

pub literals_left : (row : List ℕ) (at : ℕ) → literals_in (set row at 45) ≤ literals_in row
literals_left row at =
    let new = literals_are (set row at 45) in
    let old = literals_are row in
    let less = count_left row at in
    omega (arith, new, old, less)

swap : (a b c : Bool) → (a && (b && c)) ≡ (b && (a && c))
swap true true c = refl
swap true false c = refl
swap false true c = refl
swap false false c = refl

-- a row asks what it asks at a place, and the rest
pub row_split : (bits : ℕ → Bool) (inputs row : List ℕ) (at : ℕ) → at < length inputs → at < length row
    → row_fits bits inputs row ≡ (byte_fits (get_or row at 0) (bits (get_or inputs at 0)) && row_fits bits inputs (set row at 45))
row_split bits [] row at lt within = absurd (omega (arith, lt))
row_split bits (input ∷ inputs) [] at lt within = absurd (omega (arith, within))
row_split bits (input ∷ inputs) (byte ∷ row) zero lt within = refl
row_split bits (input ∷ inputs) (byte ∷ row) (suc at) lt within =
    ap (λ (b : Bool). byte_fits byte (bits input) && b) (row_split bits inputs row at (omega (arith, lt)) (omega (arith, within)))
    ∙ swap (byte_fits byte (bits input)) (byte_fits (get_or row at 0) (bits (get_or inputs at 0))) (row_fits bits inputs (set row at 45))

-- ---- opposite bytes select

opposite_bits : (p q a b : Bool) → cond p a (cond q b false) ≡ true → ((p ≡ true) × (a ≡ true)) ⊎ ((q ≡ true) × (b ≡ true))
opposite_bits true q a b h = inl (refl, h)
opposite_bits false true a b h = inr (refl, h)
opposite_bits false false a b h = absurd (true≢false (sym h))

opposite_bytes : (f s : ℕ) → are_opposite f s ≡ true → ((f ≡ 48) × (s ≡ 49)) ⊎ ((f ≡ 49) × (s ≡ 48))
opposite_bytes f s h = elim (opposite_bits (f == 48) (f == 49) (s == 49) (s == 48) h) [
  | inl w ↦ inl (eqb-true f 48 w.0, eqb-true s 49 w.1)
  | inr w ↦ inr (eqb-true f 49 w.0, eqb-true s 48 w.1)
]

one_first : (x y z : Bool) → stored true x y z ≡ ((byte_fits 49 x && y) || (byte_fits 48 x && z))
one_first true true z = refl
one_first true false z = refl
one_first false y z = refl

zero_first : (x y z : Bool) → stored false x y z ≡ ((byte_fits 48 x && y) || (byte_fits 49 x && z))
zero_first true y z = refl
zero_first false true z = refl
zero_first false false z = refl

-- of two rows that ask opposite bits of an input the one fits that asks its bit, where it asks no more of the others than they have
selects : (f s : ℕ) (x y z : Bool) → are_opposite f s ≡ true → stored (f == 49) x y z ≡ ((byte_fits f x && y) || (byte_fits s x && z))
selects f s x y z h = elim (opposite_bytes f s h) [
  | inl w ↦
      subst (λ (k : ℕ). stored (k == 49) x y z ≡ ((byte_fits k x && y) || (byte_fits s x && z))) (sym w.0)
      (subst (λ (k : ℕ). stored false x y z ≡ ((byte_fits 48 x && y) || (byte_fits k x && z))) (sym w.1) (zero_first x y z))
  | inr w ↦
      subst (λ (k : ℕ). stored (k == 49) x y z ≡ ((byte_fits k x && y) || (byte_fits s x && z))) (sym w.0)
      (subst (λ (k : ℕ). stored true x y z ≡ ((byte_fits 49 x && y) || (byte_fits k x && z))) (sym w.1) (one_first x y z))
]

-- ---- in a store

-- a row but for one place, and then the choice
pub beside_row : (a b c : Diagrams) (span : Span) (inputs row : List ℕ) (s : ℕ) (asks : Bool) (one other value : H) (r : Result H Spent) → IsFilled a span
    → s < span.len → IsLive a one → value.0 ≡ word_at b span s → Gives a b (λ v. row_fits (bits_in a span v) inputs row) (Ok other)
    → Gives b c (λ v. stored asks (function_of b value v) (function_of b one v) (function_of b other v)) r
    → Gives a c (λ v. stored asks (bits_in a span v s) (function_of a one v) (row_fits (bits_in a span v) inputs row)) r
beside_row a b c span inputs row s asks one other value r live lt there is first second =
    gives_next a b c (λ v. row_fits (bits_in a span v) inputs row) (λ v. stored asks (function_of b value v) (function_of b one v) (function_of b other v))
    (λ v. stored asks (bits_in a span v s) (function_of a one v) (row_fits (bits_in a span v) inputs row)) other r first second same
  where
    same : (v : Valuation)
        → stored asks (function_of b value v) (function_of b one v) (function_of b other v) ≡ stored asks (bits_in a span v s) (function_of a one v) (row_fits (bits_in a span v) inputs row)
    same v =
        let bit : function_of b value v ≡ bits_in a span v s =
        ap (λ (k : ℕ). meaning b.nodes k v) is ∙ bits_kept a b (λ v. row_fits (bits_in a span v) inputs row) (Ok other) span s v first live lt in
        ap (λ (x : Bool). stored asks x (function_of b one v) (function_of b other v)) bit
        ∙ ap₂ (λ (y z : Bool). stored asks (bits_in a span v s) y z) (first.adds.kept one.0 there v) (first.ok.same v)

-- one row, and the other beside it
pub selected_rows : (a b c : Diagrams) (span : Span) (inputs first second : List ℕ) (at : ℕ) (asks : Bool) (one : H) (r : Result H Spent) → IsFilled a span
    → All (λ s. s < span.len) inputs → at < length inputs → length first ≡ length inputs → length second ≡ length inputs
    → are_opposite (get_or first at 0) (get_or second at 0) ≡ true → asks ≡ (get_or first at 0 == 49)
    → Gives a b (λ v. row_fits (bits_in a span v) inputs (set first at 45)) (Ok one)
    → Gives b c (λ v. stored asks (bits_in b span v (get_or inputs at 0)) (function_of b one v) (row_fits (bits_in b span v) inputs (set second at 45))) r
    → Gives a c (λ v. row_fits (bits_in a span v) inputs first || row_fits (bits_in a span v) inputs second) r
selected_rows a b c span inputs first second at asks one r live low lt wide wide' opposite is made next =
    gives_next a b c (λ v. row_fits (bits_in a span v) inputs (set first at 45))
    (λ v. stored asks (bits_in b span v (get_or inputs at 0)) (function_of b one v) (row_fits (bits_in b span v) inputs (set second at 45)))
    (λ v. row_fits (bits_in a span v) inputs first || row_fits (bits_in a span v) inputs second) one r made next same
  where
    same : (v : Valuation)
        → stored asks (bits_in b span v (get_or inputs at 0)) (function_of b one v) (row_fits (bits_in b span v) inputs (set second at 45))
        ≡ (row_fits (bits_in a span v) inputs first || row_fits (bits_in a span v) inputs second)
    same v =
        let f = get_or first at 0 in
        let s = get_or second at 0 in
        let x = bits_in a span v (get_or inputs at 0) in
        let y = row_fits (bits_in a span v) inputs (set first at 45) in
        let z = row_fits (bits_in a span v) inputs (set second at 45) in
        let made_of : Function = λ v. row_fits (bits_in a span v) inputs (set first at 45) in
        ap (λ (q : Bool). stored q (bits_in b span v (get_or inputs at 0)) (function_of b one v) (row_fits (bits_in b span v) inputs (set second at 45))) is
        ∙ ap (λ (q : Bool). stored (f == 49) q (function_of b one v) (row_fits (bits_in b span v) inputs (set second at 45)))
        (bits_kept a b made_of (Ok one) span (get_or inputs at 0) v made live (low at 0 lt))
        ∙ ap₂ (λ (p q : Bool). stored (f == 49) x p q) (made.ok.same v) (row_bits a b made_of (Ok one) span v inputs (set second at 45) made live low)
        ∙ selects f s x y z opposite
        ∙ sym (ap₂ (λ (p q : Bool). p || q) (row_split (bits_in a span v) inputs first at lt (omega (arith, lt, wide))) (row_split (bits_in a span v) inputs second at lt (omega (arith, lt, wide'))))

-- ---- two rows are all of a cover

or_none : (b : Bool) → (b || false) ≡ b
or_none true = refl
or_none false = refl

two_fit : (bits : ℕ → Bool) (inputs : List ℕ) (rows : List (List ℕ)) → length rows ≡ 2
    → some_row_fits bits inputs rows ≡ (row_fits bits inputs (get_or rows 0 []) || row_fits bits inputs (get_or rows 1 []))
two_fit bits inputs [] two = absurd (omega (arith, two))
two_fit bits inputs (first ∷ []) two = absurd (omega (arith, two))
two_fit bits inputs (first ∷ second ∷ []) two = ap (λ (b : Bool). row_fits bits inputs first || b) (or_none (row_fits bits inputs second))
two_fit bits inputs (first ∷ second ∷ third ∷ rows) two = absurd (omega (arith, two))

two_count : (rows : List (List ℕ)) → length rows ≡ 2 → literals_in (get_or rows 0 []) + (literals_in (get_or rows 1 []) + 1) ≤ rows_operations rows
two_count [] two = absurd (omega (arith, two))
two_count (first ∷ []) two = absurd (omega (arith, two))
two_count (first ∷ second ∷ []) two =
    let all = sum_by-cons literals_in first (second ∷ []) in
    let last = sum_by-cons literals_in second [] in
    let none : sum_by literals_in [] ≡ 0 = refl in
    omega (arith, all, last, none)
two_count (first ∷ second ∷ third ∷ rows) two = absurd (omega (arith, two))

-- these are the inputs and the two rows of a cover
module _ (cover : Cover) (rows : List (List ℕ)) (first second : List ℕ) (all : rows ≡ cover.rows) (at_first : first ≡ get_or rows 0 []) (at_second : second ≡ get_or rows 1 []) where
  first_is : first ≡ get_or cover.rows 0 []
  first_is = at_first ∙ ap (λ (xs : List (List ℕ)). get_or xs 0 []) all

  second_is : second ≡ get_or cover.rows 1 []
  second_is = at_second ∙ ap (λ (xs : List (List ℕ)). get_or xs 1 []) all

  pub rows_wide : (signals : ℕ) → IsCover signals cover → length cover.rows ≡ 2 → (length first ≡ length cover.inputs) × (length second ≡ length cover.inputs)
  rows_wide signals is two =
      let one = (is.rows 0 [] (omega (arith, two))).length in
      let other = (is.rows 1 [] (omega (arith, two))).length in
      let here = ap (λ (xs : List ℕ). length xs) first_is in
      let there = ap (λ (xs : List ℕ). length xs) second_is in
      (omega (arith, one, here), omega (arith, other, there))

  opposite_same : (at : ℕ) → are_opposite (get_or first at 0) (get_or second at 0) ≡ are_opposite (get_or (get_or cover.rows 0 []) at 0) (get_or (get_or cover.rows 1 []) at 0)
  opposite_same at = ap₂ (λ (xs ys : List ℕ). are_opposite (get_or xs at 0) (get_or ys at 0)) first_is second_is

  pub selector_is : (signals at : ℕ) → IsCover signals cover → length cover.rows ≡ 2 → at < length first → are_opposite (get_or first at 0) (get_or second at 0) ≡ true → IsSelector cover at
  selector_is signals at is two lt opposite =
      let wide = rows_wide signals is two in
      record { two = two; place = omega (arith, lt, wide.0); opposite = sym (opposite_same at) ∙ opposite }

  pub selector_bytes : (at : ℕ) → IsSelector cover at → are_opposite (get_or first at 0) (get_or second at 0) ≡ true
  selector_bytes at s = opposite_same at ∙ s.opposite

  pub two_give : (a b : Diagrams) (span : Span) (inputs : List ℕ) (r : Result H Spent) → inputs ≡ cover.inputs → length cover.rows ≡ 2
      → Gives a b (λ v. row_fits (bits_in a span v) inputs first || row_fits (bits_in a span v) inputs second) r
      → Gives a b (λ v. some_row_fits (bits_in a span v) cover.inputs cover.rows) r
  two_give a b span inputs r is two made =
      gives_same a b (λ v. row_fits (bits_in a span v) inputs first || row_fits (bits_in a span v) inputs second) (λ v. some_row_fits (bits_in a span v) cover.inputs cover.rows) r same made
    where
      same : (v : Valuation) → (row_fits (bits_in a span v) inputs first || row_fits (bits_in a span v) inputs second) ≡ some_row_fits (bits_in a span v) cover.inputs cover.rows
      same v =
          ap (λ (xs : List ℕ). row_fits (bits_in a span v) xs first || row_fits (bits_in a span v) xs second) is
          ∙ ap₂ (λ (xs ys : List ℕ). row_fits (bits_in a span v) cover.inputs xs || row_fits (bits_in a span v) cover.inputs ys) first_is second_is
          ∙ sym (two_fit (bits_in a span v) cover.inputs cover.rows two)

  pub two_counted : length cover.rows ≡ 2 → literals_in first + (literals_in second + 1) ≤ rows_operations cover.rows
  two_counted two =
      let one = ap (λ (xs : List ℕ). literals_in xs) first_is in
      let other = ap (λ (xs : List ℕ). literals_in xs) second_is in
      let count = two_count cover.rows two in
      omega (arith, one, other, count)
