-- How many operations rows, covers and models take, and that they read no more variables than the handles given.
use Rattle.std.proofs.Common.{◌≡◌, ℕ, zero, suc, ◌+◌, ◌<◌, ◌≤◌, ◌||◌, Bool, true, false, not, List, [], ◌∷◌, Result, drop, take, get_or, length, slice_index, arith, ap, ◌∙◌}
use Rattle.std.specs.Prelude.{sum_by, ◌==◌}
use Rattle.std.proofs.lemmas.Bool.{true≢false}
use Rattle.std.proofs.lemmas.List.{length-take-le}
use Rattle.std.proofs.lemmas.List.Sums.{length-filter, sum_by-drop_more, sum_by-take-drop, sum_by-take-le, sum_by_more}
use Rattle.vrt_model.proofs.Assignments.{row_same, rows_same}
use Rattle.bdd_core.specs.Diagram.{Function, IsWithin, meaning}
use Rattle.bdd_core.specs.Store.{Diagrams, function_of, Gives}
use Rattle.bdd_core.specs.Words.{IsFilled, word_at}
use Rattle.bdd_core.specs.declared.handle.H.{H}
use Rattle.bdd_core.specs.declared.handle.Spent.{Spent}
use Rattle.bdd_ops.proofs.WithinLaws.{within_same}
use Rattle.bdd_ops.specs.Counting.{IsSpanWithin}
use Rattle.blif_eval.proofs.RowLaws.{bits_kept}
use Rattle.blif_eval.specs.Settled.{bits_in}
use Rattle.blif_eval.specs.Operations.{literal_count, rows_operations}
use Rattle.node_pool.specs.declared.region.Span.{Span}
use Rattle.vrt_model.proofs.Members.{among_later}
use Rattle.vrt_model.specs.Budget.{literals_in}
use Rattle.vrt_model.specs.Covers.{row_fits, some_row_fits}
use Rattle.vrt_model.specs.Lists.{Among, is_empty}
use Rattle.vrt_model.specs.declared.flat_model.Cover.{Cover}

-- ---- what is read

pub among_drop : {X : Type 0} (n : ℕ) (xs : List X) (x : X) → Among (drop n xs) x → Among xs x
among_drop zero xs x m = m
among_drop (suc n) [] x m = m
among_drop (suc n) (y ∷ xs) x m = let rest = among_drop n xs x m in among_later y xs x rest

module _ (u : ℕ) (a : Diagrams) (span : Span) (reads : IsSpanWithin u a span) (inputs : List ℕ) (low : (s : ℕ) → Among inputs s → s < span.len) where
  pub row_within : (row : List ℕ) → IsWithin u (λ v. row_fits (bits_in a span v) inputs row)
  row_within row v w same = row_same (bits_in a span v) (bits_in a span w) inputs row (λ s m. reads s (low s m) v w same)

  pub part_within : (row : List ℕ) (at : ℕ) → IsWithin u (λ v. row_fits (bits_in a span v) (drop at inputs) (drop at row))
  part_within row at v w same =
      row_same (bits_in a span v) (bits_in a span w) (drop at inputs) (drop at row) (λ s m. reads s (low s (among_drop at inputs s m)) v w same)

  pub misses_within : (row : List ℕ) (at : ℕ) → IsWithin u (λ v. not (row_fits (bits_in a span v) (drop at inputs) (drop at row)))
  misses_within row at v w same = ap not (part_within row at v w same)

  pub rows_within : (rows : List (List ℕ)) → IsWithin u (λ v. some_row_fits (bits_in a span v) inputs rows)
  rows_within rows v w same = rows_same (bits_in a span v) (bits_in a span w) inputs rows (λ s m. reads s (low s m) v w same)

-- the handle of a signal, after some operations
pub value_within : (u : ℕ) (a b : Diagrams) (f : Function) (r : Result H Spent) (span : Span) (s : ℕ) (value : H) → Gives a b f r → IsFilled a span → s < span.len
    → value.0 ≡ word_at b span s → IsSpanWithin u a span → IsWithin u (function_of b value)
value_within u a b f r span s value g live lt is reads =
    within_same u (λ v. bits_in a span v s) (function_of b value) (λ v. ap (λ (k : ℕ). meaning b.nodes k v) is ∙ bits_kept a b f r span s v g live lt) (reads s lt)

-- handles that keep their functions read what they read
pub span_within : (u : ℕ) (a b : Diagrams) (f : Function) (r : Result H Spent) (span : Span) → Gives a b f r → IsFilled a span → IsSpanWithin u a span → IsSpanWithin u b span
span_within u a b f r span g live reads s lt = within_same u (λ v. bits_in a span v s) (λ v. bits_in b span v s) (λ v. bits_kept a b f r span s v g live lt) (reads s lt)

-- ---- counts of rows

-- a cover whose bit is the complement has rows
pub off_rows : (cover : Cover) → (cover.on || is_empty cover.rows) ≡ false → 1 ≤ length cover.rows
off_rows cover e = by_parts cover.on cover.rows e
  where
    by_parts : (on : Bool) (rows : List (List ℕ)) → (on || is_empty rows) ≡ false → 1 ≤ length rows
    by_parts true rows e = absurd (true≢false e)
    by_parts false [] e = absurd (true≢false e)
    by_parts false (row ∷ rows) e = omega arith

pub literals_last : (row : List ℕ) (i j : ℕ) → i ≡ j → literals_in (drop i row) ≡ literals_in (drop j row)
literals_last row i j e = ap (λ (k : ℕ). literals_in (drop k row)) e

pub literals_are : (row : List ℕ) → literals_in row ≡ sum_by literal_count row
literals_are row = length-filter (λ (byte : ℕ). (byte == 48) || (byte == 49)) row

-- two bytes, exchanged
pub literals_turned : (row : List ℕ) → length row ≡ 2 → literals_in (slice_index row 1 ∷ slice_index row 0 ∷ []) ≤ literals_in row
literals_turned [] e = absurd (omega (arith, e))
literals_turned (a ∷ []) e = absurd (omega (arith, e))
literals_turned (a ∷ b ∷ []) e = omega (arith, literals_are (b ∷ a ∷ []), literals_are (a ∷ b ∷ []))
literals_turned (a ∷ b ∷ c ∷ row) e = absurd (omega (arith, e))

-- one literal more, from the last to the first
pub literals_next : (row : List ℕ) (at : ℕ) → at < length row → literals_in (drop at row) ≡ literal_count (get_or row at 0) + literals_in (drop (at + 1) row)
literals_next row at lt =
    let one = literals_are (drop at row) in
    let two = literals_are (drop (at + 1) row) in
    let more = sum_by-drop_more literal_count row at 0 lt in
    omega (arith, one, two, more)

pub literals_within : (row : List ℕ) (at : ℕ) → literals_in (drop at row) ≤ literals_in row
literals_within row at =
    let one = literals_are (drop at row) in
    let all = literals_are row in
    let parts = sum_by-take-drop literal_count row at in
    omega (arith, one, all, parts)

-- one row more
pub rows_more : (rows : List (List ℕ)) (k : ℕ) → k < length rows → rows_operations (take (k + 1) rows) ≡ rows_operations (take k rows) + (literals_in (get_or rows k []) + 1)
rows_more rows k lt =
    let literals = sum_by_more literals_in rows k [] lt in
    let now = length-take-le k rows (omega (arith, lt)) in
    let next = length-take-le (k + 1) rows (omega (arith, lt)) in
    omega (arith, literals, now, next)

length_take : {X : Type 0} (k : ℕ) (xs : List X) → length (take k xs) ≤ length xs
length_take zero xs = omega arith
length_take (suc k) [] = omega arith
length_take (suc k) (x ∷ xs) = let rest = length_take k xs in omega (arith, rest)

pub rows_take : (rows : List (List ℕ)) (k : ℕ) → rows_operations (take k rows) ≤ rows_operations rows
rows_take rows k =
    let literals = sum_by-take-le literals_in rows k in
    let count = length_take k rows in
    omega (arith, literals, count)
