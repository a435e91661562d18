-- The diagrams of rows and covers, operation by operation.
use Rattle.std.proofs.Common.{◌≡◌, ℕ, suc, ◌+◌, ◌<◌, ◌≤◌, ◌&&◌, ◌||◌, Bool, true, false, not, cond, List, [], ◌∷◌, drop, take, get_or, length, Result, Ok, arith, ap, ap₂, sym, refl, ◌∙◌}
use Rattle.std.specs.Prelude.{All}
use Rattle.std.proofs.Math.Seq.{drop-cons}
use Rattle.std.proofs.lemmas.List.Folds.{list_any_more}
use Rattle.vrt_model.proofs.Assignments.{row_same}
use Rattle.bdd_ops.specs.Ops.{not_of, or_of}
use Rattle.bdd_core.proofs.Frames.{gives_made, gives_next, gives_none, word_added}
use Rattle.vrt_model.proofs.Members.{all_among}
use Rattle.bdd_core.proofs.Meaning.{meaning_one, meaning_zero}
use Rattle.bdd_core.specs.Diagram.{Function, IsReduced, Valuation, meaning}
use Rattle.bdd_core.specs.Store.{Diagrams, Gives, IsLive, Makes, function_of}
use Rattle.bdd_core.specs.declared.handle.H.{H}
use Rattle.bdd_core.specs.declared.handle.Spent.{Spent}
use Rattle.bdd_core.specs.Words.{IsFilled, word_at}
use Rattle.blif_eval.specs.Settled.{bits_in}
use Rattle.node_pool.specs.declared.region.Span.{Span}
use Rattle.vrt_model.specs.Covers.{byte_fits, cover_bit, row_fits, some_row_fits}
use Rattle.vrt_model.specs.Lists.{is_empty}
use Rattle.vrt_model.specs.declared.flat_model.Cover.{Cover}

-- ---- one literal

pub zero_literal : (a b : Bool) → cond a false b ≡ (byte_fits 48 a && b)
zero_literal true b = refl
zero_literal false b = refl

pub one_literal : (a b : Bool) → cond a b false ≡ (byte_fits 49 a && b)
one_literal true b = refl
one_literal false b = refl

-- where it does not fit
pub zero_misfit : (a b : Bool) → cond a true b ≡ (not (byte_fits 48 a) || b)
zero_misfit true b = refl
zero_misfit false b = refl

pub one_misfit : (a b : Bool) → cond a b true ≡ (not (byte_fits 49 a) || b)
one_misfit true b = refl
one_misfit false b = refl

-- ---- bits are kept

pub bits_kept : (a b : Diagrams) (f : Function) (r : Result H Spent) (span : Span) (s : ℕ) (v : Valuation) → Gives a b f r → IsFilled a span → s < span.len
    → bits_in b span v s ≡ bits_in a span v s
bits_kept a b f r span s v g live lt = ap (λ (k : ℕ). meaning b.nodes k v) (word_added span a b s g.adds) ∙ g.adds.kept (word_at a span s) (live s lt) v

-- ---- a row, from its last input to its first

drop_all : {X : Type 0} (xs : List X) → drop (length xs) xs ≡ []
drop_all [] = refl
drop_all (x ∷ xs) = drop_all xs

abbrev pub row_from : Diagrams → Span → List ℕ → List ℕ → ℕ → Function
row_from d span inputs row at = λ v. row_fits (bits_in d span v) (drop at inputs) (drop at row)

pub row_last : (d : Diagrams) (span : Span) (inputs row : List ℕ) (at : ℕ) → at ≡ length inputs → IsReduced d.vars d.nodes
    → length d.nodes ≤ d.budget → Gives d d (row_from d span inputs row at) (Ok (record { 0 = 1 }))
row_last d span inputs row at is sound within =
    gives_none d (row_from d span inputs row at) (record { 0 = 1 }) sound within (let ends = sound.ends in omega (arith, ends))
    (λ v. meaning_one d.nodes v ∙ sym (ap (λ (xs : List ℕ). row_fits (bits_in d span v) xs (drop at row)) (ap (λ (k : ℕ). drop k inputs) is ∙ drop_all inputs)))

pub row_next : (a b c : Diagrams) (span : Span) (inputs row : List ℕ) (before at : ℕ) (value p : H) (r : Result H Spent) → before ≡ suc at → IsFilled a span
    → at < length inputs → at < length row → get_or inputs at 0 < span.len → value.0 ≡ word_at b span (get_or inputs at 0)
    → Gives a b (row_from a span inputs row before) (Ok p) → Gives b c (λ v. byte_fits (get_or row at 0) (function_of b value v) && function_of b p v) r
    → Gives a c (row_from a span inputs row at) r
row_next a b c span inputs row before at value p r next live lt within low is first second =
    gives_next a b c (row_from a span inputs row before) (λ v. byte_fits (get_or row at 0) (function_of b value v) && function_of b p v) (row_from a span inputs row at) p r first second same
  where
    same : (v : Valuation) → (byte_fits (get_or row at 0) (function_of b value v) && function_of b p v) ≡ row_from a span inputs row at v
    same v =
        let bit : function_of b value v ≡ bits_in a span v (get_or inputs at 0) =
        ap (λ (k : ℕ). meaning b.nodes k v) is ∙ bits_kept a b (row_from a span inputs row before) (Ok p) span (get_or inputs at 0) v first live low in
        let rest : function_of b p v ≡ row_fits (bits_in a span v) (drop (suc at) inputs) (drop (suc at) row) =
        first.ok.same v ∙ ap (λ (k : ℕ). row_fits (bits_in a span v) (drop k inputs) (drop k row)) next in
        let whole : row_from a span inputs row at v ≡ (byte_fits (get_or row at 0) (bits_in a span v (get_or inputs at 0)) && row_fits (bits_in a span v) (drop (suc at) inputs) (drop (suc at) row)) =
        ap₂ (λ (xs ys : List ℕ). row_fits (bits_in a span v) xs ys) (drop-cons inputs at 0 lt) (drop-cons row at 0 within) in
        ap₂ (λ (x y : Bool). byte_fits (get_or row at 0) x && y) bit rest ∙ sym whole

-- ---- where a row does not fit, likewise

abbrev pub row_misses : Diagrams → Span → List ℕ → List ℕ → ℕ → Function
row_misses d span inputs row at = λ v. not (row_from d span inputs row at v)

pub misses_last : (d : Diagrams) (span : Span) (inputs row : List ℕ) (at : ℕ) → at ≡ length inputs → IsReduced d.vars d.nodes
    → length d.nodes ≤ d.budget → Gives d d (row_misses d span inputs row at) (Ok (record { 0 = 0 }))
misses_last d span inputs row at is sound within =
    gives_none d (row_misses d span inputs row at) (record { 0 = 0 }) sound within (let ends = sound.ends in omega (arith, ends))
    (λ v. meaning_zero d.nodes v ∙ sym (ap (λ (xs : List ℕ). not (row_fits (bits_in d span v) xs (drop at row))) (ap (λ (k : ℕ). drop k inputs) is ∙ drop_all inputs)))

not_both : (x y : Bool) → not (x && y) ≡ (not x || not y)
not_both true y = refl
not_both false y = refl

pub misses_next : (a b c : Diagrams) (span : Span) (inputs row : List ℕ) (before at : ℕ) (value p : H) (r : Result H Spent) → before ≡ suc at → IsFilled a span
    → at < length inputs → at < length row → get_or inputs at 0 < span.len → value.0 ≡ word_at b span (get_or inputs at 0)
    → Gives a b (row_misses a span inputs row before) (Ok p) → Gives b c (λ v. not (byte_fits (get_or row at 0) (function_of b value v)) || function_of b p v) r
    → Gives a c (row_misses a span inputs row at) r
misses_next a b c span inputs row before at value p r next live lt within low is first second =
    gives_next a b c (row_misses a span inputs row before) (λ v. not (byte_fits (get_or row at 0) (function_of b value v)) || function_of b p v) (row_misses a span inputs row at) p r first second same
  where
    same : (v : Valuation) → (not (byte_fits (get_or row at 0) (function_of b value v)) || function_of b p v) ≡ row_misses a span inputs row at v
    same v =
        let bit : function_of b value v ≡ bits_in a span v (get_or inputs at 0) =
        ap (λ (k : ℕ). meaning b.nodes k v) is ∙ bits_kept a b (row_misses a span inputs row before) (Ok p) span (get_or inputs at 0) v first live low in
        let rest : function_of b p v ≡ not (row_fits (bits_in a span v) (drop (suc at) inputs) (drop (suc at) row)) =
        first.ok.same v ∙ ap (λ (k : ℕ). not (row_fits (bits_in a span v) (drop k inputs) (drop k row))) next in
        let fits : Bool = byte_fits (get_or row at 0) (bits_in a span v (get_or inputs at 0)) in
        let behind : Bool = row_fits (bits_in a span v) (drop (suc at) inputs) (drop (suc at) row) in
        let whole : row_from a span inputs row at v ≡ (fits && behind) = ap₂ (λ (xs ys : List ℕ). row_fits (bits_in a span v) xs ys) (drop-cons inputs at 0 lt) (drop-cons row at 0 within) in
        ap₂ (λ (x y : Bool). not (byte_fits (get_or row at 0) x) || y) bit rest ∙ sym (not_both fits behind) ∙ ap not (sym whole)

-- ---- rows, one after the other

abbrev pub rows_upto : Diagrams → Span → List ℕ → List (List ℕ) → ℕ → Function
rows_upto d span inputs rows k = λ v. some_row_fits (bits_in d span v) inputs (take k rows)

pub rows_none : (d : Diagrams) (span : Span) (inputs : List ℕ) (rows : List (List ℕ)) → IsReduced d.vars d.nodes → length d.nodes ≤ d.budget
    → Gives d d (rows_upto d span inputs rows 0) (Ok (record { 0 = 0 }))
rows_none d span inputs rows sound within =
    gives_none d (rows_upto d span inputs rows 0) (record { 0 = 0 }) sound within (let ends = sound.ends in omega (arith, ends)) (λ v. meaning_zero d.nodes v)

-- the same bits of the inputs, the same rows fit
pub row_bits : (a b : Diagrams) (f : Function) (r : Result H Spent) (span : Span) (v : Valuation) (inputs row : List ℕ) → Gives a b f r → IsFilled a span
    → All (λ s. s < span.len) inputs → row_fits (bits_in b span v) inputs row ≡ row_fits (bits_in a span v) inputs row
row_bits a b f r span v inputs row g live low =
    row_same (bits_in b span v) (bits_in a span v) inputs row (λ s m. bits_kept a b f r span s v g live (all_among (λ (k : ℕ). k < span.len) inputs s low m))

-- a row, and then both
pub added_row : (a b c : Diagrams) (span : Span) (inputs row : List ℕ) (sum one : H) (r : Result H Spent) → IsLive a sum
    → Gives a b (λ v. row_fits (bits_in a span v) inputs row) (Ok one) → Gives b c (or_of (function_of b sum) (function_of b one)) r
    → Gives a c (λ v. function_of a sum v || row_fits (bits_in a span v) inputs row) r
added_row a b c span inputs row sum one r there first second =
    gives_next a b c (λ v. row_fits (bits_in a span v) inputs row) (or_of (function_of b sum) (function_of b one)) (λ v. function_of a sum v || row_fits (bits_in a span v) inputs row) one r first second
    (λ v. ap₂ (λ (x y : Bool). x || y) (first.adds.kept sum.0 there v) (first.ok.same v))

-- a row more
pub rows_next : (a b c : Diagrams) (span : Span) (inputs : List ℕ) (rows : List (List ℕ)) (k : ℕ) (sum : H) (r : Result H Spent) → IsFilled a span
    → All (λ s. s < span.len) inputs → k < length rows → Gives a b (rows_upto a span inputs rows k) (Ok sum)
    → Gives b c (λ v. function_of b sum v || row_fits (bits_in b span v) inputs (get_or rows k [])) r → Gives a c (rows_upto a span inputs rows (k + 1)) r
rows_next a b c span inputs rows k sum r live low lt first second =
    gives_next a b c (rows_upto a span inputs rows k) (λ v. function_of b sum v || row_fits (bits_in b span v) inputs (get_or rows k [])) (rows_upto a span inputs rows (k + 1)) sum r first second both
  where
    both : (v : Valuation) → (function_of b sum v || row_fits (bits_in b span v) inputs (get_or rows k [])) ≡ rows_upto a span inputs rows (k + 1) v
    both v =
        ap₂ (λ (x y : Bool). x || y) (first.ok.same v) (row_bits a b (rows_upto a span inputs rows k) (Ok sum) span v inputs (get_or rows k []) first live low)
        ∙ sym (list_any_more (row_fits (bits_in a span v) inputs) rows k [] lt)

-- ---- the bit of a cover

pub cover_as_none : (bits : ℕ → Bool) (cover : Cover) → (cover.on || is_empty cover.rows) ≡ false → not (some_row_fits bits cover.inputs cover.rows) ≡ cover_bit bits cover
cover_as_none bits cover e = let some = some_row_fits bits cover.inputs cover.rows in sym (ap (λ (b : Bool). cond b some (not some)) e)

pub cover_none : (a b c : Diagrams) (span : Span) (cover : Cover) (sum : H) (r : Result H Spent) → (cover.on || is_empty cover.rows) ≡ false
    → Gives a b (λ v. some_row_fits (bits_in a span v) cover.inputs cover.rows) (Ok sum) → Makes b c (not_of (function_of b sum)) r
    → Gives a c (λ v. cover_bit (bits_in a span v) cover) r
cover_none a b c span cover sum r e first m =
    gives_next a b c (λ v. some_row_fits (bits_in a span v) cover.inputs cover.rows) (not_of (function_of b sum)) (λ v. cover_bit (bits_in a span v) cover) sum r first
    (gives_made b c (not_of (function_of b sum)) (not_of (function_of b sum)) r (λ v. refl) m)
    (λ v. ap not (first.ok.same v) ∙ cover_as_none (bits_in a span v) cover e)
