-- Lists of bits by variables, their order, and the bits of what has arrived.
use Rattle.std.proofs.Common.{◌≡◌, ℕ, zero, suc, ◌+◌, ◌<◌, ◌≤◌, ◌++◌, ◌||◌, ◌⊎◌, Bool, true, false, cond, List, [], ◌∷◌, ap, ap₂, arith, drop, eqb, get_or, length, map, refl, sym, take, ◌∙◌, inl, inr}
use Rattle.std.specs.Prelude.{slice_index_or}
use Rattle.std.specs.List.{range_with_len}
use Rattle.std.proofs.lemmas.Bool.{eq-eqb, eqb-true, false_from_ne_true, false≢true, or_cases, or_left, or_right}
use Rattle.std.proofs.lemmas.List.{append_assoc, map-append, take_more}
use Rattle.bdd_core.specs.Diagram.{Valuation}
use Rattle.bdd_ops.specs.Ops.{bits_of}
use Rattle.domino_order.specs.Runs.{AreOnce}
use Rattle.domino_order.specs.StepBits.{arrived}
use Rattle.step_roots.specs.Bits.{compares}
use Rattle.vrt_model.proofs.Lists.{take_one}
use Rattle.vrt_model.specs.Lists.{At, has_number}
use Rattle.vrt_model.specs.Variables.{is_less}

-- ---- variables that are compared with bits

-- one variable more
less_bit : (b bit rest : Bool) (bs bits : List Bool) → rest ≡ is_less bs bits → cond b (cond bit rest false) (cond bit true rest) ≡ is_less (b ∷ bs) (bit ∷ bits)
less_bit true true rest bs bits e = e
less_bit true false rest bs bits e = refl
less_bit false true rest bs bits e = refl
less_bit false false rest bs bits e = e

pub compares_less : (xs : List ℕ) (bits : List Bool) (v : Valuation) → length bits ≡ length xs → compares true xs bits v ≡ is_less (map v xs) bits
compares_less [] bits v len = refl
compares_less (x ∷ xs) [] v len = absurd (omega (arith, len))
compares_less (x ∷ xs) (bit ∷ bits) v len = less_bit (v x) bit (compares true xs bits v) (map v xs) bits (compares_less xs bits v (omega (arith, len)))

same_bit : (b bit rest : Bool) → cond b (cond bit rest false) (cond bit false rest) ≡ true → (b ≡ bit) × (rest ≡ true)
same_bit true true rest e = (refl, e)
same_bit true false rest e = absurd (false≢true e)
same_bit false true rest e = absurd (false≢true e)
same_bit false false rest e = (refl, e)

bit_same : (bit rest : Bool) → rest ≡ true → cond bit (cond bit rest false) (cond bit false rest) ≡ true
bit_same true rest e = e
bit_same false rest e = e

pub compares_same : (xs : List ℕ) (bits : List Bool) (v : Valuation) → length bits ≡ length xs → compares false xs bits v ≡ true → map v xs ≡ bits
compares_same [] [] v len e = refl
compares_same [] (bit ∷ bits) v len e = absurd (omega (arith, len))
compares_same (x ∷ xs) [] v len e = absurd (omega (arith, len))
compares_same (x ∷ xs) (bit ∷ bits) v len e =
    let parts = same_bit (v x) bit (compares false xs bits v) e in
    ap₂ (λ (b : Bool) (bs : List Bool). b ∷ bs) parts.0 (compares_same xs bits v (omega (arith, len)) parts.1)

pub same_compares : (xs : List ℕ) (v : Valuation) → compares false xs (map v xs) v ≡ true
same_compares [] v = refl
same_compares (x ∷ xs) v = bit_same (v x) (compares false xs (map v xs) v) (same_compares xs v)

-- the variables from one on have the bits of a list
pub bits_from : (v : Valuation) (first : ℕ) (bits : List Bool) → ((i : ℕ) → i < length bits → v (first + i) ≡ slice_index_or bits i false) → map v (range_with_len first (length bits)) ≡ bits
bits_from v first [] has = refl
bits_from v first (bit ∷ bits) has =
    let here : v first ≡ bit = (let same : first ≡ first + 0 = omega arith in ap v same ∙ has 0 (omega arith)) in
    ap₂ (λ (b : Bool) (bs : List Bool). b ∷ bs) here
    (bits_from v (first + 1) bits (λ i lt. (let same : (first + 1) + i ≡ first + suc i = omega arith in ap v same ∙ has (suc i) (omega (arith, lt)))))

pub from_bits : (v : Valuation) (first : ℕ) (bits : List Bool) → map v (range_with_len first (length bits)) ≡ bits → (i : ℕ) → i < length bits → v (first + i) ≡ slice_index_or bits i false
from_bits v first [] e i lt = absurd (omega (arith, lt))
from_bits v first (bit ∷ bits) e zero lt = (let same : first + 0 ≡ first = omega arith in ap v same ∙ ap (λ (bs : List Bool). slice_index_or bs 0 false) e)
from_bits v first (bit ∷ bits) e (suc i) lt =
    let same : first + suc i ≡ (first + 1) + i = omega arith in ap v same ∙ from_bits v (first + 1) bits (ap (λ (bs : List Bool). drop 1 bs) e) i (omega (arith, lt))

-- ---- a list before another one, part by part

pub less_parts : (ws xs bound : List Bool) → length bound ≡ length ws + length xs → is_less (ws ++ xs) bound ≡ true
    → (is_less ws (take (length ws) bound) ≡ true) ⊎ ((ws ≡ take (length ws) bound) × (is_less xs (drop (length ws) bound) ≡ true))
less_parts [] xs bound len e = inr (refl, e)
less_parts (w ∷ ws) xs [] len e = absurd (omega (arith, len))
less_parts (true ∷ ws) xs (true ∷ bound) len e = elim (less_parts ws xs bound (omega (arith, len)) e) [ inl less ↦ inl less | inr same ↦ inr (ap (λ (bs : List Bool). true ∷ bs) same.0, same.1) ]
less_parts (false ∷ ws) xs (false ∷ bound) len e = elim (less_parts ws xs bound (omega (arith, len)) e) [ inl less ↦ inl less | inr same ↦ inr (ap (λ (bs : List Bool). false ∷ bs) same.0, same.1) ]
less_parts (false ∷ ws) xs (true ∷ bound) len e = inl refl
less_parts (true ∷ ws) xs (false ∷ bound) len e = absurd (false≢true e)

pub less_front : (ws xs bound : List Bool) → is_less ws (take (length ws) bound) ≡ true → is_less (ws ++ xs) bound ≡ true
less_front [] xs bound e = absurd (false≢true e)
less_front (w ∷ ws) xs [] e = absurd (false≢true e)
less_front (true ∷ ws) xs (true ∷ bound) e = less_front ws xs bound e
less_front (false ∷ ws) xs (false ∷ bound) e = less_front ws xs bound e
less_front (false ∷ ws) xs (true ∷ bound) e = refl
less_front (true ∷ ws) xs (false ∷ bound) e = absurd (false≢true e)

pub less_back : (n : ℕ) (xs bound : List Bool) → n ≤ length bound → is_less xs (drop n bound) ≡ true → is_less (take n bound ++ xs) bound ≡ true
less_back zero xs bound le e = e
less_back (suc n) xs [] le e = absurd (omega (arith, le))
less_back (suc n) xs (true ∷ bound) le e = less_back n xs bound (omega (arith, le)) e
less_back (suc n) xs (false ∷ bound) le e = less_back n xs bound (omega (arith, le)) e

-- ---- maps over lists of numbers

pub map_twice : {A : Type 0} (f : ℕ → A) (g : ℕ → ℕ) (xs : List ℕ) → map f (map g xs) ≡ map (λ x. f (g x)) xs
map_twice f g [] = refl
map_twice f g (x ∷ xs) = ap (λ ys. f (g x) ∷ ys) (map_twice f g xs)

pub map_listed : (f g : ℕ → Bool) (xs : List ℕ) → ((x : ℕ) → has_number xs x ≡ true → f x ≡ g x) → map f xs ≡ map g xs
map_listed f g [] same = refl
map_listed f g (x ∷ xs) same =
    ap₂ (λ (b : Bool) (bs : List Bool). b ∷ bs) (same x (or_left (eqb x x) (has_number xs x) (eq-eqb x x refl)))
    (map_listed f g xs (λ y e. same y (or_right (eqb x y) (has_number xs y) e)))

pub has_map : (f : ℕ → ℕ) (xs : List ℕ) (x : ℕ) → has_number xs x ≡ true → has_number (map f xs) (f x) ≡ true
has_map f [] x e = absurd (false≢true e)
has_map f (y ∷ xs) x e =
    elim (or_cases (eqb y x) (has_number xs x) e) [
      | inl same ↦ or_left (eqb (f y) (f x)) (has_number (map f xs) (f x)) (eq-eqb (f y) (f x) (ap f (eqb-true y x same)))
      | inr rest ↦ or_right (eqb (f y) (f x)) (has_number (map f xs) (f x)) (has_map f xs x rest)
    ]

-- ---- what has arrived

pub arrived_listed : (nets : List ℕ) (arrivals : List Bool) (m : ℕ) → arrived nets arrivals m ≡ true → has_number nets m ≡ true
arrived_listed [] arrivals m e = absurd (false≢true e)
arrived_listed (net ∷ nets) [] m e = absurd (false≢true e)
arrived_listed (net ∷ nets) (bit ∷ arrivals) m e = by_test (eqb net m) (has_number nets m) bit (arrived nets arrivals m) e (arrived_listed nets arrivals m)
  where
    by_test : (test listed here rest : Bool) → cond test here rest ≡ true → (rest ≡ true → listed ≡ true) → test || listed ≡ true
    by_test true listed here rest e f = refl
    by_test false listed here rest e f = f e

pub arrived_map : (f : ℕ → Bool) (nets : List ℕ) (m : ℕ) → has_number nets m ≡ true → arrived nets (map f nets) m ≡ f m
arrived_map f [] m e = absurd (false≢true e)
arrived_map f (net ∷ nets) m e = by_test (eqb net m) refl (arrived_map f nets m)
  where
    by_test : (t : Bool) → eqb net m ≡ t → (has_number nets m ≡ true → arrived nets (map f nets) m ≡ f m) → arrived (net ∷ nets) (map f (net ∷ nets)) m ≡ f m
    by_test true is below = ap (λ (t : Bool). cond t (f net) (arrived nets (map f nets) m)) is ∙ ap f (eqb-true net m is)
    by_test false is below =
        ap (λ (t : Bool). cond t (f net) (arrived nets (map f nets) m)) is
        ∙ below (elim (or_cases (eqb net m) (has_number nets m) e) [ inl same ↦ absurd (false≢true (sym is ∙ same)) | inr rest ↦ rest ])

-- nets that are not the first have what they have without it
arrived_others : (net : ℕ) (nets : List ℕ) (bit : Bool) (arrivals : List Bool) (ms : List ℕ) → has_number ms net ≡ false → map (arrived (net ∷ nets) (bit ∷ arrivals)) ms ≡ map (arrived nets arrivals) ms
arrived_others net nets bit arrivals [] none = refl
arrived_others net nets bit arrivals (m ∷ ms) none =
    let other : eqb net m ≡ false = false_from_ne_true (eqb net m) (λ e. false≢true (sym none ∙ or_left (eqb m net) (has_number ms net) (eq-eqb m net (sym (eqb-true net m e))))) in
    let rest : has_number ms net ≡ false = false_from_ne_true (has_number ms net) (λ e. false≢true (sym none ∙ or_right (eqb m net) (has_number ms net) e)) in
    ap₂ (λ (b : Bool) (bs : List Bool). b ∷ bs) (ap (λ (t : Bool). cond t bit (arrived nets arrivals m)) other) (arrived_others net nets bit arrivals ms rest)

pub arrived_once : (nets : List ℕ) (arrivals : List Bool) → AreOnce nets → length arrivals ≡ length nets → map (arrived nets arrivals) nets ≡ arrivals
arrived_once [] [] once len = refl
arrived_once [] (bit ∷ arrivals) once len = absurd (omega (arith, len))
arrived_once (net ∷ nets) [] once len = absurd (omega (arith, len))
arrived_once (net ∷ nets) (bit ∷ arrivals) once len =
    ap₂ (λ (b : Bool) (bs : List Bool). b ∷ bs) (ap (λ (t : Bool). cond t bit (arrived nets arrivals net)) (eq-eqb net net refl))
    (arrived_others net nets bit arrivals nets once.0 ∙ arrived_once nets arrivals once.1 (omega (arith, len)))

-- one bit more behind a list
pub bits_more : (begin : List Bool) (xs : List ℕ) (i x : ℕ) (front bits : List Bool) → At xs i x → bits ≡ front ++ map (bits_of begin) (take i xs) → bits ++ bits_of begin x ∷ [] ≡ front ++ map (bits_of begin) (take (i + 1) xs)
bits_more begin xs i x front bits there sofar =
    ap (λ (bs : List Bool). bs ++ bits_of begin x ∷ []) sofar ∙ append_assoc front (map (bits_of begin) (take i xs)) (bits_of begin x ∷ [])
    ∙ ap (λ (bs : List Bool). front ++ bs) (sym (map-append (bits_of begin) (take i xs) (x ∷ [])) ∙ sym (ap (map (bits_of begin)) (take_one xs i x there)))

-- one bit more of a list
pub bits_next : (items : List Bool) (i : ℕ) (d : Bool) (bits new : List Bool) → i < length items → bits ≡ take i items → new ≡ bits ++ get_or items i d ∷ [] → new ≡ take (i + 1) items
bits_next items i d bits new lt sofar more = more ∙ ap (λ (bs : List Bool). bs ++ get_or items i d ∷ []) sofar ∙ sym (take_more items i d lt)
