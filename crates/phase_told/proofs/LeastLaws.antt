-- The least valuation of a function, and the words in which it stands.
use Rattle.std.proofs.Common.{◌≡◌, ℕ, zero, suc, ◌<◌, ◌≤◌, ◌∷◌, [], Bool, true, false, cond, List, length, arith, ap, refl, sym, ◌∙◌, inl, inr}
use Rattle.std.specs.Prelude.{ltb}
use Rattle.std.proofs.lemmas.Bool.{cases_lt, false_from_ne_true, false≢true, le-ltb, lt-ltb}
use Rattle.std.proofs.lemmas.List.{get_or_past}
use Rattle.std.proofs.lemmas.List.FromFn.{get_or-map-range_with_len, length-map-range_with_len}
use Rattle.node_pool.specs.declared.region.Span.{Span}
use Rattle.bdd_core.specs.Diagram.{Function, IsWithin, Valuation}
use Rattle.bdd_core.specs.Store.{Diagrams}
use Rattle.bdd_ops.specs.Ops.{IsLeast, bits_in, bits_of}
use Rattle.fault_places.specs.Searches.{IsLeastOf}
use Rattle.phase_told.specs.Valuations.{StandsIn, valuation_in}
use Rattle.vrt_model.specs.Comparison.{Comparison}
use Rattle.vrt_model.specs.Held.{sources_of}
use Rattle.vrt_model.specs.Variables.{is_less}

-- ---- the first place at which a lesser list differs

abbrev IsLessAt : List Bool → List Bool → ℕ → Type 0
IsLessAt xs ys k = (k < length xs) × ((y : ℕ) → y < k → bits_of xs y ≡ bits_of ys y) × (bits_of xs k ≡ false) × (bits_of ys k ≡ true)

less_behind : (b : Bool) (xs ys : List Bool) → ((k : ℕ) × IsLessAt xs ys k) → (k : ℕ) × IsLessAt (b ∷ xs) (b ∷ ys) k
less_behind b xs ys h = (suc h.0, ((let lt = h.1.0 in omega (arith, lt)), before, h.1.2, h.1.3))
  where
    before : (y : ℕ) → y < suc h.0 → bits_of (b ∷ xs) y ≡ bits_of (b ∷ ys) y
    before zero lt = refl
    before (suc y) lt = h.1.1 y (omega (arith, lt))

less_place : (xs ys : List Bool) → is_less xs ys ≡ true → (k : ℕ) × IsLessAt xs ys k
less_place [] ys e = absurd (false≢true e)
less_place (true ∷ xs) [] e = absurd (false≢true e)
less_place (false ∷ xs) [] e = absurd (false≢true e)
less_place (true ∷ xs) (true ∷ ys) e = less_behind true xs ys (less_place xs ys e)
less_place (false ∷ xs) (false ∷ ys) e = less_behind false xs ys (less_place xs ys e)
less_place (false ∷ xs) (true ∷ ys) e = (0, (omega arith, λ y lt. absurd (omega (arith, lt)), refl, refl))
less_place (true ∷ xs) (false ∷ ys) e = absurd (false≢true e)

-- ---- a function that reads only its first variables

-- its least valuation has 0 behind them
zeros_behind : (u vars : ℕ) (f : Function) (b : Valuation) → IsWithin u f → IsLeast vars f b → (x : ℕ) → u ≤ x → x < vars → b x ≡ false
zeros_behind u vars f b within least x high lt = false_from_ne_true (b x) (λ one. false≢true (sym (least.least cut x lt before at one) ∙ same))
  where
    cut : Valuation
    cut y = cond (ltb y x) (b y) false

    before : (y : ℕ) → y < x → cut y ≡ b y
    before y under = ap (λ (t : Bool). cond t (b y) false) (lt-ltb y x under)

    at : cut x ≡ false
    at = ap (λ (t : Bool). cond t (b x) false) (le-ltb x x (omega arith))

    same : f cut ≡ true
    same = within cut b (λ y under. before y (omega (arith, under, high))) ∙ least.holds b (λ y _. refl)

-- the bits of these are its least valuation
pub least_of : (k : Comparison) (phase vars : ℕ) (f : Function) (b : Valuation) (bits : List Bool) → IsWithin (length (sources_of k phase)) f
    → length (sources_of k phase) ≤ vars → IsLeast vars f b → length bits ≡ length (sources_of k phase)
    → ((x : ℕ) → x < length (sources_of k phase) → bits_of bits x ≡ b x) → IsLeastOf k phase (λ (bs : List Bool). f (bits_of bs)) bits
least_of k phase vars f b bits within few least len same = record {
  width = len;
  holds = within (bits_of bits) b same ∙ least.holds b (λ y _. refl);
  least = λ more size one. false_from_ne_true (is_less more bits) (λ less. no_lesser more size one (less_place more bits less));
}
  where
    no_lesser : (more : List Bool) → length more ≡ length (sources_of k phase) → f (bits_of more) ≡ true → ((x : ℕ) × IsLessAt more bits x) → ⊥
    no_lesser more size one p =
        let lt : p.0 < length (sources_of k phase) = (let under = p.1.0 in omega (arith, under, size)) in
        let before : (y : ℕ) → y < p.0 → bits_of more y ≡ b y = λ y under. p.1.1 y under ∙ same y (omega (arith, under, lt)) in
        false≢true (sym (least.least (bits_of more) p.0 (omega (arith, lt, few)) before p.1.2 (sym (same p.0 lt) ∙ p.1.3)) ∙ one)

-- ---- the valuation that stands in words

-- its bits
pub bit_read : (d : Diagrams) (words : Span) (count x : ℕ) → x < count → bits_of (valuation_in d words count) x ≡ bits_in d.words words.start x
bit_read d words count x lt = get_or-map-range_with_len (bits_in d.words words.start) 0 count x x false lt (omega arith)

-- the bits of the first variables stand there where the least valuation of a function of these does
pub first_stands : (u : ℕ) (f : Function) (d : Diagrams) (words : Span) → IsWithin u f → IsLeast d.vars f (bits_in d.words words.start)
    → StandsIn d words (bits_of (valuation_in d words u))
first_stands u f d words within least x lt = elim (cases_lt x u) [
  | inl low ↦ bit_read d words u x low
  | inr high ↦ past high ∙ sym (zeros_behind u d.vars f (bits_in d.words words.start) within least x high lt)
]
  where
    past : u ≤ x → bits_of (valuation_in d words u) x ≡ false
    past high =
        let len : length (valuation_in d words u) ≡ u = length-map-range_with_len (bits_in d.words words.start) 0 u in
        get_or_past (valuation_in d words u) x false (omega (arith, high, len))
