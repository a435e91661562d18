-- Answer after answer: each comes before the last, and below the last there is none.
use Rattle.std.proofs.Common.{◌≡◌, ℕ, suc, ◌+◌, ◌*◌, ◌^◌, ◌<◌, Bool, true, false, List, [], ◌∷◌, Option, Some, None, ap, arith, length, refl, subst, sym, ◌∙◌, inl, inr}
use Rattle.std.proofs.Math.Nat.{pow-succ'}
use Rattle.std.proofs.lemmas.Bool.{cases_Bool, false≢true}
use Rattle.arrival_laws.specs.Steps.{StepHolds}
use Rattle.domino_order.proofs.StepGives.{arrivals_is, bits_len, end_is}
use Rattle.domino_order.specs.Runs.{IsBound, RunGives, is_below, of_asked}
use Rattle.domino_order.specs.Searches.{FoundIs, NetGives}
use Rattle.domino_order.specs.StepBits.{FailsAt, HoldsAt, arrived, rise_to}
use Rattle.domino_order.specs.declared.prepared.Asked.{Asked}
use Rattle.domino_order.specs.declared.found.NetFound.{NetFound}
use Rattle.domino_order.specs.declared.found.NetFound.TheVariants.{Holds}
use Rattle.vrt_model.specs.Comparison.{Comparison}
use Rattle.vrt_model.specs.Held.{sources_of}
use Rattle.vrt_model.specs.Variables.{is_less}
use Rattle.vrt_model.specs.declared.groups.Valuation.{Valuation}

-- ---- the order of lists of bits, by numbers

-- bits as the digits of a number, the first the heaviest
abbrev pub number_of : List Bool → ℕ
number_of [] = 0
number_of (true ∷ bits) = 2 ^ length bits + number_of bits
number_of (false ∷ bits) = number_of bits

add_below : (power number twice : ℕ) → number < power → twice ≡ 2 * power → power + number < twice
add_below power number twice lt e = omega (arith, lt, e)

below_twice : (power number twice : ℕ) → number < power → twice ≡ 2 * power → number < twice
below_twice power number twice lt e = omega (arith, lt, e)

number_below : (bits : List Bool) → number_of bits < 2 ^ length bits
number_below [] = omega arith
number_below (true ∷ bits) =
    let rest = number_below bits in let twice : 2 ^ suc (length bits) ≡ 2 * 2 ^ length bits = pow-succ' 2 (length bits) in add_below (2 ^ length bits) (number_of bits) (2 ^ suc (length bits)) rest twice
number_below (false ∷ bits) =
    let rest = number_below bits in let twice : 2 ^ suc (length bits) ≡ 2 * 2 ^ length bits = pow-succ' 2 (length bits) in below_twice (2 ^ length bits) (number_of bits) (2 ^ suc (length bits)) rest twice

both_more : (a b x y : ℕ) → a ≡ b → x < y → a + x < b + y
both_more a b x y e lt = omega (arith, e, lt)

one_more : (a b x y : ℕ) → a ≡ b → x < a → x < b + y
one_more a b x y e lt = omega (arith, e, lt)

less_number : (xs ys : List Bool) → length xs ≡ length ys → is_less xs ys ≡ true → number_of xs < number_of ys
less_number [] ys len e = absurd (false≢true e)
less_number (x ∷ xs) [] len e = absurd (omega (arith, len))
less_number (true ∷ xs) (true ∷ ys) len e =
    let rest = less_number xs ys (omega (arith, len)) e in
    let size : length xs ≡ length ys = omega (arith, len) in
    let same : 2 ^ length xs ≡ 2 ^ length ys = ap (λ (n : ℕ). 2 ^ n) size in both_more (2 ^ length xs) (2 ^ length ys) (number_of xs) (number_of ys) same rest
less_number (false ∷ xs) (false ∷ ys) len e = less_number xs ys (omega (arith, len)) e
less_number (false ∷ xs) (true ∷ ys) len e =
    let rest = number_below xs in
    let size : length xs ≡ length ys = omega (arith, len) in
    let same : 2 ^ length xs ≡ 2 ^ length ys = ap (λ (n : ℕ). 2 ^ n) size in one_more (2 ^ length xs) (2 ^ length ys) (number_of xs) (number_of ys) same rest
less_number (true ∷ xs) (false ∷ ys) len e = absurd (false≢true e)

-- how many valuations may come before the last answer
abbrev pub rank_of : ℕ → Option Valuation → ℕ
rank_of variables None = 2 ^ variables
rank_of variables (Some last) = number_of last.bits

-- each answer comes before the last one
pub rank_falls : (k : Comparison) (phase : ℕ) (nets : List ℕ) (n : ℕ) (last : Option Valuation) (bits : List Bool) → IsBound k phase nets n last → FailsAt k phase nets n bits → is_below last bits ≡ true
    → number_of bits < rank_of (length (sources_of k phase) + length nets) last
rank_falls k phase nets n None bits bound fails e = (
    let rest = number_below bits in
    let same : 2 ^ length bits ≡ 2 ^ (length (sources_of k phase) + length nets) = ap (λ (n : ℕ). 2 ^ n) (bits_len k phase nets n bits fails.at) in omega (arith, rest, same)
    )
rank_falls k phase nets n (Some last) bits bound fails e = less_number bits last.bits (bits_len k phase nets n bits fails.at ∙ sym (bits_len k phase nets n last.bits bound.at)) e

-- ---- the last answer

module _ (k : Comparison) (phase : ℕ) (nets : List ℕ) (n : ℕ) where
  -- a step that holds does not fail
  pub holds_not_fails : (bits : List Bool) → HoldsAt k phase nets n bits → ¬ FailsAt k phase nets n bits
  holds_not_fails bits holds fails =
      fails.fails
      (subst (λ (xs : List Bool). StepHolds (rise_to k phase nets fails.at.end) (arrived nets xs) n) (sym (arrivals_is k phase nets n bits holds.at) ∙ arrivals_is k phase nets n bits fails.at)
      (subst (λ (xs : List Bool). StepHolds (rise_to k phase nets xs) (arrived nets holds.at.arrivals) n) (sym (end_is k phase nets n bits holds.at) ∙ end_is k phase nets n bits fails.at) holds.holds))

-- what is found at the end
pub net_gives : (s : Asked) (n budget : ℕ) (last : Option Valuation) (found : NetFound) → FoundIs last found → IsBound (of_asked s) s.rising.phase s.rising.nets.now n last → RunGives s n last budget Holds
    → NetGives s n budget found
net_gives s n budget None found is fails none = subst (NetGives s n budget) (sym is) (λ bits step. none bits step refl)
net_gives s n budget (Some last) found is fails none = subst (NetGives s n budget) (sym is) (record {
  fails = fails;
  least = λ more other. elim (cases_Bool (is_less more last.bits)) [
    | inl e ↦ absurd (holds_not_fails (of_asked s) s.rising.phase s.rising.nets.now n more (none more other.at e) other)
    | inr e ↦ e
  ];
})
