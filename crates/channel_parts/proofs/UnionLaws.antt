-- Parents that become shorter, and sets that are joined.
use Rattle.std.proofs.Common.{◌≡◌, ℕ, ◌<◌, ◌≤◌, ◌⊎◌, ◌+◌, Bool, List, length, slice_index, arith, ap, subst, sym, ◌∙◌, inl, inr}
use Rattle.std.proofs.lemmas.Bool.{cases_lt}
use Rattle.channel_parts.proofs.Labels.{together_further}
use Rattle.channel_parts.proofs.RankLaws.{together_back}
use Rattle.channel_parts.specs.Labels.{AreBelow, AreOfParts}
use Rattle.channel_parts.specs.Unions.{IsWritten, Respects}
use Rattle.vrt_model.proofs.Ranked.{together_first, together_plain}
use Rattle.vrt_model.specs.Known.{IsPlain, IsTogether}
use Rattle.vrt_model.specs.declared.circuit.Circuit.{Circuit}
use Rattle.vrt_model.specs.declared.rules.Phase.{Phase}

-- two numbers are the same or not
pub same_or_not : (n m : ℕ) → (n ≡ m) ⊎ (n ≡ m → ⊥)
same_or_not n m =
    elim (cases_lt n m) [
      | inl lt ↦ inr (λ e. omega arith)
      | inr ge ↦ elim (cases_lt m n) [ inl lt ↦ inr (λ e. omega arith) | inr le ↦ inl (omega arith) ]
    ]

-- ---- one entry

pub written_below : (t u : List ℕ) (at v : ℕ) → IsWritten at v t u → v ≤ at → AreBelow t → AreBelow u
written_below t u at v w le below n =
    elim (same_or_not n at) [
      | inl e ↦ (let there = w.there in let same = ap (slice_index u) e in omega (arith, e, le, there, same))
      | inr ne ↦ (let o = w.others n ne in let b = below n in omega (arith, o, b))
    ]

pub written_sound : (t u : List ℕ) (at v : ℕ) → IsWritten at v t u → (c : Circuit) (phase : Phase) (bare : Bool) → (IsPlain c at → IsTogether c phase bare at v)
    → AreOfParts c phase bare t → AreOfParts c phase bare u
written_sound t u at v w c phase bare joined of n p =
    elim (same_or_not n at) [
      | inl e ↦ subst (λ (x : ℕ). IsTogether c phase bare x (slice_index u x)) (sym e)
          (subst (IsTogether c phase bare at) (sym w.there) (joined (subst (IsPlain c) e p)))
      | inr ne ↦ subst (IsTogether c phase bare n) (sym (w.others n ne)) (of n p)
    ]

-- ---- a parent that becomes its parent's parent

abbrev pub above : List ℕ → ℕ → ℕ
above t n = slice_index t (slice_index t n)

pub shorter_below : (t u : List ℕ) (at : ℕ) → IsWritten at (above t at) t u → AreBelow t → AreBelow u
shorter_below t u at w below =
    let one = below at in
    let two = below (slice_index t at) in
    written_below t u at (above t at) w (omega (arith, one, two)) below

pub shorter_stay : (t u : List ℕ) (at n : ℕ) → IsWritten at (above t at) t u → slice_index t n ≡ n → slice_index u n ≡ n
shorter_stay t u at n w own =
    elim (same_or_not n at) [
      | inl e ↦ (
          let there = w.there in
          let here : slice_index t at ≡ at = subst (λ (x : ℕ). slice_index t x ≡ x) e own in
          ap (slice_index u) e ∙ there ∙ ap (slice_index t) here ∙ here ∙ sym e)
      | inr ne ↦ w.others n ne ∙ own
    ]

-- what is the same at each new parent is so at the old ones
pub shorter_same : (t u : List ℕ) (at : ℕ) → IsWritten at (above t at) t u → AreBelow t → at < length t → (f : ℕ → ℕ) → Respects u f → Respects t f
shorter_same t u at w below inside f respects n lt =
    elim (same_or_not n at) [
      | inl e ↦ subst (λ (x : ℕ). f (slice_index t x) ≡ f x) (sym e) here
      | inr ne ↦ ap f (sym (w.others n ne)) ∙ respects n (subst (λ (x : ℕ). n < x) (sym w.size) lt)
    ]
  where
    parent : ℕ
    parent = slice_index t at

    here : f (slice_index t at) ≡ f at
    here =
        elim (same_or_not (slice_index t at) at) [
          | inl e ↦ ap f e
          | inr ne ↦ (
              let size = w.size in
              let le = below at in
              let forth : f (slice_index u (slice_index t at)) ≡ f (slice_index t at) = respects (slice_index t at) (omega (arith, size, le, inside)) in
              let back : f (slice_index u at) ≡ f at = respects at (omega (arith, size, inside)) in
              sym forth ∙ ap f (w.others (slice_index t at) ne) ∙ sym (ap f w.there) ∙ back)
        ]

pub shorter_sound : (t u : List ℕ) (at : ℕ) → IsWritten at (above t at) t u → (c : Circuit) (phase : Phase) (bare : Bool) → AreOfParts c phase bare t → AreOfParts c phase bare u
shorter_sound t u at w c phase bare of =
    written_sound t u at (above t at) w c phase bare
    (λ p.
    let first = of at p in
    together_further c phase bare at (slice_index t at) (above t at) first (of (slice_index t at) (together_plain c phase bare at (slice_index t at) first)))
    of

-- the way up from a number that is not its own parent is shorter afterwards
pub shorter_smaller : (t u : List ℕ) (at : ℕ) → IsWritten at (above t at) t u → AreBelow t → (slice_index t at ≡ at → ⊥) → slice_index u at < at
shorter_smaller t u at w below ne =
    let there = w.there in
    let one = below at in
    let two = below (slice_index t at) in
    omega (arith, there, one, two, ne)

-- where the parents before a number are their own parents, so is its own afterwards
pub shorter_own : (t u : List ℕ) (at : ℕ) → IsWritten at (above t at) t u → AreBelow t → ((n : ℕ) → n < at → above t n ≡ slice_index t n)
    → (n : ℕ) → n < at + 1 → above u n ≡ slice_index u n
shorter_own t u at w below own n lt =
    elim (same_or_not n at) [
      | inl e ↦ subst (λ (x : ℕ). above u x ≡ slice_index u x) (sym e) here
      | inr ne ↦ (
          let less : n < at = omega (arith, lt, ne) in
          let le = below n in
          let same = w.others n ne in
          ap (slice_index u) same ∙ w.others (slice_index t n) (λ e. omega (arith, e, le, less)) ∙ own n less ∙ sym same)
    ]
  where
    here : above u at ≡ slice_index u at
    here =
        let le = below at in
        elim (same_or_not (slice_index t at) at) [
          | inl e ↦ (
              let mine : slice_index u at ≡ at = w.there ∙ ap (slice_index t) e ∙ e in
              ap (slice_index u) mine)
          | inr ne ↦ (
              let less : slice_index t at < at = omega (arith, le, ne) in
              let low = below (slice_index t at) in
              ap (slice_index u) w.there ∙ w.others (above t at) (λ e. omega (arith, e, low, less)) ∙ own (slice_index t at) less ∙ sym w.there)
        ]

-- ---- two sets that are joined

-- the least numbers of two sets are of one part, where a number of each is of one part with one of the other
pub least_together : (c : Circuit) (phase : Phase) (bare : Bool) (left right one other : ℕ) → IsTogether c phase bare left right → (IsPlain c left → IsTogether c phase bare left one)
    → (IsPlain c right → IsTogether c phase bare right other) → IsTogether c phase bare one other
least_together c phase bare left right one other t first second =
    together_further c phase bare one left other (together_back c phase bare left one (first (together_first c phase bare left right t)))
    (together_further c phase bare left right other t (second (together_plain c phase bare left right t)))

-- a way up that is one step longer
pub up_sound : (t u : List ℕ) (number at : ℕ) → IsWritten at (above t at) t u → (c : Circuit) (phase : Phase) (bare : Bool) → AreOfParts c phase bare t × (IsPlain c number → IsTogether c phase bare number at)
    → AreOfParts c phase bare u × (IsPlain c number → IsTogether c phase bare number (slice_index u at))
up_sound t u number at w c phase bare so =
    let of = shorter_sound t u at w c phase bare so.0 in (
      of,
      λ p. let t = so.1 p in together_further c phase bare number at (slice_index u at) t (of at (together_plain c phase bare number at t)),
    )
