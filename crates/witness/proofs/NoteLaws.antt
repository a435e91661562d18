-- Bits that are noted net by net.
use Rattle.std.proofs.Common.{◌≡◌, ℕ, ◌<◌, ◌≤◌, ◌⊎◌, ◌||◌, ◌+◌, Bool, true, false, List, Option, Some, length, arith, refl, sym, subst, ◌∙◌, inl, inr, below_more}
use Rattle.std.specs.Prelude.{is_some}
use Rattle.std.proofs.lemmas.Bool.{false≢true, or_cases, or_parts}
use Rattle.known_nets.proofs.TableLaws.{some_grown}
use Rattle.known_nets.specs.KnownTables.{known_at}
use Rattle.known_nets.specs.Learned.{unknown}
use Rattle.witness.specs.Replays.{bits_shown}
use Rattle.witness.specs.Settling.{HasNoted}
use Rattle.witness.specs.declared.seen.Seen.{Seen}

pub noted_none : (seen : List Seen) (bits : List (Option Bool)) → HasNoted false 0 seen bits bits
noted_none seen bits = record {
  size = refl;
  grown = λ n v e. e;
  found = λ n lt some. absurd (omega (arith, lt));
  only = λ n v e. inl e;
  same = λ e. refl;
  falls = omega arith;
  less = λ e. absurd (false≢true e);
}

-- one net more
pub noted_more : (some more : Bool) (i : ℕ) (seen : List Seen) (old mid new : List (Option Bool)) → HasNoted some i seen old mid → length new ≡ length mid
    → ((n : ℕ) (v : Bool) → known_at mid n ≡ Some v → known_at new n ≡ Some v) → (is_some (bits_shown seen i) ≡ true → is_some (known_at new i) ≡ true)
    → ((n : ℕ) (v : Bool) → known_at new n ≡ Some v → (known_at mid n ≡ Some v) ⊎ ((n ≡ i) × (bits_shown seen i ≡ Some v)))
    → (more ≡ false → new ≡ mid) → unknown new ≤ unknown mid → (more ≡ true → unknown new < unknown mid) → HasNoted (some || more) (i + 1) seen old new
noted_more some more i seen old mid new before size grown noted only same falls less = record {
  size = size ∙ before.size;
  grown = λ n v e. grown n v (before.grown n v e);
  found = below_more (λ n. is_some (bits_shown seen n) ≡ true → is_some (known_at new n) ≡ true) i
      (λ n lt shown. some_grown (known_at mid n) (known_at new n) (grown n) (before.found n lt shown)) noted;
  only = λ n v e. elim (only n v e) [
    | inl m ↦ before.only n v m
    | inr here ↦ inr (subst (λ (k : ℕ). bits_shown seen k ≡ Some v) (sym here.0) here.1)
  ];
  same = λ e. let h = or_parts some more e in same h.1 ∙ before.same h.0;
  falls = (let low = before.falls in omega (arith, low, falls));
  less = λ e. elim (or_cases some more e) [
    | inl h ↦ (let low = before.less h in omega (arith, low, falls))
    | inr h ↦ (let low = less h in let high = before.falls in omega (arith, low, high))
  ];
}
