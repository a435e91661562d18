-- A walk down a diagram at one valuation.
use Rattle.std.proofs.Common.{◌≡◌, ℕ, ◌<◌, ◌≤◌, true, false, cond, eqb, ◌+◌, ◌≢◌, List, length, refl, sym, ap, ◌∙◌, arith, inl, inr}
use Rattle.std.proofs.lemmas.Bool.{cases_eq, cases_lt}
use Rattle.node_pool.specs.declared.region.Node.{Node}
use Rattle.bdd_core.specs.Diagram.{Valuation, IsReduced, meaning, node_at, top}
use Rattle.bdd_ops.specs.Ops.{IsTurn}
use Rattle.bdd_core.proofs.Meaning.{meaning_zero, meaning_one, meaning_node}

module _ (vars : ℕ) (ns : List Node) (r : IsReduced vars ns) (p : ℕ) (high : 2 ≤ p) (within : p < length ns) (n : Node) (v : Valuation) (is : n ≡ node_at ns p) where
  node_value : meaning ns p v ≡ cond (v n.var) (meaning ns n.hi v) (meaning ns n.lo v)
  node_value = let q = r.proper p high within in rw is (meaning_node ns v p high q.lo_below q.hi_below)

  pub step_hi : v n.var ≡ true → meaning ns n.hi v ≡ meaning ns p v
  step_hi bit = sym (node_value ∙ rw bit refl)

  pub step_lo : v n.var ≡ false → meaning ns n.lo v ≡ meaning ns p v
  step_lo bit = sym (node_value ∙ rw bit refl)

pub end_value : (ns : List Node) (p : ℕ) (v : Valuation) → p < 2 → meaning ns p v ≡ eqb p 1
end_value ns p v low = elim (cases_eq p 0) [
  | inl zero ↦ rw zero (meaning_zero ns v)
  | inr other ↦ let one : p ≡ 1 = omega (arith, low, other) in rw one (meaning_one ns v)
]

module _ (vars : ℕ) (ns : List Node) (r : IsReduced vars ns) (p : ℕ) (within : p < length ns) where
  -- at the end 1, or at a node of a later variable, the bit 0 leaves all as it is
  pub turn_stays : (x : ℕ) → p ≢ 0 → x + 1 ≤ top ns p → IsTurn ns p x p 0
  turn_stays x some later = record { live = within; some = some; later = later; bit_is = omega arith; same = λ v _. refl; none = λ e. absurd (omega (arith, e)) }

  module _ (high : 2 ≤ p) (n : Node) (is : n ≡ node_at ns p) where
    pub turn_hi : n.lo ≡ 0 → IsTurn ns p n.var n.hi 1
    turn_hi empty =
        let q = r.proper p high within in
        let below : n.hi < p = omega (arith, ap (λ m. m.hi) is, q.hi_below) in
        record {
          live = omega (arith, below);
          some = λ none. q.differ (sym (ap (λ m. m.lo) is) ∙ empty ∙ sym none ∙ ap (λ m. m.hi) is);
          later = omega (arith, q.hi_later, ap (λ m. m.var) is, ap (λ m. top ns m.hi) is);
          bit_is = omega arith;
          same = λ v bit. step_hi vars ns r p high within n v is bit;
          none = λ _ w bit. sym (step_lo vars ns r p high within n w is bit) ∙ rw empty (meaning_zero ns w);
        }

    pub turn_lo : n.lo ≢ 0 → IsTurn ns p n.var n.lo 0
    turn_lo some =
        let q = r.proper p high within in
        let below : n.lo < p = omega (arith, ap (λ m. m.lo) is, q.lo_below) in
        record {
          live = omega (arith, below);
          some = some;
          later = omega (arith, q.lo_later, ap (λ m. m.var) is, ap (λ m. top ns m.lo) is);
          bit_is = omega arith;
          same = λ v bit. step_lo vars ns r p high within n v is bit;
          none = λ e. absurd (omega (arith, e));
        }

-- a place that tests no variable is an end
pub late_is_end : (vars : ℕ) (ns : List Node) → IsReduced vars ns → (p : ℕ) → p < length ns → vars ≤ top ns p → p < 2
late_is_end vars ns r p within late = elim (cases_lt p 2) [
  | inl low ↦ low
  | inr high ↦ absurd (omega (arith, late, Rattle.bdd_core.proofs.Canonical.top_is vars ns r p, (r.proper p high within).var_below))
]
