-- The function of an expression from those of its parts.
use Rattle.std.proofs.Common.{◌≡◌, ℕ, ◌+◌, ◌*◌, ◌≤◌, not, cond, Bool, true, false, List, Result, Ok, Err, arith, ap, ap₂, refl, sym, ◌∙◌, inl, inr}
use mathlib.Core.Path.{fun_ext}
use Rattle.bdd_core.specs.Diagram.{Function, IsSame, IsWithin, Valuation, meaning}
use Rattle.bdd_core.specs.Store.{Diagrams, function_of, Gives}
use Rattle.bdd_core.specs.declared.handle.H.{H}
use Rattle.bdd_core.specs.declared.handle.Spent.{Spent}
use Rattle.bdd_ops.proofs.CountingLaws.{counted_then, counts_more, counts_then}
use Rattle.bdd_ops.proofs.WithinLaws.{within_same}
use Rattle.bdd_ops.specs.Counting.{Counts}
use Rattle.bdd_ops.specs.Ops.{MakesBoth}
use Rattle.bdd_core.proofs.Frames.{gives_next, gives_refused, gives_error}
use Rattle.vrt_model.specs.Expressions.{operators_in, value_of}
use Rattle.vrt_model.specs.Lists.{differ}
use Rattle.vrt_model.specs.declared.rules.Expr.{Expr}
use Rattle.constraints.specs.Evaluated.{AreLive, AreWithin, Evaluates, value_in}

-- ---- handles after an operation

module _ (a b : Diagrams) (f : Function) (r : Result H Spent) (g : Gives a b f r) (handle : List ℕ → ℕ) (live : AreLive a handle) where
  kept : (name : List ℕ) → IsSame (meaning b.nodes (handle name)) (meaning a.nodes (handle name))
  kept name = g.adds.kept (handle name) (live name)

  pub value_after : (e : Expr) → IsSame (value_in b handle e) (value_in a handle e)
  value_after e v = ap (λ (bits : List ℕ → Bool). value_of bits e) (fun_ext (λ name. kept name v))

  pub within_after : (u : ℕ) → AreWithin u a handle → AreWithin u b handle
  within_after u reads name = within_same u (meaning a.nodes (handle name)) (meaning b.nodes (handle name)) (kept name) (reads name)

pub value_within : (u : ℕ) (d : Diagrams) (handle : List ℕ → ℕ) (e : Expr) → AreWithin u d handle → IsWithin u (value_in d handle e)
value_within u d handle e reads v w same = ap (λ (bits : List ℕ → Bool). value_of bits e) (fun_ext (λ name. reads name v w same))

-- ---- one operation on two functions

-- both diagrams of an exclusive or
pub gives_both : (old new : Diagrams) (first f : Function) (r : Result H Spent) → MakesBoth old new first f r → Gives old new f r
gives_both old new first f (Ok r) m = record { adds = m.adds; ok = m.ok; spent = tt }
gives_both old new first f (Err s) m = record {
  adds = m.adds;
  ok = tt;
  spent = elim m.spent [ inl one ↦ (one.number, one.full) | inr other ↦ (other.number, other.full) ];
}

pub differ_is : (a b : Bool) → differ a b ≡ cond a (not b) b
differ_is true b = refl
differ_is false b = refl

-- ---- expressions

-- a part that was refused
pub evaluates_refused : (a b : Diagrams) (handle : List ℕ → ℕ) (part whole : Expr) (s : Spent) → operators_in part ≤ operators_in whole → Evaluates a b handle part (Err s)
    → Evaluates a b handle whole (Err s)
evaluates_refused a b handle part whole s le first = record {
  gives = gives_error a b (value_in a handle part) (value_in a handle whole) s first.gives;
  counts = λ u reads. counts_more u (2 * operators_in part) (2 * operators_in whole) a b (Err s) (omega (arith, le)) (first.counts u reads);
}

module _ (a b c : Diagrams) (handle : List ℕ → ℕ) (live : AreLive a handle) (left : Expr) (p : H) (first : Evaluates a b handle left (Ok p)) where
  -- a second part that was refused
  pub evaluates_second_refused : (right whole : Expr) (s : Spent) → operators_in left + operators_in right ≤ operators_in whole → Evaluates b c handle right (Err s)
      → Evaluates a c handle whole (Err s)
  evaluates_second_refused right whole s le second = record {
    gives = gives_refused a b c (value_in a handle left) (value_in b handle right) (value_in a handle whole) p s first.gives second.gives;
    counts = λ u reads.
        counts_more u (2 * operators_in left + 2 * operators_in right) (2 * operators_in whole) a c (Err s) (omega (arith, le))
        (counts_then u (2 * operators_in left) (2 * operators_in right) a b c (Err s) (first.counts u reads).added
        (second.counts u (within_after a b (value_in a handle left) (Ok p) first.gives handle live u reads)));
  }

  -- an operation on one part
  pub evaluates_one : (whole : Expr) (op : Bool → Bool) (r : Result H Spent) → operators_in left + 1 ≤ operators_in whole
      → ((v : Valuation) → value_in a handle whole v ≡ op (value_in a handle left v)) → Gives b c (λ v. op (function_of b p v)) r
      → ((u : ℕ) → IsWithin u (function_of b p) → Counts u 1 b c r) → Evaluates a c handle whole r
  evaluates_one whole op r le is last counts = record {
    gives = gives_next a b c (value_in a handle left) (λ v. op (function_of b p v)) (value_in a handle whole) p r first.gives last
        (λ v. ap op (first.gives.ok.same v) ∙ sym (is v));
    counts = λ u reads.
        counts_more u (2 * operators_in left + 1) (2 * operators_in whole) a c r (omega (arith, le))
        (counts_then u (2 * operators_in left) 1 a b c r (first.counts u reads).added
        (counts u (within_same u (value_in a handle left) (function_of b p) first.gives.ok.same (value_within u a handle left reads))));
  }

  module _ (d : Diagrams) (right : Expr) (q : H) (second : Evaluates b c handle right (Ok q)) where
    left_is : (v : Valuation) → function_of c p v ≡ value_in a handle left v
    left_is v = second.gives.adds.kept p.0 first.gives.ok.live v ∙ first.gives.ok.same v

    second_is : IsSame (value_in b handle right) (value_in a handle right)
    second_is = value_after a b (value_in a handle left) (Ok p) first.gives handle live right

    right_is : (v : Valuation) → function_of c q v ≡ value_in a handle right v
    right_is v = second.gives.ok.same v ∙ second_is v

    -- an operation on two parts
    pub evaluates_two : (whole : Expr) (op : Bool → Bool → Bool) (r : Result H Spent) → operators_in left + operators_in right + 1 ≤ operators_in whole
        → ((v : Valuation) → value_in a handle whole v ≡ op (value_in a handle left v) (value_in a handle right v))
        → Gives c d (λ v. op (function_of c p v) (function_of c q v)) r
        → ((u : ℕ) → IsWithin u (function_of c p) → IsWithin u (function_of c q) → Counts u 2 c d r) → Evaluates a d handle whole r
    evaluates_two whole op r le is last counts = record {
      gives = gives_next a c d (value_in a handle right) (λ v. op (function_of c p v) (function_of c q v)) (value_in a handle whole) q r
          (gives_next a b c (value_in a handle left) (value_in b handle right) (value_in a handle right) p (Ok q) first.gives second.gives second_is)
          last
          (λ v. ap₂ op (left_is v) (right_is v) ∙ sym (is v));
      counts = λ u reads.
          counts_more u (2 * operators_in left + 2 * operators_in right + 2) (2 * operators_in whole) a d r (omega (arith, le))
          (counts_then u (2 * operators_in left + 2 * operators_in right) 2 a c d r
          (counted_then u (2 * operators_in left) (2 * operators_in right) a b c (first.counts u reads).added
          (second.counts u (within_after a b (value_in a handle left) (Ok p) first.gives handle live u reads)).added)
          (counts u (within_same u (value_in a handle left) (function_of c p) left_is (value_within u a handle left reads))
          (within_same u (value_in a handle right) (function_of c q) right_is (value_within u a handle right reads))));
    }
