-- Counts of operations, one after the other.
use Rattle.std.proofs.Common.{◌≡◌, ℕ, ◌+◌, ◌-◌, ◌*◌, ◌^◌, ◌<◌, ◌≤◌, ◌++◌, ◌⊎◌, List, [], length, append_assoc, append-nil, Result, Ok, Err, arith, ap, refl, sym, ◌∙◌, inl, inr}
use Rattle.std.proofs.Math.Nat.{add-mul, mul-le-mul_right}
use Rattle.std.proofs.Math.Pow.{pow_mono}
use Rattle.std.proofs.lemmas.Bool.{cases_lt}
use Rattle.node_pool.specs.declared.region.Node.{Node}
use Rattle.bdd_core.specs.declared.handle.H.{H}
use Rattle.bdd_core.specs.declared.handle.Spent.{Spent}
use Rattle.bdd_core.specs.Diagram.{Function, IsReduced, IsSubfunction, IsWithin, TestsWithin, splice, top}
use Rattle.bdd_core.specs.Store.{Diagrams, IsSpent, Makes}
use Rattle.bdd_core.proofs.Bound.{grows_at_most, grows_within}
use Rattle.bdd_core.proofs.Growth.{splice_within}
use Rattle.bdd_core.proofs.Results.{if_err_more}
use Rattle.bdd_core.proofs.Steps.{top-append}
use Rattle.bdd_ops.specs.Counting.{Counts, IsCounted, IsSpentBy}
use Rattle.bdd_ops.specs.Ops.{MakesBoth}
use Rattle.bdd_ops.proofs.FewFunctions.{fewer_than_functions}

power_positive : (u : ℕ) → 0 < 2 ^ u
power_positive u = omega (arith, pow_mono {i = 0} {j = u} (omega arith))

-- a node that is there tests what it tested
top_kept : (u operations : ℕ) (old new : Diagrams) → IsCounted u operations old new → (i : ℕ) → i < length old.nodes → top new.nodes i ≡ top old.nodes i
top_kept u operations old new s i within = ap (λ (ns : List Node). top ns i) s.is ∙ top-append old.nodes s.more i within

-- where all nodes tested the first four variables, they do so still
pub tests_kept : (u operations : ℕ) (old new : Diagrams) → u ≤ 4 → IsCounted u operations old new → TestsWithin 4 old.nodes → TestsWithin 4 new.nodes
tests_kept u operations old new few s tests i high within = elim (cases_lt i (length old.nodes)) [
  | inl low ↦ omega (arith, tests i high low, top_kept u operations old new s i low)
  | inr added ↦ omega (arith, s.early i added within, few)
]

module _ (u : ℕ) where
  pub counted_none : (d : Diagrams) → IsCounted u 0 d d
  counted_none d = record {
    budget = refl;
    more = [];
    is = sym (append-nil d.nodes);
    few = omega arith;
    early = λ i from below. absurd (omega (arith, from, below));
  }

  -- a step that made no node
  pub counted_same : (old new : Diagrams) → new.budget ≡ old.budget → new.nodes ≡ old.nodes → IsCounted u 0 old new
  counted_same old new budget same =
      let count : length new.nodes ≡ length old.nodes = ap (λ (ns : List Node). length ns) same in
      record {
        budget = budget;
        more = [];
        is = same ∙ sym (append-nil old.nodes);
        few = omega (arith, count);
        early = λ i from below. absurd (omega (arith, from, below, count));
      }

  pub counted_more : (a b : ℕ) (old new : Diagrams) → a ≤ b → IsCounted u a old new → IsCounted u b old new
  counted_more a b old new le s = record {
    budget = s.budget;
    more = s.more;
    is = s.is;
    few = omega (arith, s.few, mul-le-mul_right {m = a} {n = b} (2 ^ u) le);
    early = s.early;
  }

  pub counted_then : (a b : ℕ) (x y z : Diagrams) → IsCounted u a x y → IsCounted u b y z → IsCounted u (a + b) x z
  counted_then a b x y z f s = record {
    budget = s.budget ∙ f.budget;
    more = f.more ++ s.more;
    is = s.is ∙ ap (λ (ns : List Node). ns ++ s.more) f.is ∙ append_assoc x.nodes f.more s.more;
    few = omega (arith, f.few, s.few, add-mul a b (2 ^ u));
    early = λ i from below. elim (cases_lt i (length y.nodes)) [
      | inl low ↦ omega (arith, top_kept u b y z s i low, f.early i from low)
      | inr high ↦ s.early i high below
    ];
  }

  pub spent_more : (a b : ℕ) (old new : Diagrams) (spent : Spent) → a ≤ b → IsSpentBy u a old new spent → IsSpentBy u b old new spent
  spent_more a b old new spent le s = record {
    number = s.number;
    full = s.full;
    passed = omega (arith, s.passed, mul-le-mul_right {m = a} {n = b} (2 ^ u) le);
    few_variables = s.few_variables;
  }

  pub spent_then : (a b : ℕ) (x y z : Diagrams) (spent : Spent) → IsCounted u a x y → IsSpentBy u b y z spent → IsSpentBy u (a + b) x z spent
  spent_then a b x y z spent f s = record {
    number = s.number ∙ f.budget;
    full = s.full ∙ f.budget;
    passed = omega (arith, f.few, s.passed, f.budget, add-mul a b (2 ^ u));
    few_variables = λ few tests. omega (arith, s.few_variables few (tests_kept u a x y few f tests), f.budget);
  }

  module _ {A : Type 0} where
    pub counts_none : (d : Diagrams) (x : A) → Counts u 0 d d (Ok x)
    counts_none d x = record { added = counted_none d; refused = tt }

    pub counts_ok : (a : ℕ) (old new : Diagrams) (x : A) → IsCounted u a old new → Counts u a old new (Ok x)
    counts_ok a old new x s = record { added = s; refused = tt }

    pub counts_more : (a b : ℕ) (old new : Diagrams) (r : Result A Spent) → a ≤ b → Counts u a old new r → Counts u b old new r
    counts_more a b old new r le s = record {
      added = counted_more a b old new le s.added;
      refused = if_err_more (IsSpentBy u a old new) (IsSpentBy u b old new) r (λ e w. spent_more a b old new e le w) s.refused;
    }

    -- operations before a call
    pub counts_then : (a b : ℕ) (x y z : Diagrams) (r : Result A Spent) → IsCounted u a x y → Counts u b y z r → Counts u (a + b) x z r
    counts_then a b x y z r f s = record {
      added = counted_then a b x y z f s.added;
      refused = if_err_more (IsSpentBy u b y z) (IsSpentBy u (a + b) x z) r (λ e w. spent_then a b x y z e f w) s.refused;
    }

    -- operations after a call that was not refused
    pub counts_behind : (a b : ℕ) (x y z : Diagrams) (v : A) → Counts u a x y (Ok v) → IsCounted u b y z → Counts u (a + b) x z (Ok v)
    counts_behind a b x y z v f s = record { added = counted_then a b x y z f.added s; refused = tt }

  -- a refusal is handed on
  pub counts_err : {A B : Type 0} (a : ℕ) (old new : Diagrams) (e : Spent) → Counts {A = A} u a old new (Err e) → Counts {A = B} u a old new (Err e)
  counts_err a old new e s = record { added = s.added; refused = s.refused }

  -- another value
  pub counts_value : {A B : Type 0} (a : ℕ) (old new : Diagrams) (x : A) (y : B) → Counts u a old new (Ok x) → Counts u a old new (Ok y)
  counts_value a old new x y s = record { added = s.added; refused = tt }

sub_within : (u : ℕ) (g f : Function) → IsWithin u f → IsSubfunction g f → IsWithin u g
sub_within u g f reads sub v w same =
    sub.is v ∙ reads (splice sub.first sub.fixed v) (splice sub.first sub.fixed w) (splice_within sub.first u sub.fixed v w same) ∙ sym (sub.is w)

tests_more : (u : ℕ) (nodes : List Node) (f : Function) → u ≤ 4 → IsWithin u f → IsWithin 4 f
tests_more u nodes f le reads v w same = reads v w (λ y below. same y (omega (arith, below, le)))

-- a refusal for want of a node of a function of the first u variables
spent_lacks : (u : ℕ) (old new : Diagrams) (f : Function) (s : Spent) → IsReduced new.vars new.nodes → new.budget ≡ old.budget → IsWithin u f
    → (u ≤ 4 → TestsWithin 4 old.nodes → TestsWithin 4 new.nodes) → IsSpent new f s → u ≤ 4 → TestsWithin 4 old.nodes → old.budget < 65536
spent_lacks u old new f s sound budget reads kept w few tests =
    omega (
      arith,
      w.full,
      budget,
      fewer_than_functions new.vars 4 new.nodes w.lacks.sub sound (kept few tests)
          (sub_within 4 w.lacks.sub f (tests_more u new.nodes f few reads) w.lacks.of) w.lacks.absent,
    )

-- one operation
module _ (u : ℕ) (old new : Diagrams) (two : 2 ≤ length old.nodes) where
  counted_made : (f : Function) (r : Result H Spent) → Makes old new f r → IsWithin u f → IsCounted u 1 old new
  counted_made f r m reads = record {
    budget = ap (λ (d : Diagrams). d.budget) m.adds.rest;
    more = m.grows.more;
    is = m.grows.is;
    few = omega (arith, grows_at_most new.vars u old.nodes new.nodes f m.adds.sound two reads m.grows);
    early = grows_within new.vars u old.nodes new.nodes f m.adds.sound two reads m.grows;
  }

  positive : 0 < 2 ^ u
  positive = power_positive u

  pub counts_made : (f : Function) (r : Result H Spent) → Makes old new f r → IsWithin u f → Counts u 1 old new r
  counts_made f r m reads =
      let budget : new.budget ≡ old.budget = ap (λ (d : Diagrams). d.budget) m.adds.rest in
      let added = counted_made f r m reads in
      record {
        added = added;
        refused = if_err_more (IsSpent new f) (IsSpentBy u 1 old new) r (λ s w. record {
          number = w.number ∙ budget;
          full = w.full ∙ budget;
          passed = omega (arith, w.full, budget, grows_at_most new.vars u old.nodes new.nodes f m.adds.sound two reads m.grows, positive);
          few_variables = spent_lacks u old new f s m.adds.sound budget reads (λ few tests. tests_kept u 1 old new few added tests) w;
        }) m.spent;
      }

  -- an exclusive or makes two diagrams
  pub counts_both : (first f : Function) (r : Result H Spent) → MakesBoth old new first f r → IsWithin u first → IsWithin u f
      → length new.nodes ≤ length old.nodes + 2 * (2 ^ u - 1) → ((i : ℕ) → length old.nodes ≤ i → i < length new.nodes → top new.nodes i < u) → Counts u 2 old new r
  counts_both first f r m reads reads' few early =
      let budget : new.budget ≡ old.budget = ap (λ (d : Diagrams). d.budget) m.adds.rest in
      let added : IsCounted u 2 old new = record { budget = budget; more = m.more; is = m.is; few = omega (arith, few); early = early } in
      record {
        added = added;
        refused = if_err_more (λ s. IsSpent new first s ⊎ IsSpent new f s) (IsSpentBy u 2 old new) r (λ s w. elim w [
          | inl x ↦ record {
            number = x.number ∙ budget;
            full = x.full ∙ budget;
            passed = omega (arith, x.full, budget, few, positive);
            few_variables = spent_lacks u old new first s m.adds.sound budget reads (λ few' tests. tests_kept u 2 old new few' added tests) x;
          }
          | inr x ↦ record {
            number = x.number ∙ budget;
            full = x.full ∙ budget;
            passed = omega (arith, x.full, budget, few, positive);
            few_variables = spent_lacks u old new f s m.adds.sound budget reads' (λ few' tests. tests_kept u 2 old new few' added tests) x;
          }
        ]) m.spent;
      }
