-- Tests of a list, one after the other.
use Rattle.std.proofs.Common.{◌≡◌, ℕ, ◌+◌, ◌≤◌, ◌&&◌, Bool, List, [], ◌∷◌, length, Result, Ok, Err, arith, ap, ap₂, refl, sym, ◌∙◌}
use Rattle.std.specs.Prelude.{sum_by}
use Rattle.std.proofs.Math.Bool.{and-true, and_assoc}
use Rattle.std.proofs.lemmas.List.Sums.{sum_by-cons}
use Rattle.bdd_core.specs.Diagram.{Function, IsReduced, IsSame, IsWithin}
use Rattle.bdd_core.specs.Store.{Diagrams, IsLive, function_of}
use Rattle.bdd_core.specs.declared.handle.H.{H}
use Rattle.bdd_core.specs.declared.handle.Spent.{Spent}
use Rattle.bdd_ops.proofs.CountingLaws.{counted_more, counted_none, counted_then, counts_more, counts_ok, counts_then}
use Rattle.bdd_ops.proofs.WithinLaws.{within_and, within_same}
use Rattle.bdd_core.proofs.Frames.{gives_next, gives_none, gives_refused}
use Rattle.constraints.proofs.EvaluateLaws.{within_after}
use Rattle.constraints.specs.Evaluated.{AreLive, AreWithin}
use Rattle.constraints.specs.Obliged.{AddsTest, IsSoFar, all_hold}

module _ {X : Type 0} (test : X → Function) (operations : X → ℕ) (handle : List ℕ → ℕ) (start : Function) (xs : List X) (first : Diagrams) where
  -- no test yet
  pub none_so_far : (all : H) → start ≡ function_of first all → IsReduced first.vars first.nodes → length first.nodes ≤ first.budget → IsLive first all
      → IsSoFar test operations handle start xs xs first first all
  none_so_far all is sound within live = record {
    so_far = start;
    gives = gives_none first start all sound within live (λ v. ap (λ (f : Function). f v) (sym is));
    same = λ v. refl;
    done = 0;
    sum = omega arith;
    counted = λ u reads starts. counted_none u first;
    within = λ u reads starts. starts;
  }

  module _ (now new : Diagrams) (rest behind : List X) (x : X) (all : H) (is : rest ≡ x ∷ behind) (live : AreLive first handle)
      (far : IsSoFar test operations handle start xs rest first now all) where
    -- a test that was refused
    pub refused_so_far : (here : Function) (s : Spent) → AddsTest handle (operations x) (function_of now all) here now new (Err s)
        → AddsTest handle (sum_by operations xs) start (all_hold test xs) first new (Err s)
    refused_so_far here s step = record {
      gives = gives_refused first now new far.so_far (λ v. function_of now all v && here v) (λ v. start v && all_hold test xs v) all s far.gives step.gives;
      counts = λ u reads starts.
          let left = ap (sum_by operations) is ∙ sum_by-cons operations x behind in
          let sum = far.sum in
          counts_more u (far.done + operations x) (sum_by operations xs) first new (Err s) (omega (arith, left, sum))
          (counts_then u far.done (operations x) first now new (Err s) (far.counted u reads starts)
          (step.counts u (within_after first now far.so_far (Ok all) far.gives handle live u reads)
          (within_same u far.so_far (function_of now all) far.gives.ok.same (far.within u reads starts))));
    }

    -- one test more
    pub more_so_far : (here : Function) (next : H) → IsSame here (test x) → ((u : ℕ) → AreWithin u first handle → IsWithin u (test x))
        → AddsTest handle (operations x) (function_of now all) here now new (Ok next) → IsSoFar test operations handle start xs behind first new next
    more_so_far here next here_is reads_test step = record {
      so_far = λ v. far.so_far v && test x v;
      gives = gives_next first now new far.so_far (λ v. function_of now all v && here v) (λ v. far.so_far v && test x v) all (Ok next) far.gives step.gives
          (λ v. ap₂ (λ (a b : Bool). a && b) (far.gives.ok.same v) (here_is v));
      same = λ v.
          and_assoc (far.so_far v) (test x v) (all_hold test behind v) ∙ ap (λ (ys : List X). far.so_far v && all_hold test ys v) (sym is) ∙ far.same v;
      done = far.done + operations x;
      sum = (let left = ap (sum_by operations) is ∙ sum_by-cons operations x behind in let sum = far.sum in omega (arith, left, sum));
      counted = λ u reads starts.
          counted_then u far.done (operations x) first now new (far.counted u reads starts)
          (step.counts u (within_after first now far.so_far (Ok all) far.gives handle live u reads)
          (within_same u far.so_far (function_of now all) far.gives.ok.same (far.within u reads starts))).added;
      within = λ u reads starts. within_and u far.so_far (test x) (far.within u reads starts) (reads_test u reads);
    }

  -- all tests
  pub all_so_far : (now : Diagrams) (rest : List X) (all : H) → rest ≡ [] → IsSoFar test operations handle start xs rest first now all
      → AddsTest handle (sum_by operations xs) start (all_hold test xs) first now (Ok all)
  all_so_far now rest all none far = record {
    gives = record {
      adds = far.gives.adds;
      ok = record {
        live = far.gives.ok.live;
        same = λ v. far.gives.ok.same v ∙ sym (and-true (far.so_far v)) ∙ ap (λ (ys : List X). far.so_far v && all_hold test ys v) (sym none) ∙ far.same v;
      };
      spent = tt;
    };
    counts = λ u reads starts. let sum = far.sum in counts_ok u (sum_by operations xs) first now all (counted_more u far.done (sum_by operations xs) first now (omega (arith, sum)) (far.counted u reads starts));
  }

-- ---- two lists of tests

-- a second list after a first
pub tests_then : (handle : List ℕ → ℕ) (a b c : Diagrams) (m n : ℕ) (start f g g' : Function) (p : H) (r : Result H Spent) → AreLive a handle → IsSame g' g → ((u : ℕ) → AreWithin u a handle → IsWithin u f)
    → AddsTest handle m start f a b (Ok p) → AddsTest handle n (function_of b p) g' b c r → AddsTest handle (m + n) start (λ v. f v && g v) a c r
tests_then handle a b c m n start f g g' p r live same reads_f first second = record {
  gives = gives_next a b c (λ v. start v && f v) (λ v. function_of b p v && g' v) (λ v. start v && (f v && g v)) p r first.gives second.gives
      (λ v. ap₂ (λ (x y : Bool). x && y) (first.gives.ok.same v) (same v) ∙ and_assoc (start v) (f v) (g v));
  counts = λ u reads starts.
      counts_then u m n a b c r (first.counts u reads starts).added
      (second.counts u (within_after a b (λ v. start v && f v) (Ok p) first.gives handle live u reads)
      (within_same u (λ v. start v && f v) (function_of b p) first.gives.ok.same (within_and u start f starts (reads_f u reads))));
}
