-- What a call made: nothing, the same function, a part, or a part and then the rest.
use Rattle.std.proofs.Common.{true, false, ◌≡◌, ℕ, ◌<◌, ◌≤◌, length, Result, Ok, Err, refl, ap, ◌∙◌, arith}
use Rattle.bdd_core.specs.declared.handle.H.{H}
use Rattle.bdd_core.specs.declared.handle.Spent.{Spent}
use Rattle.bdd_core.specs.Diagram.{choice, bit_of, Function, IsSame, IsSubfunction, IsReduced, meaning, top}
use Rattle.bdd_core.specs.Store.{Diagrams, Means, IsSpent, IsCanonical, Makes, IsExact}
use Rattle.bdd_core.proofs.Canonical.{canonical}
use Rattle.bdd_core.proofs.Halves.{IsHalf, half_sub, half_later, join_is}
use Rattle.bdd_core.proofs.Frames.{adds_none, handle_stays, nodes_then}
use Rattle.bdd_core.proofs.Growth.{IsFrom, grows_none, grows_sub, grows_then, sub_same, lacks_sub}
use Rattle.bdd_core.proofs.Exact.{sub_there, spent_misses, ok_misses_none}
use Rattle.bdd_core.proofs.Bound.{grows_at_most, grows_within}
use Rattle.bdd_core.proofs.Results.{if_ok_more, if_err_more}

pub canonical_of : (d : Diagrams) → IsReduced d.vars d.nodes → IsCanonical d
canonical_of d r f g f_in g_in = (canonical d.vars d.nodes r f.0 g.0 f_in g_in, λ e v. ap (λ i. meaning d.nodes i v) e)

pub makes_none : (d : Diagrams) (f : Function) (r : H) → IsReduced d.vars d.nodes → length d.nodes ≤ d.budget → Means d r f → Makes d d f (Ok r)
makes_none d f r sound within is = record {
  adds = adds_none d sound within;
  canonical = canonical_of d sound;
  grows = grows_none d.nodes f;
  ok = is;
  spent = tt;
}

pub makes_same : (old new : Diagrams) (f g : Function) (r : Result H Spent) → IsSame f g → Makes old new f r → Makes old new g r
makes_same old new f g r same m = record {
  adds = m.adds;
  canonical = m.canonical;
  grows = grows_sub old.nodes new.nodes f g (sub_same f g same) m.grows;
  ok = if_ok_more (λ x. Means new x f) (λ x. Means new x g) r (λ x w. record { live = w.live; same = λ v. w.same v ∙ same v }) m.ok;
  spent = if_err_more (IsSpent new f) (IsSpent new g) r (λ s w. record { number = w.number; full = w.full; lacks = lacks_sub new.nodes f g (sub_same f g same) w.lacks }) m.spent;
}

-- a part was refused
pub makes_err : (old new : Diagrams) (g f : Function) (s : Spent) → IsSubfunction g f → Makes old new g (Err s) → Makes old new f (Err s)
makes_err old new g f s sub m = record {
  adds = m.adds;
  canonical = m.canonical;
  grows = grows_sub old.nodes new.nodes g f sub m.grows;
  ok = tt;
  spent = record { number = m.spent.number; full = m.spent.full; lacks = lacks_sub new.nodes g f sub m.spent.lacks };
}

-- a part was made, and then the rest
pub makes_then : (old mid new : Diagrams) (g f : Function) (p : H) (r : Result H Spent) → IsSubfunction g f → Makes old mid g (Ok p) → Makes mid new f r → Makes old new f r
makes_then old mid new g f p r sub first second = record {
  adds = nodes_then old mid new first.adds second.adds;
  canonical = second.canonical;
  grows = grows_then old.nodes mid.nodes new.nodes f (grows_sub old.nodes mid.nodes g f sub first.grows) second.grows;
  ok = second.ok;
  spent = second.spent;
}

-- the refusal comes exactly by the count of the nodes that are missing
pub exact_of : (old new : Diagrams) (f : Function) (result : Result H Spent) → 2 ≤ length old.nodes → Makes old new f result → IsExact old new f result
exact_of old new f (Ok r) two m =
    let budget : new.budget ≡ old.budget = ap (λ d. d.budget) m.adds.rest in
    record {
      refused = ((λ e. cc), (λ missing. absurd (ok_misses_none new.vars old.nodes new.nodes f old.budget r.0 m.adds.sound m.grows (omega (arith, m.adds.within, budget)) m.ok.live m.ok.same missing)));
      whole = λ g sub. sub_there new.vars new.nodes r.0 g f m.adds.sound m.ok.live m.ok.same sub;
      kept = handle_stays old new old.words m.adds;
      few = λ u reads. grows_at_most new.vars u old.nodes new.nodes f m.adds.sound two reads m.grows;
      early = λ u reads. grows_within new.vars u old.nodes new.nodes f m.adds.sound two reads m.grows;
    }
exact_of old new f (Err s) two m =
    let budget : new.budget ≡ old.budget = ap (λ d. d.budget) m.adds.rest in
    record {
      refused = ((λ _. spent_misses new.vars old.nodes new.nodes f old.budget m.adds.sound m.grows (m.spent.full ∙ budget) m.spent.lacks), (λ _. refl));
      whole = tt;
      kept = handle_stays old new old.words m.adds;
      few = λ u reads. grows_at_most new.vars u old.nodes new.nodes f m.adds.sound two reads m.grows;
      early = λ u reads. grows_within new.vars u old.nodes new.nodes f m.adds.sound two reads m.grows;
    }

-- Two parts of a function at its first variable, and the node that joins them: from d0, the first part leads to m, the
-- second to d, and the join to e.
module _ (d0 m d : Diagrams) (whole : Function) (x : ℕ) (from : IsFrom x whole) (x_in : x < d0.vars) (lo_of hi_of : Function)
    (lo_half : IsHalf whole x false lo_of) (hi_half : IsHalf whole x true hi_of) where
  pub lo_refused : (s : Spent) → Makes d0 m lo_of (Err s) → Makes d0 m whole (Err s)
  lo_refused s lo = makes_err d0 m lo_of whole s (half_sub d0.vars whole x from x_in false lo_of lo_half) lo

  pub hi_refused : (p : H) (s : Spent) → Makes d0 m lo_of (Ok p) → Makes m d hi_of (Err s) → Makes d0 d whole (Err s)
  hi_refused p s lo hi = makes_then d0 m d lo_of whole p (Err s) (half_sub d0.vars whole x from x_in false lo_of lo_half) lo
      (makes_err m d hi_of whole s (half_sub d0.vars whole x from x_in true hi_of hi_half) hi)

  module _ (p q : H) (lo : Makes d0 m lo_of (Ok p)) (hi : Makes m d hi_of (Ok q)) where
    pub vars_are : d.vars ≡ d0.vars
    vars_are = ap (λ z. z.vars) hi.adds.rest ∙ ap (λ z. z.vars) lo.adds.rest

    lo_live : p.0 < length d.nodes
    lo_live = omega (arith, lo.ok.live, hi.adds.longer)

    lo_is : IsHalf whole x false (meaning d.nodes p.0)
    lo_is v = hi.adds.kept p.0 lo.ok.live v ∙ lo.ok.same v ∙ lo_half v

    hi_is : IsHalf whole x true (meaning d.nodes q.0)
    hi_is v = hi.ok.same v ∙ hi_half v

    pub lo_later : x < top d.nodes p.0
    lo_later = half_later d.vars whole x from (omega (arith, vars_are, x_in)) false d.nodes p.0 hi.adds.sound lo_live lo_is

    pub hi_later : x < top d.nodes q.0
    hi_later = half_later d.vars whole x from (omega (arith, vars_are, x_in)) true d.nodes q.0 hi.adds.sound hi.ok.live hi_is

    pub joined : (e : Diagrams) (r : Result H Spent) → Makes d e (choice (bit_of x) (meaning d.nodes q.0) (meaning d.nodes p.0)) r → Makes d0 e whole r
    joined e r last = makes_then d0 m e lo_of whole p r (half_sub d0.vars whole x from x_in false lo_of lo_half) lo
        (makes_then m d e hi_of whole q r (half_sub d0.vars whole x from x_in true hi_of hi_half) hi
        (makes_same d e (choice (bit_of x) (meaning d.nodes q.0) (meaning d.nodes p.0)) whole r (join_is whole x d.nodes p.0 q.0 lo_is hi_is) last))
