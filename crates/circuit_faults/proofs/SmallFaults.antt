-- Faults of a net by functions over the variables that stand for what its part reads.
use Rattle.std.proofs.Common.{◌≡◌, ℕ, ◌≤◌, Bool, true, false, Result, Ok, length, arith, ap, ap₂, refl, sym, ◌∙◌}
use Rattle.std.specs.Prelude.{◌&&◌, ◌||◌, cond, not}
use Rattle.bdd_core.specs.Diagram.{Function, IsWithin, Valuation, meaning}
use Rattle.bdd_core.proofs.Meaning.{meaning_zero}
use Rattle.bdd_core.specs.Store.{AddsNodes, Diagrams, Gives, IsLive, Makes, Means, function_of}
use Rattle.bdd_core.specs.declared.handle.H.{H}
use Rattle.bdd_core.specs.declared.handle.Spent.{Spent}
use Rattle.bdd_ops.proofs.WithinLaws.{within_and, within_same}
use Rattle.bdd_ops.proofs.CountingLaws.{counts_made}
use Rattle.bdd_ops.specs.Counting.{Counts}
use Rattle.bdd_ops.specs.Ops.{and_of}
use Rattle.circuit_faults.specs.Scans.{fight_of, float_of}
use Rattle.circuit_faults.specs.Small.{IsInner, nor_of}
use Rattle.part_functions.proofs.ComposeLaws.{composed_kept, inner_kept, live_kept, within_composed}
use Rattle.part_functions.specs.Inner.{AreLive, AreWithin, composed_of, inner}
use Rattle.part_functions.specs.declared.few.PartFunctions.{PartFunctions}

nor_cond : (care x : Bool) → (care && not x) ≡ cond x false care
nor_cond true true = refl
nor_cond false true = refl
nor_cond true false = refl
nor_cond false false = refl

module _ (functions : PartFunctions) (old mid : Diagrams) (first : AddsNodes old mid) (live : AreLive functions old) where
  -- a handle of before is one still
  pub inner_stays : (h : H) → IsInner functions old h → IsInner functions mid h
  inner_stays h i = record {
    live = (let longer = first.longer in let here = i.live in omega (arith, longer, here));
    within = within_same functions.count (function_of old h) (function_of mid h) (first.kept h.0 i.live) i.within;
    few = i.few;
    there = live_kept functions old mid old.words first live;
  }

  module _ (care : H) (care_live : IsLive old care) (zero one : H) (new : Diagrams) (h : H) where
    pub fight_composed : (both : H) → Means mid both (and_of (function_of old zero) (function_of old one))
        → Means new h (and_of (function_of mid care) (composed_of functions mid (function_of mid both)))
        → Means new h (fight_of (function_of old care) (composed_of functions old (function_of old zero)) (composed_of functions old (function_of old one)))
    fight_composed both b m = record {
      live = m.live;
      same = λ v.
          m.same v
          ∙ ap (λ (x : Bool). x && function_of mid both (inner functions mid v)) (first.kept care.0 care_live v)
          ∙ ap (λ (x : Bool). function_of old care v && x) (b.same (inner functions mid v))
          ∙ ap (λ (w : Valuation). function_of old care v && (function_of old zero w && function_of old one w)) (inner_kept functions old mid old.words first live v);
    }

    pub float_composed : (none : H) → Means mid none (nor_of (function_of old zero) (function_of old one))
        → Means new h (and_of (function_of mid care) (composed_of functions mid (function_of mid none)))
        → Means new h (float_of (function_of old care) (composed_of functions old (function_of old zero)) (composed_of functions old (function_of old one)))
    float_composed none n m = record {
      live = m.live;
      same = λ v.
          m.same v
          ∙ ap (λ (x : Bool). x && function_of mid none (inner functions mid v)) (first.kept care.0 care_live v)
          ∙ ap (λ (x : Bool). function_of old care v && x) (n.same (inner functions mid v))
          ∙ ap (λ (w : Valuation). function_of old care v && not (function_of old zero w || function_of old one w)) (inner_kept functions old mid old.words first live v)
          ∙ nor_cond (function_of old care v) (function_of old zero (inner functions old v) || function_of old one (inner functions old v));
    }

-- ---- where there is care and a function over the variables is 1

and_false : (b : Bool) → (b && false) ≡ false
and_false true = refl
and_false false = refl

pub cared_zero : (functions : PartFunctions) (d : Diagrams) (care f : H) → IsLive d f → f.0 ≡ 0 → Means d f (and_of (function_of d care) (composed_of functions d (function_of d f)))
cared_zero functions d care f live zero = record {
  live = live;
  same = λ v.
      none v ∙ sym (ap (λ (x : Bool). function_of d care v && x) (none (inner functions d v)) ∙ and_false (function_of d care v));
}
  where
    none : (v : Valuation) → function_of d f v ≡ false
    none v = ap (λ (k : ℕ). meaning d.nodes k v) zero ∙ meaning_zero d.nodes v

module _ (functions : PartFunctions) (old mid new : Diagrams) (care f there : H) (care_live : IsLive old care) (first : Gives old mid (composed_of functions old (function_of old f)) (Ok there)) where
  pub cared_made : (h : H) → Means new h (and_of (function_of mid care) (function_of mid there)) → Means new h (and_of (function_of old care) (composed_of functions old (function_of old f)))
  cared_made h m = record {
    live = m.live;
    same = λ v.
        m.same v ∙ ap (λ (x : Bool). x && function_of mid there v) (first.adds.kept care.0 care_live v) ∙ ap (λ (x : Bool). function_of old care v && x) (first.ok.same v);
  }

  -- one operation more
  pub cared_counts : (u : ℕ) (r : Result H Spent) → 2 ≤ length old.nodes → AreWithin u functions old → IsWithin u (function_of old care) → Makes mid new (and_of (function_of mid care) (function_of mid there)) r
      → Counts u 1 mid new r
  cared_counts u r ends reads care_in made =
      let longer = first.adds.longer in
      counts_made u mid new (omega (arith, ends, longer)) (and_of (function_of mid care) (function_of mid there)) r made
      (within_and u (function_of mid care) (function_of mid there) (within_same u (function_of old care) (function_of mid care) (first.adds.kept care.0 care_live) care_in)
      (within_same u (composed_of functions old (function_of old f)) (function_of mid there) first.ok.same (within_composed u functions old (function_of old f) reads)))

pub within_nor : (u : ℕ) (f g : Function) → IsWithin u f → IsWithin u g → IsWithin u (nor_of f g)
within_nor u f g a b v w same = ap₂ (λ (x y : Bool). not (x || y)) (a v w same) (b v w same)

-- a function that was made of functions over the variables is one of them
pub made_inner : (functions : PartFunctions) (old mid : Diagrams) → AddsNodes old mid → {k : H} → IsInner functions old k → (h : H) (f : Function) → Means mid h f → IsWithin functions.count f → IsInner functions mid h
made_inner functions old mid adds {k} i h f m reads = record {
  live = m.live;
  within = within_same functions.count f (function_of mid h) m.same reads;
  few = i.few;
  there = live_kept functions old mid old.words adds i.there;
}

-- a float that was found behind other nodes
pub float_back : (functions : PartFunctions) (old mid new : Diagrams) (care zero one h : H) → AddsNodes old mid → IsLive old care → IsInner functions old zero → IsInner functions old one
    → Means new h (float_of (function_of mid care) (composed_of functions mid (function_of mid zero)) (composed_of functions mid (function_of mid one)))
    → Means new h (float_of (function_of old care) (composed_of functions old (function_of old zero)) (composed_of functions old (function_of old one)))
float_back functions old mid new care zero one h adds care_live zero_in one_in m = record {
  live = m.live;
  same = λ v.
      m.same v
      ∙ ap (λ (b : Bool). cond (b || composed_of functions mid (function_of mid one) v) false (function_of mid care v)) (composed_kept functions old mid old.words adds zero_in.there zero zero_in.live v)
      ∙ ap (λ (b : Bool). cond (composed_of functions old (function_of old zero) v || b) false (function_of mid care v)) (composed_kept functions old mid old.words adds zero_in.there one one_in.live v)
      ∙ ap (λ (b : Bool). cond (composed_of functions old (function_of old zero) v || composed_of functions old (function_of old one) v) false b) (adds.kept care.0 care_live v);
}
