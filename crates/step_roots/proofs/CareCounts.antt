-- Operations on live handles, at all variables of a store.
use Rattle.std.proofs.Common.{◌≡◌, ℕ, ◌≤◌, List, Result, Ok, Err, arith, length, ap, subst}
use Rattle.bdd_core.proofs.Bound.{within_place}
use Rattle.bdd_core.specs.Diagram.{Function, IsReduced, IsWithin, top}
use Rattle.bdd_core.specs.Store.{Adds, Diagrams, IsLive, Makes, function_of}
use Rattle.bdd_core.specs.declared.handle.H.{H}
use Rattle.bdd_core.specs.declared.handle.Spent.{Spent}
use Rattle.bdd_ops.proofs.CountingLaws.{counts_made, counts_more, counts_then}
use Rattle.bdd_ops.specs.Counting.{Counts}

-- a live handle reads only the variables of the store
pub all_within : (d : Diagrams) (h : H) → IsReduced d.vars d.nodes → IsLive d h → IsWithin d.vars (function_of d h)
unfolding top
all_within d h sound live = within_place d.vars d.vars d.nodes h.0 sound (λ i high below. (sound.proper i high below).var_below) live

module _ (old mid : Diagrams) (words : List ℕ) (adds : Adds old mid words) where
  vars : mid.vars ≡ old.vars
  vars = ap (λ (d : Diagrams). d.vars) adds.rest

  -- and so after other operations
  pub later_within : (h : H) → IsLive mid h → IsWithin old.vars (function_of mid h)
  later_within h live = subst (λ (u : ℕ). IsWithin u (function_of mid h)) vars (all_within mid h adds.sound live)

  -- operations at all variables of the store that is left
  pub counts_later : {A : Type 0} (n : ℕ) (new : Diagrams) (r : Result A Spent) → Counts mid.vars n mid new r → Counts old.vars n mid new r
  counts_later {A} n new r counts = subst (λ (u : ℕ). Counts {A = A} u n mid new r) vars counts

-- one operation, and one more
pub one_more : (old mid new : Diagrams) (f g : Function) (x : H) (r : Result H Spent) (words : List ℕ) → 2 ≤ length old.nodes → Adds old mid words → IsWithin old.vars f → IsWithin old.vars g → Makes old mid f (Ok x)
    → Makes mid new g r → Counts old.vars 2 old new r
one_more old mid new f g x r words two adds first second one next =
    counts_then old.vars 1 1 old mid new r (counts_made old.vars old mid two f (Ok x) one first).added
    (counts_made old.vars mid new (let longer = adds.longer in omega (arith, two, longer)) g r next second)

-- one that is refused
pub one_refused : (old new : Diagrams) (n : ℕ) (f : Function) (e : Spent) → 2 ≤ length old.nodes → 1 ≤ n → IsWithin old.vars f → Makes old new f (Err e) → Counts {A = H} old.vars n old new (Err e)
one_refused old new n f e two le within makes = counts_more old.vars 1 n old new (Err e) le (counts_made old.vars old new two f (Err e) makes within)
