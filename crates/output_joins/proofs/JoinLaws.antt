-- One output joined to the function of its signal.
use Rattle.std.proofs.Common.{◌≡◌, ℕ, ◌<◌, List, Ok, Result, arith, length}
use Rattle.bdd_core.proofs.Bound.{within_place}
use Rattle.bdd_core.specs.Diagram.{IsReduced, IsWithin}
use Rattle.bdd_core.specs.Store.{AddsNodes, Diagrams, IsLive, Makes, Means, function_of}
use Rattle.bdd_core.specs.declared.handle.H.{H}
use Rattle.bdd_core.specs.declared.handle.Spent.{Spent}
use Rattle.bdd_ops.proofs.CountingLaws.{counts_made, counts_then}
use Rattle.bdd_ops.proofs.WithinLaws.{within_and, within_or}
use Rattle.bdd_ops.specs.Counting.{Counts}
use Rattle.bdd_ops.specs.Ops.{and_of, or_of}
use Rattle.output_joins.specs.Joins.{AreLive, handle_in}
use Rattle.phase_laws.proofs.Work.{used_more}
use Rattle.phase_terms.specs.Stores.{IsUsed}

-- the function of the care set and a net
pub both_within : (u made : ℕ) (d : Diagrams) (care gate : H) → IsUsed d.budget u made d → IsReduced d.vars d.nodes → IsLive d care → IsLive d gate
    → IsWithin u (and_of (function_of d care) (function_of d gate))
both_within u made d care gate used sound live other =
    within_and u (function_of d care) (function_of d gate) (within_place d.vars u d.nodes care.0 sound used.within live) (within_place d.vars u d.nodes gate.0 sound used.within other)

module _ (old mid new : Diagrams) (handles : List H) (care gate : H) (signal : ℕ) (here before all : H) (is : before ≡ handle_in handles signal)
    (within : signal < length handles) (adds : AddsNodes old mid) (more : AddsNodes mid new)
    (live : AreLive old handles) (made : Means mid here (and_of (function_of old care) (function_of old gate)))
    (joined : Means new all (or_of (function_of mid before) (function_of mid here))) where
  still : (h : H) → IsLive old h → IsLive new h
  still h there = (let first = adds.longer in let second = more.longer in omega (arith, there, first, second))

-- a net taken in the care set, and then joined to a function
pub two_counts : (u made : ℕ) (old mid new : Diagrams) (care gate here before : H) (r : Result H Spent) → IsUsed old.budget u made old → IsReduced old.vars old.nodes
    → IsLive old care → IsLive old gate → IsLive old before → Makes old mid (and_of (function_of old care) (function_of old gate)) (Ok here)
    → Makes mid new (or_of (function_of mid before) (function_of mid here)) r → Counts u 2 old new r
two_counts u made old mid new care gate here before r used sound live other there first second =
    let one = counts_made u old mid sound.ends (and_of (function_of old care) (function_of old gate)) (Ok here) first (both_within u made old care gate used sound live other) in
    let later = used_more old.budget u made 1 old mid used one.added in
    let within : (h : H) → IsLive mid h → IsWithin u (function_of mid h) = λ h l. within_place mid.vars u mid.nodes h.0 first.adds.sound later.within l in
    let still = first.adds.longer in
    counts_then u 1 1 old mid new r one.added
    (counts_made u mid new first.adds.sound.ends (or_of (function_of mid before) (function_of mid here)) r second
    (within_or u (function_of mid before) (function_of mid here) (within before (omega (arith, there, still))) (within here first.ok.live)))
