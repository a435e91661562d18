use Rattle.std.proofs.Common.{ℕ, ◌+◌, ◌-◌, ◌^◌, ◌<◌, ◌≤◌, Err, Ok, arith, subst, sym, ◌∙◌}
use Rattle.node_pool.specs.declared.region.Node.{Node}
use Rattle.bdd_core.specs.Diagram.{choice, meaning}
use Rattle.bdd_core.specs.Store.{Diagrams, Makes}
use Rattle.bdd_core.proofs.Frames.{gives_none}
use Rattle.bdd_ops.proofs.CountingLaws.{counts_more, counts_none, counts_then}
use Rattle.bdd_ops.proofs.Walk.{end_value}
use Rattle.part_functions.proofs.ComposeLaws.{all_less, both_less, choice_counts, hi_live, hi_room, hi_within, live_kept, lo_less, lo_live, lo_room, low_within, node_gives, var_low, within_kept}
use Rattle.part_functions.specs.Inner.{composed_of, inner}
use Rattle.part_functions.proofs.compose.+composed.Goals as goal

pub returns-in_default-clause-gives : goal.returns-in_default-clause-gives
returns-in_default-clause-gives t c =
    let d : Diagrams = c.args.store.now in
    let f : ℕ = c.args.f.0 in
    let low : f < 2 = grind (arith, c.in_default.ensures.end) in
    gives_none d (composed_of c.args.functions d (meaning d.nodes f)) c.args.f c.sound.ensures.sound c.sound.ensures.within c.requires.live
    (λ v. end_value d.nodes f v low ∙ sym (end_value d.nodes f (inner c.args.functions d v) low))

pub returns-in_default-clause-counts : goal.returns-in_default-clause-counts
returns-in_default-clause-counts t c u b reads room =
    let d : Diagrams = c.args.store.now in
    counts_more u 0 (2 ^ b - 1) d d (Ok c.args.f) (omega arith) (counts_none u d c.args.f)

pub composed-requires : goal.composed-requires
composed-requires t c =
    let d0 : Diagrams = c.args.store.now in
    let f : ℕ = c.args.f.0 in
    let high : 2 ≤ f = grind (arith, c.in-Some.ensures.end) in
    let n : Node = c.in-Some.node in
    let is = c.in-Some.ensures.node in
    let below = c.in-Some.ensures.proper.var_below in
    let less = c.in-Some.ensures.proper.lo_below in
    let measure = c.decreases in
    (omega (arith, less, measure), (c.requires.functions, (lo_live c.args.functions d0 c.sound.ensures.sound c.requires.functions.0 f high c.requires.live n is below c.requires.within, low_within d0.vars d0.nodes c.sound.ensures.sound f high c.requires.live n is below c.args.functions.count c.requires.within)))

pub composed-requires-2 : goal.composed-requires-2
composed-requires-2 t c =
    let d0 : Diagrams = c.args.store.now in
    let f : ℕ = c.args.f.0 in
    let high : 2 ≤ f = grind (arith, c.in-Some.ensures.end) in
    let n : Node = c.in-Some.node in
    let is = c.in-Some.ensures.node in
    let below = c.in-Some.ensures.proper.var_below in
    let d1 : Diagrams = c.composed.new.store in
    let first = c.in-Ok.ensures.gives in
    let less = c.in-Some.ensures.proper.hi_below in
    let measure = c.decreases in
    let there = hi_live c.args.functions d0 c.sound.ensures.sound c.requires.functions.0 f high c.requires.live n is below c.requires.within in
    let longer = first.adds.longer in (
      omega (arith, less, measure),
      (
        (live_kept c.args.functions d0 d1 d0.words first.adds c.requires.functions.0, c.requires.functions.1),
        (omega (arith, there, longer), hi_within c.args.functions d0 c.sound.ensures.sound c.requires.functions.0 f high c.requires.live n is below c.requires.within d1 c.in-Ok.lo first),
      ),
    )

pub returns-in-Err-clause-counts : goal.returns-in-Err-clause-counts
returns-in-Err-clause-counts t c u b reads room =
    let d0 : Diagrams = c.args.store.now in
    let f : ℕ = c.args.f.0 in
    let high : 2 ≤ f = grind (arith, c.in-Some.ensures.end) in
    let n : Node = c.in-Some.node in
    let is = c.in-Some.ensures.node in
    let below = c.in-Some.ensures.proper.var_below in
    let k : ℕ = b - 1 in
    counts_more u (2 ^ k - 1) (2 ^ b - 1) d0 c.composed.new.store (Err c.in-Err.spent) (lo_less c.args.functions d0 c.sound.ensures.sound c.requires.functions.0 f high c.requires.live n is below c.requires.within u b room)
    (c.in-Err.ensures.counts u k reads (lo_room c.args.functions d0 c.sound.ensures.sound c.requires.functions.0 f high c.requires.live n is below c.requires.within u b room))

pub returns-in-Err-composed-clause-counts : goal.returns-in-Err-composed-clause-counts
returns-in-Err-composed-clause-counts t c u b reads room =
    let d0 : Diagrams = c.args.store.now in
    let f : ℕ = c.args.f.0 in
    let high : 2 ≤ f = grind (arith, c.in-Some.ensures.end) in
    let n : Node = c.in-Some.node in
    let is = c.in-Some.ensures.node in
    let below = c.in-Some.ensures.proper.var_below in
    let d1 : Diagrams = c.composed.new.store in
    let first = c.in-Ok.ensures.gives in
    let k : ℕ = b - 1 in
    let low = c.in-Ok.ensures.counts u k reads (lo_room c.args.functions d0 c.sound.ensures.sound c.requires.functions.0 f high c.requires.live n is below c.requires.within u b room) in
    counts_more u ((2 ^ k - 1) + (2 ^ k - 1)) (2 ^ b - 1) d0 c.composed-2.new.store (Err c.in-Err-composed.spent) (both_less c.args.functions d0 c.sound.ensures.sound c.requires.functions.0 f high c.requires.live n is below c.requires.within u b room)
    (counts_then u (2 ^ k - 1) (2 ^ k - 1) d0 d1 c.composed-2.new.store (Err c.in-Err-composed.spent) low.added
    (c.in-Err-composed.ensures.counts u k (within_kept c.args.functions d0 d1 d0.words first.adds c.requires.functions.0 u reads) (hi_room c.args.functions d0 c.sound.ensures.sound c.requires.functions.0 f high c.requires.live n is below c.requires.within u b room d1 (2 ^ k - 1) low.added)))

pub at-requires : goal.at-requires
at-requires t c =
    let d0 : Diagrams = c.args.store.now in
    let f : ℕ = c.args.f.0 in
    let high : 2 ≤ f = grind (arith, c.in-Some.ensures.end) in
    let n : Node = c.in-Some.node in
    let is = c.in-Some.ensures.node in
    let below = c.in-Some.ensures.proper.var_below in
    let few = c.requires.functions.1 in
    let low = var_low c.args.functions d0 c.sound.ensures.sound c.requires.functions.0 f high c.requires.live n is below c.requires.within in
    omega (arith, low, few)

pub returns-clause-gives : goal.returns-clause-gives
returns-clause-gives t c =
    let d0 : Diagrams = c.args.store.now in
    let f : ℕ = c.args.f.0 in
    let high : 2 ≤ f = grind (arith, c.in-Some.ensures.end) in
    let n : Node = c.in-Some.node in
    let is = c.in-Some.ensures.node in
    let below = c.in-Some.ensures.proper.var_below in
    let d1 : Diagrams = c.composed.new.store in
    let first = c.in-Ok.ensures.gives in
    let d2 : Diagrams = c.composed-2.new.store in
    let second = c.in-Ok-composed.ensures.gives in
    let d3 : Diagrams = c.ite.new.self in
    node_gives c.args.functions d0 c.sound.ensures.sound c.requires.functions.0 f high c.requires.live n is below c.requires.within d1 c.in-Ok.lo first d2 c.in-Ok-composed.hi second d3 c.ite.result
    (subst (λ (k : ℕ). Makes d2 d3 (choice (meaning d2.nodes k) (meaning d2.nodes c.in-Ok-composed.hi.0) (meaning d2.nodes c.in-Ok.lo.0)) c.ite.result) c.at.ensures c.ite.ensures.makes)

pub returns-clause-counts : goal.returns-clause-counts
returns-clause-counts t c u b reads room =
    let d0 : Diagrams = c.args.store.now in
    let f : ℕ = c.args.f.0 in
    let high : 2 ≤ f = grind (arith, c.in-Some.ensures.end) in
    let n : Node = c.in-Some.node in
    let is = c.in-Some.ensures.node in
    let below = c.in-Some.ensures.proper.var_below in
    let d1 : Diagrams = c.composed.new.store in
    let first = c.in-Ok.ensures.gives in
    let d2 : Diagrams = c.composed-2.new.store in
    let second = c.in-Ok-composed.ensures.gives in
    let d3 : Diagrams = c.ite.new.self in
    let k : ℕ = b - 1 in
    let low = c.in-Ok.ensures.counts u k reads (lo_room c.args.functions d0 c.sound.ensures.sound c.requires.functions.0 f high c.requires.live n is below c.requires.within u b room) in
    let top_one = c.in-Ok-composed.ensures.counts u k (within_kept c.args.functions d0 d1 d0.words first.adds c.requires.functions.0 u reads) (hi_room c.args.functions d0 c.sound.ensures.sound c.requires.functions.0 f high c.requires.live n is below c.requires.within u b room d1 (2 ^ k - 1) low.added) in
    let made = subst (λ (h : ℕ). Makes d2 d3 (choice (meaning d2.nodes h) (meaning d2.nodes c.in-Ok-composed.hi.0) (meaning d2.nodes c.in-Ok.lo.0)) c.ite.result) c.at.ensures c.ite.ensures.makes in
    let last = choice_counts c.args.functions d0 c.sound.ensures.sound c.requires.functions.0 f high c.requires.live n is below c.requires.within d1 c.in-Ok.lo first d2 c.in-Ok-composed.hi second u d3 c.ite.result reads made in
    counts_more u ((2 ^ k - 1) + ((2 ^ k - 1) + 1)) (2 ^ b - 1) d0 d3 c.ite.result (all_less c.args.functions d0 c.sound.ensures.sound c.requires.functions.0 f high c.requires.live n is below c.requires.within u b room)
    (counts_then u (2 ^ k - 1) ((2 ^ k - 1) + 1) d0 d1 d3 c.ite.result low.added (counts_then u (2 ^ k - 1) 1 d1 d2 d3 c.ite.result top_one.added last))
