use Rattle.std.proofs.Common.{◌<◌, ◌≤◌, arith, length, subst, sym}
use Rattle.bdd_core.specs.Diagram.{IsWithin, meaning}
use Rattle.bdd_core.specs.declared.handle.H.{H}
use Rattle.part_functions.proofs.suits.reads_from.Goals.{else-node-ge2, then-node-ge2}
use Rattle.part_functions.proofs.ComposeLaws.{high_within, low_within, reads_own}
use Rattle.part_functions.proofs.suits.reads_from.Goals as goal

pub node-requires : goal.node-requires
node-requires c = c.loop-step.invariant.live

pub returns-then-node-least : goal.returns-then-node-least
returns-then-node-least c e u within =
    let d = c.args.store.now in
    let at = c.loop-step.here.0 in
    let high : 2 ≤ at = grind (arith, c.in-Some.ensures.end) in
    let low = reads_own d.vars d.nodes c.sound.ensures.sound at high c.loop-step.invariant.live c.in-Some.node c.in-Some.ensures.node c.in-Some.ensures.proper.var_below u (c.loop-step.invariant.within u within) in
    let least = c.if-node-least.true in
    omega (arith, low, least)

pub loop-step-preserved : goal.loop-step-preserved
loop-step-preserved c =
    let d = c.args.store.now in
    let at = c.loop-step.here.0 in
    let high : 2 ≤ at = grind (arith, c.in-Some.ensures.end) in
    let n = c.in-Some.node in
    let is = c.in-Some.ensures.node in
    let p = c.in-Some.ensures.proper in
    let live = c.loop-step.invariant.live in
    elim c.if-node-ge2.branch [
      | then-node-ge2 w ↦ record {
        live = subst (λ (h : H). h.0 < length d.nodes) (sym w.here-is) (let less = p.lo_below in omega (arith, less, live));
        within = λ u reads. subst (λ (h : H). IsWithin u (meaning d.nodes h.0)) (sym w.here-is)
            (low_within d.vars d.nodes c.sound.ensures.sound at high live n is p.var_below u (c.loop-step.invariant.within u reads));
      }
      | else-node-ge2 w ↦ record {
        live = subst (λ (h : H). h.0 < length d.nodes) (sym w.here-is) (let less = p.hi_below in omega (arith, less, live));
        within = λ u reads. subst (λ (h : H). IsWithin u (meaning d.nodes h.0)) (sym w.here-is)
            (high_within d.vars d.nodes c.sound.ensures.sound at high live n is p.var_below u (c.loop-step.invariant.within u reads));
      }
    ]
