use Rattle.std.proofs.Common.{ℕ, ◌<◌, ◌≤◌, sym, ap, ◌∙◌, arith}
use Rattle.std.specs.Prelude.{eqb}
use Rattle.std.proofs.lemmas.Bool.{eq-eqb, ne_eqb}
use Rattle.bdd_ops.proofs.Walk.{step_hi, step_lo, end_value}
use Rattle.phase_told.proofs.values.value_in.Goals as goal

pub loop-n-preserved-then-bit-eq1 : goal.loop-n-preserved-then-bit-eq1
loop-n-preserved-then-bit-eq1 c =
    let d = c.args.store.now in
    let p : ℕ = c.loop-n.place.0 in
    let n = c.in-Some.n in
    let high : 2 ≤ p = grind (arith, c.in-Some.ensures.end) in
    let proper = c.sound.ensures.sound.proper p high c.loop-n.invariant.live in
    record {
      live = omega (arith, ap (λ n. n.hi) c.in-Some.ensures.node, proper.hi_below, c.loop-n.invariant.live);
      same = λ v stands.
          step_hi d.vars d.nodes c.sound.ensures.sound p high c.loop-n.invariant.live n v c.in-Some.ensures.node
          (stands n.var c.in-Some.ensures.proper.var_below ∙ ap (λ w. eqb w 1) (sym c.read-bit.ensures) ∙ eq-eqb c.read-bit.result 1 c.if-bit-eq1.true)
          ∙ c.loop-n.invariant.same v stands;
    }

pub loop-n-preserved : goal.loop-n-preserved
loop-n-preserved c =
    let d = c.args.store.now in
    let p : ℕ = c.loop-n.place.0 in
    let n = c.in-Some.n in
    let high : 2 ≤ p = grind (arith, c.in-Some.ensures.end) in
    let proper = c.sound.ensures.sound.proper p high c.loop-n.invariant.live in
    record {
      live = omega (arith, ap (λ n. n.lo) c.in-Some.ensures.node, proper.lo_below, c.loop-n.invariant.live);
      same = λ v stands.
          step_lo d.vars d.nodes c.sound.ensures.sound p high c.loop-n.invariant.live n v c.in-Some.ensures.node
          (stands n.var c.in-Some.ensures.proper.var_below ∙ ap (λ w. eqb w 1) (sym c.read-bit.ensures) ∙ ne_eqb c.read-bit.result 1 c.if-bit-eq1.false)
          ∙ c.loop-n.invariant.same v stands;
    }

pub returns : goal.returns
returns c = λ v stands.
    let low : c.loop-n.place.0 < 2 = grind (arith, c.in_default.ensures.end) in
    c.eq.ensures ∙ sym (end_value c.args.store.now.nodes c.loop-n.place.0 v low) ∙ c.loop-n.invariant.same v stands
