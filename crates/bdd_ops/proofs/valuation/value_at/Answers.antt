use Rattle.std.proofs.Common.{ℕ, ◌<◌, ◌≤◌, sym, ap, ◌∙◌, arith}
use Rattle.bdd_ops.specs.Ops.{bits_of}
use Rattle.bdd_ops.proofs.Walk.{step_hi, step_lo, end_value}
use Rattle.bdd_ops.proofs.valuation.value_at.Goals as goal

pub loop-n-preserved-then-bits-n : goal.loop-n-preserved-then-bits-n
loop-n-preserved-then-bits-n c =
    let ns = c.args.store.now.nodes in
    let p : ℕ = c.loop-n.place.0 in
    let high : 2 ≤ p = grind (arith, c.in-Some.ensures.end) in
    let r = c.sound.ensures.sound in
    record {
      live = omega (arith, ap (λ n. n.hi) c.in-Some.ensures.node, (r.proper p high c.loop-n.invariant.live).hi_below, c.loop-n.invariant.live);
      same = step_hi c.args.store.now.vars ns r p high c.loop-n.invariant.live c.in-Some.n (bits_of c.args.at.now.bits) c.in-Some.ensures.node (ap (λ xs. bits_of xs c.in-Some.n.var) (sym c.as_slice-bits.ensures) ∙ c.if-bits-n.true) ∙ c.loop-n.invariant.same;
    }

pub loop-n-preserved : goal.loop-n-preserved
loop-n-preserved c =
    let ns = c.args.store.now.nodes in
    let p : ℕ = c.loop-n.place.0 in
    let high : 2 ≤ p = grind (arith, c.in-Some.ensures.end) in
    let r = c.sound.ensures.sound in
    record {
      live = omega (arith, ap (λ n. n.lo) c.in-Some.ensures.node, (r.proper p high c.loop-n.invariant.live).lo_below, c.loop-n.invariant.live);
      same = step_lo c.args.store.now.vars ns r p high c.loop-n.invariant.live c.in-Some.n (bits_of c.args.at.now.bits) c.in-Some.ensures.node (ap (λ xs. bits_of xs c.in-Some.n.var) (sym c.as_slice-bits.ensures) ∙ c.if-bits-n.false) ∙ c.loop-n.invariant.same;
    }

pub returns : goal.returns
returns c =
    let low : c.loop-n.place.0 < 2 = grind (arith, c.in_default.ensures.end) in
    c.eq.ensures ∙ sym (end_value c.args.store.now.nodes c.loop-n.place.0 (bits_of c.args.at.now.bits) low) ∙ c.loop-n.invariant.same
