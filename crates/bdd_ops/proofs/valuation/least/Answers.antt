use Rattle.std.proofs.Common.{◌≡◌, ◌<◌, sym, ap, ◌∙◌, arith}
use Rattle.bdd_core.specs.Diagram.{meaning}
use Rattle.bdd_core.proofs.Meaning.{meaning_one}
use Rattle.bdd_ops.proofs.Walk.{late_is_end}
use Rattle.bdd_ops.proofs.valuation.least.Goals as goal

pub returns-clause-least : goal.returns-clause-least
returns-clause-least c _ =
    let i = c.loop-x.invariant in
    let ns = c.args.store.now.nodes in
    let vars : c.vars-vars.result ≡ c.args.store.now.vars = c.vars-vars.ensures in
    let all : c.loop-x.x ≡ c.args.store.now.vars = omega (arith, vars, c.loop-x-test.false, c.loop-x.auto.x-end) in
    let low : c.loop-x.place.0 < 2 = late_is_end c.args.store.now.vars ns c.sound.ensures.sound c.loop-x.place.0 i.live (omega (arith, i.first, all)) in
    let one : c.loop-x.place.0 ≡ 1 = omega (arith, low, i.some) in
    record {
      holds = λ v agree. sym (i.same v (λ y below. agree y (omega (arith, below, all)))) ∙ ap (λ p. meaning ns p v) one ∙ meaning_one ns v;
      least = λ w k below agree off on. i.least w k (omega (arith, below, all)) agree off on;
    }
