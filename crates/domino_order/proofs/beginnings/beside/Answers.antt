use Rattle.std.proofs.Common.{◌≡◌, ℕ, ◌+◌, ◌-◌, ◌*◌, Bool, true, List, Ok, Err, arith, drop, length, subst, take}
use Rattle.std.proofs.lemmas.List.{length-drop, take_all}
use Rattle.bdd_core.specs.Store.{Gives}
use Rattle.step_roots.specs.Bits.{compares}
use Rattle.bdd_ops.proofs.CountingLaws.{counts_more}
use Rattle.domino_order.proofs.EndLaws.{beside_counts, beside_gives, near_refused}
use Rattle.domino_order.proofs.StepFound.{counts_both, same_vars}
use Rattle.domino_order.proofs.beginnings.beside.Goals as goal

pub returns-in-Err-clause-counts : goal.returns-in-Err-clause-counts
returns-in-Err-clause-counts c =
    let order : ℕ = length c.args.order.now in
    let arrivals : ℕ = length c.args.arrivals.now in
    counts_more c.args.store.now.vars (2 * order) (2 * order + 4 * arrivals + 1) c.args.store.now c.same_bits.new.store (Err c.in-Err.spent) (omega arith) c.in-Err.ensures.counts

pub returns-in-Err-moved-clause-counts : goal.returns-in-Err-moved-clause-counts
returns-in-Err-moved-clause-counts c =
    let order : ℕ = length c.args.order.now in
    let arrivals : ℕ = length c.args.arrivals.now in
    let old = c.args.store.now in
    let mid = c.same_bits.new.store in
    counts_both (2 * order) (2 * arrivals) (2 * order + 4 * arrivals + 1) old mid c.moved.new.store c.in-Ok.end (Err c.in-Err-moved.spent) (omega arith) (same_vars old mid old.words c.in-Ok.ensures.gives.adds)
    c.in-Ok.ensures.counts c.in-Err-moved.ensures.counts

pub returns-in-Err-before-clause-counts : goal.returns-in-Err-before-clause-counts
returns-in-Err-before-clause-counts c =
    near_refused c.args.order.now c.args.arrivals.now c.args.bits.now c.args.store.now c.same_bits.new.store c.moved.new.store c.before-2.new.store c.in-Ok.end c.in-Ok-moved.near c.in-Ok-moved.near
    c.sound.ensures.sound.ends c.in-Ok.ensures.gives c.in-Ok.ensures.counts c.in-Ok-moved.ensures.gives c.in-Ok-moved.ensures.counts c.in-Err-before.spent c.in-Err-before.ensures.counts

pub returns-clause-gives : goal.returns-clause-gives
returns-clause-gives c =
    let all : take (length c.args.bits.now - length c.args.order.now) (drop (length c.args.order.now) c.args.bits.now) ≡ drop (length c.args.order.now) c.args.bits.now =
    (let len = length-drop (length c.args.order.now) c.args.bits.now in take_all (length c.args.bits.now - length c.args.order.now) (drop (length c.args.order.now) c.args.bits.now) (omega (arith, len))) in
    let last = subst (λ (xs : List Bool). Gives c.moved.new.store c.before-2.new.store (compares true c.args.arrivals.now xs) (Ok c.in-Ok-before.less)) all c.in-Ok-before.ensures.gives in
    beside_gives c.args.order.now c.args.arrivals.now c.args.bits.now c.args.store.now c.same_bits.new.store c.moved.new.store c.before-2.new.store c.in-Ok.end c.in-Ok-moved.near c.in-Ok-before.less
    c.sound.ensures.sound.ends c.in-Ok.ensures.gives c.in-Ok.ensures.counts c.in-Ok-moved.ensures.gives c.in-Ok-moved.ensures.counts last c.in-Ok-before.ensures.counts
    c.and.new.store c.and.result c.and.ensures.makes

pub returns-clause-counts : goal.returns-clause-counts
returns-clause-counts c =
    let all : take (length c.args.bits.now - length c.args.order.now) (drop (length c.args.order.now) c.args.bits.now) ≡ drop (length c.args.order.now) c.args.bits.now =
    (let len = length-drop (length c.args.order.now) c.args.bits.now in take_all (length c.args.bits.now - length c.args.order.now) (drop (length c.args.order.now) c.args.bits.now) (omega (arith, len))) in
    let last = subst (λ (xs : List Bool). Gives c.moved.new.store c.before-2.new.store (compares true c.args.arrivals.now xs) (Ok c.in-Ok-before.less)) all c.in-Ok-before.ensures.gives in
    beside_counts c.args.order.now c.args.arrivals.now c.args.bits.now c.args.store.now c.same_bits.new.store c.moved.new.store c.before-2.new.store c.in-Ok.end c.in-Ok-moved.near c.in-Ok-before.less
    c.sound.ensures.sound.ends c.in-Ok.ensures.gives c.in-Ok.ensures.counts c.in-Ok-moved.ensures.gives c.in-Ok-moved.ensures.counts last c.in-Ok-before.ensures.counts
    c.and.new.store c.and.result c.and.ensures.makes
