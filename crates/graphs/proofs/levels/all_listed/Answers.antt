use Rattle.std.proofs.Common.{◌≡◌, ℕ, ◌+◌, ◌<◌, ◌++◌, ◌∷◌, [], List, length, arith, ap, subst, sym, ◌∙◌}
use Rattle.std.proofs.lemmas.List.{length-append}
use Rattle.graphs.proofs.LevelLaws.{each_more, listed_more}
use Rattle.graphs.specs.declared.levels.Waiter.{Waiter}
use Rattle.vrt_model.specs.Lists.{At, Among}
use Rattle.graphs.proofs.levels.all_listed.Goals as goal

pub loop-number-preserved : goal.loop-number-preserved
loop-number-preserved c =
    let queue = c.loop-number.queue in
    let k = c.loop-number.number in
    let waiter : Waiter = record { node = c.in_ok-node.node; from = 0 } in
    let new : c.add.new.list ≡ queue ++ waiter ∷ [] = c.in_ok-add.ensures in
    record {
      len = ap length new ∙ (let e = length-append queue (waiter ∷ []) in omega (arith, e, c.loop-number.invariant.len));
      all = subst (λ (q : List Waiter). (n : ℕ) → n < k + 1 → (w : Waiter) × At q n w × (w.node ≡ n)) (sym new)
          (listed_more queue k c.in_ok-node.node c.in_ok-node.ensures c.loop-number.invariant.len c.loop-number.invariant.all);
      each = subst (λ (q : List Waiter). (w : Waiter) → Among q w → (w.node < k + 1) × (w.from ≡ 0)) (sym new) (each_more queue k c.in_ok-node.node c.in_ok-node.ensures c.loop-number.invariant.each);
    }
