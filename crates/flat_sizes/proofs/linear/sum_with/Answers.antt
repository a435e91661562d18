use Rattle.std.proofs.Common.{arith, get_or, refl}
use Rattle.flat_sizes.proofs.StandLaws.{all_summed, one_summed}
use Rattle.flat_sizes.specs.Totals.{nets_weight}
use Rattle.flat_sizes.specs.declared.stands.Stand.{Stand}
use Rattle.flat_sizes.proofs.linear.sum_with.Goals as goal

pub loop-stand-preserved : goal.loop-stand-preserved
loop-stand-preserved c =
    let none : Stand = record { cell = 0; count = 0 } in
    record {
      so_far = one_summed (nets_weight c.args.design.now c.args.rules.now) c.args.stands.now c.loop-stand.stand-index (get_or c.args.stands.now c.loop-stand.stand-index none) none c.loop-stand.sum _ _ (omega arith) refl c.in_ok-weight.ensures
          c.saturating_add-sum.ensures c.loop-stand.invariant.so_far;
      small = omega (arith, c.saturating_add-sum.ensures);
    }

pub returns : goal.returns
returns c = all_summed (nets_weight c.args.design.now c.args.rules.now) c.args.stands.now c.loop-stand.stand-index c.loop-stand.sum (omega arith) c.loop-stand.invariant.small c.loop-stand.invariant.so_far
