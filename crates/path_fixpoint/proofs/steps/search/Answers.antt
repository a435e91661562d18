use Rattle.std.proofs.Common.{◌≡◌, ◌≢◌, ℕ, ◌+◌, ◌-◌, ◌<◌, ◌/◌, List, arith, ap}
use Rattle.vrt_model.specs.declared.ids.Net.{Net}
use Rattle.path_fixpoint.proofs.RangeLaws.{above_from, absent_from, below_from, net_at}
use Rattle.path_fixpoint.proofs.steps.search.Goals as goal

pub halves-preserved-then-here-net-2 : goal.halves-preserved-then-here-net-2
halves-preserved-then-here-net-2 c =
    let part = c.args.part.now in
    let i = c.halves.invariant in
    let middle : ℕ = c.halves.low + (c.halves.high - c.halves.low) / 2 in
    let inside : middle < c.halves.high = omega (arith, c.halves-test.true) in
    let shown : net_at c.as_slice-nets.result.now middle ≡ net_at part.nets middle = ap (λ (xs : List Net). net_at xs middle) c.as_slice-nets.ensures in
    let here : net_at c.as_slice-nets.result.now middle < c.args.net.0 = c.if-here-net-2.true in
    record {
      order = omega (arith, inside);
      inside = i.inside;
      below = below_from part c.requires c.args.net.0 middle (omega (arith, inside, i.inside)) (omega (arith, here, shown));
      above = i.above;
    }

pub halves-preserved : goal.halves-preserved
halves-preserved c =
    let part = c.args.part.now in
    let i = c.halves.invariant in
    let middle : ℕ = c.halves.low + (c.halves.high - c.halves.low) / 2 in
    let inside : middle < c.halves.high = omega (arith, c.halves-test.true) in
    let shown : net_at c.as_slice-nets.result.now middle ≡ net_at part.nets middle = ap (λ (xs : List Net). net_at xs middle) c.as_slice-nets.ensures in
    let other : net_at c.as_slice-nets.result.now middle ≢ c.args.net.0 = c.if-here-net.false in
    let more : c.args.net.0 < net_at part.nets middle = omega (arith, shown, other, c.if-here-net-2.false) in
    record {
      order = omega arith;
      inside = omega (arith, inside, i.inside);
      below = i.below;
      above = above_from part c.requires c.args.net.0 middle more;
    }

pub returns-clause-none : goal.returns-clause-none
returns-clause-none c e =
    absent_from c.args.part.now c.args.net.0 c.halves.low c.halves.high (omega (arith, c.halves-test.false)) c.halves.invariant.below c.halves.invariant.above
