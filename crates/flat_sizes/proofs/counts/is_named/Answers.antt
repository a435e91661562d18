use Rattle.std.proofs.Common.{arith, get_or, refl}
use Rattle.flat_sizes.proofs.CountLaws.{none_left, one_found, one_less}
use Rattle.flat_sizes.specs.declared.stands.Stand.{Stand}
use Rattle.flat_sizes.proofs.counts.is_named.Goals as goal

pub loop-stand-preserved : goal.loop-stand-preserved
loop-stand-preserved c =
    let none : Stand = record { cell = 0; count = 0 } in
    one_less c.args.design.now c.args.rules.now c.args.name.now c.args.stands.now c.loop-stand.stand-index (get_or c.args.stands.now c.loop-stand.stand-index none) none _ (omega arith) refl
    c.is_named_at.ensures c.if-is_named_at.false c.loop-stand.invariant

pub returns-then-is_named_at : goal.returns-then-is_named_at
returns-then-is_named_at c =
    let none : Stand = record { cell = 0; count = 0 } in
    one_found c.args.design.now c.args.rules.now c.args.name.now c.args.stands.now c.loop-stand.stand-index (get_or c.args.stands.now c.loop-stand.stand-index none) none _ (omega arith) refl
    c.is_named_at.ensures c.if-is_named_at.true c.loop-stand.invariant

pub returns : goal.returns
returns c = none_left c.args.design.now c.args.rules.now c.args.name.now c.args.stands.now c.loop-stand.stand-index (omega arith) c.loop-stand.invariant
