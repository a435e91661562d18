use Rattle.std.proofs.Common.{arith, refl}
use Rattle.hold_groups.proofs.GroupingLaws.{next_place}
use Rattle.hold_groups.proofs.grouping.add_holds.Goals as goal

pub loop-place-preserved : goal.loop-place-preserved
loop-place-preserved c =
    next_place c.args.circuit.now c.args.elements.now.list c.loop-place.place-index c.args.places.now _ c.loop-place.keys c.add_at.new.keys c.loop-place.groups.items c.add_at.new.groups.items c.requires.places (let test = c.loop-place-test.true in omega (arith, test)) refl c.loop-place.invariant c.in_ok-add_at.ensures
