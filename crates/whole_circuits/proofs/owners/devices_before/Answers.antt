use Rattle.std.proofs.Common.{◌+◌, ◌-◌, ◌/◌, ◌<◌, ◌≤◌, ℕ, List, length, arith, subst, sym}
use Rattle.whole_circuits.proofs.OwnerLaws.{above, below, no_more}
use Rattle.whole_circuits.specs.Shown.{devices_before}
use Rattle.whole_circuits.proofs.owners.devices_before.Goals as goal

pub halves-init : goal.halves-init
halves-init c =
    (omega arith, omega arith, λ t is. (omega arith, subst (λ (os : List ℕ). devices_before t c.args.place ≤ length os) (sym is) (no_more t c.args.place)))

pub halves-preserved-then-places-middle : goal.halves-preserved-then-places-middle
halves-preserved-then-places-middle c =
    let low = c.halves.low in
    let high = c.halves.high in
    let lt = c.halves-test.true in
    let room = c.halves.invariant.1 in
    let half : (high - low) / 2 < high - low = omega (arith, lt) in
    let middle = low + (high - low) / 2 in
    let within : middle < length c.args.places.now = omega (arith, lt, half, room) in (
      omega (arith, lt, half),
      room,
      λ t is. (below t c.args.place c.args.places.now middle is within c.if-places-middle.true, (c.halves.invariant.2 t is).1),
    )

pub halves-preserved : goal.halves-preserved
halves-preserved c =
    let low = c.halves.low in
    let high = c.halves.high in
    let lt = c.halves-test.true in
    let room = c.halves.invariant.1 in
    let half : (high - low) / 2 < high - low = omega (arith, lt) in
    let middle = low + (high - low) / 2 in
    let within : middle < length c.args.places.now = omega (arith, lt, half, room) in (
      omega arith,
      omega (arith, within),
      λ t is. ((c.halves.invariant.2 t is).0, above t c.args.place c.args.places.now middle is within c.if-places-middle.false),
    )
