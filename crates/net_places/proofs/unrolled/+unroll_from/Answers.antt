use Rattle.std.proofs.Common.{◌≡◌, ◌++◌, ◌+◌, ◌-◌, suc, length, refl, ap, sym, ◌∙◌, arith}
use Rattle.std.proofs.lemmas.Option.{slice_get_read}
use Rattle.net_places.proofs.UnrollLaws.{all_there, nets_there, room_at, room_for, room_inner, turn_at}
use Rattle.net_places.specs.Places.{own_below, places_below}
use Rattle.net_places.proofs.unrolled.+unroll_from.Goals as goal

pub place_inside-requires : goal.place_inside-requires
place_inside-requires t c = record {
  room =
      room_for c.args.design.now c.args.tables.now c.requires.within c.args.depth c.args.place.now.cell c.args.place.now.base c.requires.room c.in-Some.nets.now
      (nets_there c.args.design.now c.args.tables.now c.args.place.now.cell c.in-Some.nets.now (sym c.in-Some.ensures)) c.as_slice-instance-items.result.now c.loop-card.card c.instance-item.result _
      c.as_slice-instance-items.ensures (slice_get_read c.as_slice-instance-items.result.now _ c.loop-card.card _ refl (omega arith) c.instance-item.is) refl;
  deep = omega (arith, c.requires.deep, c.if-depth-eq0.false);
}

pub unroll_from-requires : goal.unroll_from-requires
unroll_from-requires t c =
    let depth : suc (c.args.depth - 1) ≡ c.args.depth = omega (arith, c.if-depth-eq0.false) in
    let same = ap (λ d. c.args.place.now.base + own_below c.args.tables.now d c.args.place.now.cell) depth in
    let room = room_at c.args.design.now c.args.tables.now c.args.globals.now (c.args.depth - 1) c.len-number.result c.args.place.now c.loop-card.card c.as_slice-instance-items.result.now
    c.instance-item.result c.loop-card.next c.loop-card.places _ _ (omega arith)
    (slice_get_read c.as_slice-instance-items.result.now _ c.loop-card.card _ refl (omega arith) c.instance-item.is) c.loop-card.invariant in (
      omega (arith, c.decreases),
      (
        c.requires.within,
        (
          room_inner c.args.design.now c.args.tables.now c.args.globals.now (c.args.depth - 1) c.len-number.result c.args.place.now c.loop-card.card c.instance-item.result c.in_ok-inner.inner
              c.loop-card.next _ _ c.in_ok-inner.ensures room same c.requires.room,
          let inner = ap (λ place. place.depth) c.in_ok-inner.ensures in let deep = c.requires.deep in omega (arith, inner, deep, depth),
        ),
      ),
    )

pub loop-card-preserved : goal.loop-card-preserved
loop-card-preserved t c =
    turn_at c.args.design.now c.args.tables.now c.args.globals.now (c.args.depth - 1) c.len-number.result c.args.place.now c.loop-card.card c.as_slice-instance-items.result.now c.instance-item.result
    c.in_ok-inner.inner c.loop-card.next c.in_ok-next.next c.loop-card.places c.unroll_from.new.places _ _ (omega arith)
    (slice_get_read c.as_slice-instance-items.result.now _ c.loop-card.card _ refl (omega arith) c.instance-item.is)
    c.in_ok-inner.ensures c.loop-card.invariant c.in_ok-next.ensures.places c.in_ok-next.ensures.next

pub returns-clause-places : goal.returns-clause-places
returns-clause-places t c =
    let depth : suc (c.args.depth - 1) ≡ c.args.depth = omega (arith, c.if-depth-eq0.false) in
    (all_there c.args.design.now c.args.tables.now c.args.globals.now (c.args.depth - 1) c.len-number.result c.args.place.now c.loop-card.card c.as_slice-instance-items.result.now c.loop-card.next c.loop-card.places _ _
    (omega (arith, c.loop-card-test.false)) c.loop-card.invariant).0
    ∙ ap (λ d. c.args.places.now ++ places_below c.args.design.now c.args.tables.now c.args.globals.now d (length c.args.places.now) c.args.place.now) depth

pub returns-clause-next : goal.returns-clause-next
returns-clause-next t c =
    let depth : suc (c.args.depth - 1) ≡ c.args.depth = omega (arith, c.if-depth-eq0.false) in
    (all_there c.args.design.now c.args.tables.now c.args.globals.now (c.args.depth - 1) c.len-number.result c.args.place.now c.loop-card.card c.as_slice-instance-items.result.now c.loop-card.next c.loop-card.places _ _
    (omega (arith, c.loop-card-test.false)) c.loop-card.invariant).1
    ∙ ap (λ d. c.args.place.now.base + own_below c.args.tables.now d c.args.place.now.cell) depth
