use Rattle.std.proofs.Common.{ap}
use Rattle.net_places.proofs.CellLaws.{are_within}
use Rattle.net_places.proofs.WholeLaws.{both_ok, is_unrolled, room_by}
use Rattle.net_places.proofs.whole.unroll.Goals as goal

pub whole_globals-requires : goal.whole_globals-requires
whole_globals-requires c = record { netlist = c.requires.netlist; tables = c.requires.tables; first = c.in_ok-ports.ensures.next_is; small = c.requires.small }

pub places_of-requires : goal.places_of-requires
places_of-requires c = record {
  within = are_within c.args.design.now c.args.rules.now c.args.tables.now c.requires.tables;
  room =
      room_by c.args.design.now c.args.rules.now c.args.tables.now c.requires.tables c.args.cell c.in_ok-ports.ports.nets c.in_ok-globals.globals.nets c.in_ok-globals.globals.next
      c.whole_place-whole.result c.whole_place-whole.ensures c.requires.small c.in_ok-globals.ensures;
  outermost = ap (λ place. place.depth) c.whole_place-whole.ensures;
}

pub returns : goal.returns
returns c =
    both_ok c.places_of.result _ _ _ (λ unrolled places globals roles.
    is_unrolled c.args.design.now c.args.rules.now c.args.tables.now c.requires.tables c.args.cell c.requires.there c.in_ok-ports.ports.nets c.in_ok-globals.globals.nets c.in_ok-ports.ports.next
    c.in_ok-globals.globals.next c.whole_place-whole.result unrolled roles c.in_ok-ports.ensures c.in_ok-globals.ensures c.whole_place-whole.ensures places globals)
    c.places_of.ensures.places c.places_of.ensures.globals
