use Rattle.std.proofs.Common.{arith}
use Rattle.net_places.proofs.WholeLaws.{from_none}
use Rattle.net_places.specs.Places.{all_below, all_own}
use Rattle.net_places.proofs.whole.unroll_whole.Goals as goal

pub unroll_from-requires : goal.unroll_from-requires
unfolding all_own
unroll_from-requires c = record { within = c.requires.within; room = c.requires.room; deep = omega (arith, c.requires.outermost) }

pub returns : goal.returns
unfolding all_below
returns c = from_none c.args.design.now c.args.tables.now c.args.globals.now 32 c.args.whole.now c.args.places.now c.unroll_from.new.places c.requires.none c.in_ok-unroll_from.ensures.places
