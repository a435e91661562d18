use Rattle.std.proofs.Common.{refl}
use Rattle.phase_ports.proofs.DontCareLaws.{putting_step, putting_within}
use Rattle.phase_ports.proofs.dontcares.put_bits.Goals as goal

pub dontcares-init : goal.dontcares-init
dontcares-init c = record { within = c.requires; is = λ n. refl }

pub put_bit-requires : goal.put_bit-requires
put_bit-requires c =
    putting_within c.args.dontcares.now c.args.bits.now.items c.dontcares.rest.now c.dontcares.bits.items c.dontcares.invariant c.in-Some.dontcare.now c.in-Some.behind.now c.in-Some.ensures.cases.0

pub dontcares-preserved : goal.dontcares-preserved
dontcares-preserved c =
    putting_step c.args.dontcares.now c.args.bits.now.items c.dontcares.rest.now c.dontcares.bits.items c.dontcares.invariant c.in-Some.dontcare.now c.in-Some.behind.now c.put_bit.new.bits.items
    c.in-Some.ensures.cases.0 c.put_bit.ensures.len c.put_bit.ensures.is
