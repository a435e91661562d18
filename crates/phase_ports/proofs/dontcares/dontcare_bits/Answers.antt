use Rattle.phase_ports.proofs.DontCareLaws.{bits_put, bits_within}
use Rattle.phase_ports.proofs.dontcares.dontcare_bits.Goals as goal

pub put_bits-requires : goal.put_bits-requires
put_bits-requires c =
    bits_within c.args.model.now c.as_slice.result.now c.in_ok-bits.bits.items c.len.result c.as_slice.ensures c.in_ok-bits.ensures c.requires c.len.ensures

pub returns : goal.returns
returns c =
    bits_put c.args.model.now c.as_slice.result.now c.in_ok-bits.bits.items c.len.result c.as_slice.ensures c.in_ok-bits.ensures c.put_bits.new.bits.items c.put_bits.ensures
