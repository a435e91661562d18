use Rattle.std.proofs.Common.{List, ap, arith, length}
use Rattle.channel_parts.specs.declared.part.Part.{Part}
use Rattle.vrt_model.proofs.Lists.{item_at}
use Rattle.circuit_faults.proofs.phased.part_at.Goals as goal

pub returns : goal.returns
returns c =
    let same = ap (λ (xs : List Part). length xs) c.as_slice.ensures in
    item_at c.args.parts.now.list c.as_slice.result.now c.args.number c.index-as_slice-number.result c.as_slice.ensures (omega (arith, c.requires, same)) c.index-as_slice-number.is
