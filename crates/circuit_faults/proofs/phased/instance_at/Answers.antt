use Rattle.std.proofs.Common.{List, ap, arith, length}
use Rattle.vrt_model.proofs.Lists.{item_at}
use Rattle.vrt_model.specs.declared.circuit.FlatInstance.{FlatInstance}
use Rattle.circuit_faults.proofs.phased.instance_at.Goals as goal

pub returns : goal.returns
returns c =
    let same = ap (λ (xs : List FlatInstance). length xs) c.as_slice.ensures in
    item_at c.args.circuit.now.instances c.as_slice.result.now c.args.at c.index-as_slice-at.result c.as_slice.ensures (omega (arith, c.requires, same)) c.index-as_slice-at.is
