use Rattle.std.proofs.Common.{arith}
use Rattle.prepared_tables.proofs.NotedLaws.{all_noted, more_noted}
use Rattle.prepared_tables.specs.ModelNames.{own_name}
use Rattle.prepared_tables.proofs.by_name.add_all.Goals as goal

pub loop-place-preserved : goal.loop-place-preserved
loop-place-preserved c =
    more_noted own_name c.args.models.now c.loop-place.place c.index-models-place.result _ _ c.loop-place.table _ (omega arith) c.index-models-place.is c.as_bytes.ensures c.number_at.ensures
    c.loop-place.invariant c.in_ok-add.ensures

pub returns : goal.returns
returns c = all_noted own_name c.args.models.now c.loop-place.place c.loop-place.table (omega arith) c.loop-place.invariant
