use Rattle.std.proofs.Common.{arith, refl}
use Rattle.prepared_tables.proofs.NotedLaws.{all_noted, more_noted}
use Rattle.prepared_tables.specs.ModelNames.{low_name}
use Rattle.prepared_tables.proofs.by_name.add_all_lowered.Goals as goal

pub loop-place-preserved : goal.loop-place-preserved
loop-place-preserved c =
    more_noted low_name c.args.models.now c.loop-place.place c.index-models-place.result (low_name c.index-models-place.result) _ c.loop-place.table _ (omega arith) c.index-models-place.is refl c.number_at.ensures
    c.loop-place.invariant c.in_ok-add_lowered.ensures

pub returns : goal.returns
returns c = all_noted low_name c.args.models.now c.loop-place.place c.loop-place.table (omega arith) c.loop-place.invariant
