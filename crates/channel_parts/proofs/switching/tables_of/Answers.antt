use Rattle.std.proofs.Common.{◌+◌, refl, subst, sym, take}
use Rattle.channel_parts.proofs.PhaseTableLaws.{tables_more}
use Rattle.channel_parts.specs.PhaseTables.{AreTables}
use Rattle.vrt_model.proofs.Lists.{item_at}
use Rattle.vrt_model.specs.Lists.{At}
use Rattle.channel_parts.proofs.switching.tables_of.Goals as goal

pub loop-phase-preserved : goal.loop-phase-preserved
loop-phase-preserved c =
    let phases = c.args.phases.now in
    let at = c.loop-phase.phase-index in
    let there : At phases at c.phase-item.result = item_at phases phases at c.phase-item.result refl c.loop-phase-test.true c.phase-item.is in
    subst (AreTables c.args.circuit.now (take (at + 1) phases)) (sym c.in_ok-append.ensures)
    (tables_more c.args.circuit.now phases c.loop-phase.tables at c.phase-item.result c.in_ok-table.table there c.loop-phase.invariant c.in_ok-table.ensures)
