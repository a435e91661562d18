use Rattle.std.proofs.Common.{◌<◌, length, subst, sym}
use Rattle.std.specs.Prelude.{IfOk}
use Rattle.cell_room.proofs.ReadyLaws.{ready}
use Rattle.domino_order.specs.Arrivals.{AreRising, ArrivalTells}
use Rattle.phase_terms.specs.Ready.{IsReady}
use Rattle.rule_index.specs.Tables.{AreRuleTables}
use Rattle.vrt_model.specs.Circuits.{IsFlat}
use Rattle.vrt_model.specs.Comparison.{Comparison}
use Rattle.vrt_model.specs.Equal.{IsPhaseEqual}
use Rattle.vrt_model.specs.declared.blif.Blif.{Blif}
use Rattle.domino_cells.proofs.cells.monotone_made.Goals as goal

pub monotone_with-requires-clause-ready : goal.monotone_with-requires-clause-ready
monotone_with-requires-clause-ready c =
    let made = c.requires.made in
    subst IsReady (sym c.flat_comparison-compared.ensures.comparison) (ready c.args.design.now made.0 c.args.rules.now c.args.cell made.1 c.args.flattened.now made.2 made.3)

pub monotone_with-requires-clause-flat : goal.monotone_with-requires-clause-flat
monotone_with-requires-clause-flat c = subst (λ (k : Comparison). IsFlat k.circuit) (sym c.flat_comparison-compared.ensures.comparison) c.requires.made.3.flat

pub monotone_with-requires-clause-tables : goal.monotone_with-requires-clause-tables
monotone_with-requires-clause-tables c = subst (λ (k : Comparison). AreRuleTables k.rules c.args.index.now) (sym c.flat_comparison-compared.ensures.comparison) c.requires.tables

pub monotone_with-requires-clause-phase : goal.monotone_with-requires-clause-phase
monotone_with-requires-clause-phase c = subst (λ (k : Comparison). c.args.phase < length k.rules.phases) (sym c.flat_comparison-compared.ensures.comparison) c.requires.phase

pub monotone_with-requires-clause-equal : goal.monotone_with-requires-clause-equal
monotone_with-requires-clause-equal c = subst (λ (k : Comparison). IsPhaseEqual k c.args.phase) (sym c.flat_comparison-compared.ensures.comparison) c.requires.equal

pub monotone_with-requires-clause-rising : goal.monotone_with-requires-clause-rising
monotone_with-requires-clause-rising c = subst (λ (k : Comparison). AreRising k c.args.rising.now) (sym c.flat_comparison-compared.ensures.comparison) c.requires.rising

pub returns : goal.returns
returns c = record {
  tells =
      subst (λ (k : Comparison). IfOk c.monotone_with.result (λ a. (blif : Blif) → ArrivalTells k blif c.args.budget c.args.phase c.args.rising.now a)) c.flat_comparison-compared.ensures.comparison
      c.monotone_with.ensures.tells;
}
