-- A rule that is found decides by its model; where none is, no cell is skipped.
use Rattle.std.proofs.Common.{ap, ◌∙◌}
use Rattle.std.specs.Prelude.{bytes_eq, find}
use Rattle.vrt_model.specs.declared.rules.PairRule.{PairRule}
use Rattle.rule_index.proofs.PairLaws.{ruled_skipped, unruled_kept}
use Rattle.latch_match.proofs.models.is_left_out.Goals as goal

pub returns-in-Some : goal.returns-in-Some
returns-in-Some c = λ blif.
    ruled_skipped blif c.args.cell.now c.in-Some.rule.now _ c.is_none.result
    (c.in-Some.ensures ∙ ap (find (λ (r : PairRule). bytes_eq r.cell c.args.cell.now)) c.as_slice.ensures) c.is_none.ensures

pub returns-in-None : goal.returns-in-None
returns-in-None c = λ blif. (
  λ h. cc,
  λ e. absurd (unruled_kept blif c.args.cell.now _ (c.in-None.ensures ∙ ap (find (λ (r : PairRule). bytes_eq r.cell c.args.cell.now)) c.as_slice.ensures) e),
)
