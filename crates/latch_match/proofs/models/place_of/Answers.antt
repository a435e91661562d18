use Rattle.std.proofs.Common.{ap, ◌∙◌}
use Rattle.std.specs.Prelude.{bytes_eq, find}
use Rattle.vrt_model.specs.declared.rules.PairRule.{PairRule}
use Rattle.rule_index.proofs.PairLaws.{place_some}
use Rattle.latch_match.proofs.models.place_of.Goals as goal

pub returns-in-Some : goal.returns-in-Some
returns-in-Some c =
    place_some c.args.blif.now c.args.cell.now c.in-Some.rule.now _ c.as_slice-models.result.now c.named_by.result
    (c.in-Some.ensures ∙ ap (find (λ (r : PairRule). bytes_eq r.cell c.args.cell.now)) c.as_slice.ensures) c.as_slice-models.ensures c.named_by.ensures
