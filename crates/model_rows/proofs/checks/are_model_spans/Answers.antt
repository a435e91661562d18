use Rattle.std.proofs.Common.{◌≡◌, List, ap, sym, ◌∙◌}
use Rattle.std.specs.Prelude.{sum_by}
use Rattle.blif_eval.proofs.LatchLaws.{names_length}
use Rattle.vrt_model.specs.Elements.{element_count}
use Rattle.vrt_model.specs.declared.flat_model.FlatLatch.{FlatLatch}
use Rattle.model_rows.proofs.checks.are_model_spans.Goals as goal

pub are_long-requires : goal.are_long-requires
are_long-requires c =
    let flat = c.args.flat.now in
    let made : c.in-Some.elements ≡ sum_by (λ (l : FlatLatch). element_count l.kind) c.as_slice.result.now = c.in-Some.ensures in
    record { elements = made ∙ ap (λ (ls : List FlatLatch). sum_by (λ (l : FlatLatch). element_count l.kind) ls) c.as_slice.ensures ∙ sym (names_length flat) }
