use Rattle.std.proofs.Common.{◌++◌, ap, sym, ◌∙◌, arith}
use Rattle.vrt_model.specs.VerdictText.{spaced}
use Rattle.witness.proofs.Spaces.{spaced_behind, spaced_to_end}
use Rattle.witness.proofs.verdict_lines.spread.Goals as goal

pub returns : goal.returns
returns c =
    spaced_to_end c.loop-word.text c.in-Some.first.now c.in-Some.rest.now c.loop-word.word-index (omega arith)
    (c.loop-word.invariant ∙ ap (λ t. t ++ spaced_behind c.in-Some.rest.now) (c.in_ok-text.ensures ∙ c.as_bytes.ensures))
    ∙ ap spaced (sym c.in-Some.ensures.cases.0)
