use Rattle.std.proofs.Common.{◌*◌, ◌+◌, ◌≤◌, length, arith, refl, sym, ◌∙◌}
use Rattle.std.proofs.lemmas.Bool.Decides.{nat_tests}
use Rattle.path_fixpoint.specs.Strengths.{net_words}
use Rattle.std.proofs.lemmas.Bool.{eqb-true}
use Rattle.vrt_model.proofs.Lists.{no_items}
use Rattle.phase_rows.proofs.SpanLaws.{spans_are}
use Rattle.vrt_model.specs.Levels.{source_level}
use Rattle.phase_rows.proofs.spans.spans_in.Goals as goal

pub returns : goal.returns
returns c =
    let nets = length c.args.circuit.now.nets in
    let enough : 4 * nets + net_words (source_level c.args.circuit.now) * nets ≤ c.args.whole.len = (let h = c.if-whole-word_count.false in let w = c.word_count.ensures in grind (arith, nat_tests)) in
    spans_are c.args.circuit.now c.args.parts.now.list c.args.whole c.spans_of.result c.args.store.now c.spans_of.ensures enough (c.if-not-is_live.ensures refl)
    (c.if-not-are_live.ensures refl) (c.if-not-are_within.ensures refl)
    (no_items c.args.circuit.now.wholes (eqb-true (length c.args.circuit.now.wholes) 0 (sym c.is_empty.ensures ∙ c.if-not-is_empty.false)))
