use Rattle.std.proofs.Common.{◌≡◌, ℕ, ◌*◌, ◌<◌, false, All, List, [], ◌∷◌, Err, length, arith, ap, refl, sym, subst, ◌+◌}
use Rattle.bdd_core.proofs.Frames.{span_written}
use Rattle.bdd_core.specs.Store.{IsSpan}
use Rattle.bdd_core.specs.Words.{Writes}
use Rattle.bdd_ops.proofs.CountingLaws.{counted_more, counted_none, counts_more, counts_ok, counts_then}
use Rattle.path_fixpoint.specs.declared.words.NetWords.{NetWords}
use Rattle.bdd_ops.specs.Counting.{Counts}
use Rattle.output_levels.proofs.AlwaysLaws.{written_care}
use Rattle.output_levels.proofs.PartLevelLaws.{in_added, in_front, in_none, in_then, none_told, part_range, part_spans, part_told}
use Rattle.output_levels.specs.PartLevels.{level_operations}
use Rattle.std.proofs.lemmas.Result.{IfOk-weaker}
use Rattle.path_fixpoint.proofs.SpendingLaws.{part_gates_within}
use Rattle.path_fixpoint.specs.Strengths.{HasSpans, net_words}
use Rattle.vrt_model.specs.Levels.{source_level}
use Rattle.vrt_model.specs.Lists.{At, mark_at}
use Rattle.vrt_model.specs.declared.ids.Net.{Net}
use Rattle.output_levels.proofs.parts.part_levels.Goals as goal

pub has_asked-wanted-requires : goal.has_asked-wanted-requires
has_asked-wanted-requires c =
    subst (All (λ (n : Net). n.0 < length c.args.asked.now)) (sym c.as_slice.ensures) (part_range c.args.circuit.now c.args.part.now c.requires.part c.args.asked.now c.requires.asked.0)

pub words_of-words-requires : goal.words_of-words-requires
words_of-words-requires c = c.requires.spans.room c.args.part.now (0, refl)

pub strengths-requires-clause-spans : goal.strengths-requires-clause-spans
strengths-requires-clause-spans c =
    subst (λ (w : NetWords). HasSpans c.args.circuit.now c.args.part.now c.args.gates w c.args.store.now) (sym c.words_of-words.ensures)
    (part_spans c.args.circuit.now c.args.part.now (c.args.part.now ∷ []) c.args.gates c.args.out c.args.store.now c.requires.spans (0, refl))

pub judge_part-requires-clause-nets : goal.judge_part-requires-clause-nets
judge_part-requires-clause-nets c = part_range c.args.circuit.now c.args.part.now c.requires.part c.args.asked.now c.requires.asked.0

pub judge_part-requires-clause-care : goal.judge_part-requires-clause-care
judge_part-requires-clause-care c = (let live = c.requires.care in let longer = c.strengths.ensures.writes.adds.longer in omega (arith, live, longer))

pub judge_part-requires-clause-out : goal.judge_part-requires-clause-out
judge_part-requires-clause-out c =
    let spans = part_spans c.args.circuit.now c.args.part.now (c.args.part.now ∷ []) c.args.gates c.args.out c.args.store.now c.requires.spans (0, refl) in (
      span_written c.words_of-words.result.span c.words_of-words.result.span c.args.store.now c.strengths.new.store c.strengths.ensures.writes
          (subst (λ (w : NetWords). IsSpan c.args.store.now w.span) (sym c.words_of-words.ensures) spans.out_span),
      c.strengths.ensures.writes.live,
      subst (λ (w : NetWords). w.span.len ≡ net_words w.source * length c.args.part.now.nets) (sym c.words_of-words.ensures) refl,
      search,
    )

pub returns-then-not-wanted-clause-writes : goal.returns-then-not-wanted-clause-writes
returns-then-not-wanted-clause-writes c = in_none c.args.out c.args.store.now c.sound.ensures.sound c.sound.ensures.within

pub returns-then-not-wanted-clause-gives : goal.returns-then-not-wanted-clause-gives
returns-then-not-wanted-clause-gives c =
    none_told c.args.circuit.now c.args.part.now c.args.asked.now c.args.gates c.args.care c.args.store.now c.args.levels.now.items
    (subst (λ (ns : List Net). (i : ℕ) (n : Net) → At ns i n → mark_at c.args.asked.now n.0 ≡ false) c.as_slice.ensures (c.has_asked-wanted.ensures c.if-not-wanted.true))

pub returns-then-not-wanted-clause-few : goal.returns-then-not-wanted-clause-few
returns-then-not-wanted-clause-few c u care gates =
    counts_ok u (level_operations c.args.circuit.now c.args.part.now) c.args.store.now c.args.store.now _
    (counted_more u 0 (level_operations c.args.circuit.now c.args.part.now) c.args.store.now c.args.store.now (omega arith) (counted_none u c.args.store.now))

pub returns-in-Err-clause-writes : goal.returns-in-Err-clause-writes
returns-in-Err-clause-writes c =
    in_front c.args.out c.args.store.now c.strengths.new.store (net_words (source_level c.args.circuit.now) * length c.args.part.now.nets) (c.requires.spans.room c.args.part.now (0, refl))
    (subst (λ (w : NetWords). Writes w.span c.args.store.now c.strengths.new.store) c.words_of-words.ensures c.strengths.ensures.writes)

pub returns-in-Err-clause-few : goal.returns-in-Err-clause-few
returns-in-Err-clause-few c u care gates =
    let size = source_level c.args.circuit.now * (length c.args.part.now.nets * (length c.args.part.now.devices * 4)) in
    counts_more u size (level_operations c.args.circuit.now c.args.part.now) c.args.store.now c.strengths.new.store (Err c.in-Err.spent) (omega arith) (c.in-Err.ensures.few u (part_gates_within u c.args.circuit.now c.args.part.now c.requires.circuit c.args.gates c.args.store.now c.requires.spans.gates_len gates)).counts

pub returns-clause-writes : goal.returns-clause-writes
returns-clause-writes c =
    in_then c.args.out c.args.store.now c.strengths.new.store c.judge_part.new.store
    (in_front c.args.out c.args.store.now c.strengths.new.store (net_words (source_level c.args.circuit.now) * length c.args.part.now.nets) (c.requires.spans.room c.args.part.now (0, refl))
    (subst (λ (w : NetWords). Writes w.span c.args.store.now c.strengths.new.store) c.words_of-words.ensures c.strengths.ensures.writes))
    (in_added c.args.out c.strengths.new.store c.judge_part.new.store c.judge_part.ensures.adds)

pub returns-clause-gives : goal.returns-clause-gives
returns-clause-gives c =
    IfOk-weaker c.judge_part.result _ _
    (λ x judged.
    part_told c.args.circuit.now c.args.part.now c.requires.circuit c.requires.part c.args.gates c.words_of-words.result (ap (λ (w : NetWords). w.source) c.words_of-words.ensures) c.args.care c.args.store.now c.strengths.new.store c.requires.care c.strengths.ensures.writes
    c.in-Ok.ensures.strengths c.args.asked.now c.args.levels.now.items c.judge_part.new.levels.items judged)
    c.judge_part.ensures.gives

pub returns-clause-few : goal.returns-clause-few
returns-clause-few c u care gates =
    let size = source_level c.args.circuit.now * (length c.args.part.now.nets * (length c.args.part.now.devices * 4)) in
    let spends = c.in-Ok.ensures.few u (part_gates_within u c.args.circuit.now c.args.part.now c.requires.circuit c.args.gates c.args.store.now c.requires.spans.gates_len gates) in
    counts_then u size ((source_level c.args.circuit.now + 1) * length c.args.part.now.nets) c.args.store.now c.strengths.new.store c.judge_part.new.store c.judge_part.result spends.counts.added
    (subst (λ (l : ℕ). Counts u ((l + 1) * length c.args.part.now.nets) c.strengths.new.store c.judge_part.new.store c.judge_part.result) (ap (λ (w : NetWords). w.source) c.words_of-words.ensures)
    (c.judge_part.ensures.few u (written_care u c.words_of-words.result.span c.args.store.now c.strengths.new.store c.args.care c.strengths.ensures.writes c.requires.care care) spends.within))
