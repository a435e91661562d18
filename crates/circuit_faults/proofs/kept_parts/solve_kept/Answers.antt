use Rattle.std.proofs.Common.{true, false, [], ◌∷◌, length, arith, refl}
use Rattle.bdd_core.proofs.Frames.{span_written}
use Rattle.bdd_ops.proofs.CountingLaws.{counts_ok}
use Rattle.circuit_faults.proofs.KeptWords.{copied_filled, copied_within, counted_copies, inside_range, kept_copied, kept_root_spans, kept_solved, kept_then, part_reached, reach_apart, reach_len, span_rewritten}
use Rattle.path_fixpoint.specs.Spending.{solving_operations}
use Rattle.circuit_faults.proofs.UndrivenKept.{undriven_reached, undriven_spends, undriven_writes}
use Rattle.circuit_faults.proofs.kept_parts.solve_kept.Goals as goal
use Rattle.path_fixpoint.specs.declared.words.NetWords.{NetWords}
use Rattle.path_fixpoint.proofs.SourceLevels.{words_back}
use Rattle.path_fixpoint.proofs.SpendingLaws.{part_gates_within, part_roots_within}
use Rattle.path_fixpoint.specs.Solved.{HasRootSpans, TellsReach, network_at}
use Rattle.bdd_core.specs.Diagram.{Valuation}
use Rattle.std.proofs.Common.{subst, sym}

-- ---- a net that nothing drives

pub returns-in-Some-clause-writes : goal.returns-in-Some-clause-writes
returns-in-Some-clause-writes c =
    undriven_writes c.args.circuit.now c.args.part.now c.in-Some.net c.in-Some.ensures c.args.spans c.args.store.now c.write.new.self c.write-in-Some.new.self c.requires.spans c.write.ensures
    c.write-in-Some.ensures c.sound.ensures.sound c.sound.ensures.within

pub returns-in-Some-clause-gives : goal.returns-in-Some-clause-gives
returns-in-Some-clause-gives c =
    undriven_reached c.args.circuit.now c.args.part.now c.in-Some.net c.in-Some.ensures c.args.spans c.args.store.now c.write.new.self c.write-in-Some.new.self c.requires.spans c.write.ensures
    c.write-in-Some.ensures c.sound.ensures.sound.ends

pub returns-in-Some-clause-few : goal.returns-in-Some-clause-few
returns-in-Some-clause-few c one u gates roots =
    undriven_spends c.args.circuit.now c.args.part.now c.in-Some.net c.in-Some.ensures c.args.spans c.args.store.now c.write.new.self c.write-in-Some.new.self c.requires.spans c.write.ensures
    c.write-in-Some.ensures u (solving_operations c.args.circuit.now c.args.part.now) tt

pub words_of-out-requires : goal.words_of-out-requires
words_of-out-requires c = c.requires.spans.room c.args.part.now (0, refl)

pub solve_part-requires-clause-spans : goal.solve_part-requires-clause-spans
solve_part-requires-clause-spans c =
    let spans = kept_root_spans c.args.circuit.now (c.args.part.now ∷ []) c.args.spans c.args.store.now c.requires.spans c.args.part.now (0, refl) c.words_of-out.result c.words_of-out.ensures in
    subst (λ (w : NetWords). HasRootSpans c.args.circuit.now c.args.part.now c.args.spans.gates c.args.spans.roots w c.args.store.now)
    (sym (words_back c.args.circuit.now c.words_of-out.result spans.spans.source)) spans

pub returns-in-Err-clause-writes : goal.returns-in-Err-clause-writes
returns-in-Err-clause-writes c =
    kept_solved c.args.circuit.now c.args.spans c.args.part.now c.words_of-out.result c.args.store.now c.solve_part.new.store c.words_of-out.ensures (c.requires.spans.room c.args.part.now (0, refl)) c.solve_part.ensures.writes

pub returns-in-Err-clause-few : goal.returns-in-Err-clause-few
returns-in-Err-clause-few c one u gates roots =
    let circuit = c.args.circuit.now in
    let part = c.args.part.now in
    let spans = c.args.spans in
    let old = c.args.store.now in
    let has = kept_root_spans circuit (part ∷ []) spans old c.requires.spans part (0, refl) c.words_of-out.result c.words_of-out.ensures in record {
      counts = (c.in-Err.ensures.few one u (part_gates_within u circuit part c.requires.circuit spans.gates old has.spans.gates_len gates) (part_roots_within u circuit part c.requires.part spans.roots has.roots_len old roots)).counts;
      within = tt;
    }

-- ---- the two copies

pub copy_reach-requires-clause-nets : goal.copy_reach-requires-clause-nets
copy_reach-requires-clause-nets c k d lt = omega (arith, c.requires.part.nets k d lt, c.requires.spans.zeros_len)

pub copy_reach-requires-clause-out : goal.copy_reach-requires-clause-out
copy_reach-requires-clause-out c =
    let spans = kept_root_spans c.args.circuit.now (c.args.part.now ∷ []) c.args.spans c.args.store.now c.requires.spans c.args.part.now (0, refl) c.words_of-out.result c.words_of-out.ensures in
    (span_written c.words_of-out.result.span c.words_of-out.result.span c.args.store.now c.solve_part.new.store c.in-Ok.ensures.writes spans.spans.out_span, c.in-Ok.ensures.writes.live, spans.spans.out_len, search)

pub copy_reach-requires-clause-to : goal.copy_reach-requires-clause-to
copy_reach-requires-clause-to c =
    span_written c.words_of-out.result.span c.args.spans.zeros c.args.store.now c.solve_part.new.store c.in-Ok.ensures.writes c.requires.spans.zeros_span

pub copy_reach-requires-clause-apart : goal.copy_reach-requires-clause-apart
copy_reach-requires-clause-apart c =
    reach_apart c.args.circuit.now (c.args.part.now ∷ []) c.args.spans c.args.store.now c.requires.spans c.args.part.now (0, refl) false c.words_of-out.result c.words_of-out.ensures

pub copy_reach-requires-2-clause-nets : goal.copy_reach-requires-2-clause-nets
copy_reach-requires-2-clause-nets c k d lt = omega (arith, c.requires.part.nets k d lt, c.requires.spans.ones_len)

pub copy_reach-requires-2-clause-out : goal.copy_reach-requires-2-clause-out
copy_reach-requires-2-clause-out c =
    let spans = kept_root_spans c.args.circuit.now (c.args.part.now ∷ []) c.args.spans c.args.store.now c.requires.spans c.args.part.now (0, refl) c.words_of-out.result c.words_of-out.ensures in
    let zeros = c.copy_reach.ensures in (
      span_rewritten c.words_of-out.result.span c.solve_part.new.store c.copy_reach.new.store zeros.rest zeros.len
          (span_written c.words_of-out.result.span c.words_of-out.result.span c.args.store.now c.solve_part.new.store c.in-Ok.ensures.writes spans.spans.out_span),
      copied_filled c.args.part.now false c.words_of-out.result c.args.spans.zeros (length c.args.part.now.nets) c.solve_part.new.store c.copy_reach.new.store (reach_apart c.args.circuit.now (c.args.part.now ∷ []) c.args.spans c.args.store.now c.requires.spans c.args.part.now (0, refl) false c.words_of-out.result c.words_of-out.ensures) c.in-Ok.ensures.writes.live zeros,
      spans.spans.out_len,
      search,
    )

pub copy_reach-requires-2-clause-to : goal.copy_reach-requires-2-clause-to
copy_reach-requires-2-clause-to c =
    let zeros = c.copy_reach.ensures in
    span_rewritten c.args.spans.ones c.solve_part.new.store c.copy_reach.new.store zeros.rest zeros.len
    (span_written c.words_of-out.result.span c.args.spans.ones c.args.store.now c.solve_part.new.store c.in-Ok.ensures.writes c.requires.spans.ones_span)

pub copy_reach-requires-2-clause-apart : goal.copy_reach-requires-2-clause-apart
copy_reach-requires-2-clause-apart c =
    reach_apart c.args.circuit.now (c.args.part.now ∷ []) c.args.spans c.args.store.now c.requires.spans c.args.part.now (0, refl) true c.words_of-out.result c.words_of-out.ensures

-- ---- what is there then

pub returns-clause-writes : goal.returns-clause-writes
returns-clause-writes c =
    let spans = c.args.spans in
    let part = c.args.part.now in
    let out = c.words_of-out.result in
    let old = c.args.store.now in
    let mid = c.solve_part.new.store in
    let next = c.copy_reach.new.store in
    let new = c.copy_reach-2.new.store in
    let solved = kept_solved c.args.circuit.now spans part out old mid c.words_of-out.ensures (c.requires.spans.room part (0, refl)) c.in-Ok.ensures.writes in
    let zeros = kept_copied spans part false out (length part.nets) mid next solved.adds.sound solved.adds.within c.copy_reach.ensures in
    kept_then spans old next new (kept_then spans old mid next solved zeros) (kept_copied spans part true out (length part.nets) next new zeros.adds.sound zeros.adds.within c.copy_reach-2.ensures)

pub returns-clause-gives : goal.returns-clause-gives
returns-clause-gives c =
    let circuit = c.args.circuit.now in
    let part = c.args.part.now in
    let spans = c.args.spans in
    let out = c.words_of-out.result in
    let old = c.args.store.now in
    let has = c.requires.spans in
    part_reached circuit part spans out old c.solve_part.new.store c.copy_reach.new.store c.copy_reach-2.new.store has (kept_root_spans c.args.circuit.now (c.args.part.now ∷ []) c.args.spans c.args.store.now c.requires.spans c.args.part.now (0, refl) c.words_of-out.result c.words_of-out.ensures).spans.out_len (reach_apart c.args.circuit.now (c.args.part.now ∷ []) c.args.spans c.args.store.now c.requires.spans c.args.part.now (0, refl) false c.words_of-out.result c.words_of-out.ensures)
    (inside_range circuit part c.requires.part)
    c.in-Ok.ensures.writes c.copy_reach.ensures c.copy_reach-2.ensures
    (subst (λ (w : NetWords). (v : Valuation) → TellsReach part w c.solve_part.new.store v (network_at old circuit part spans.gates spans.roots v))
    (words_back circuit out (kept_root_spans circuit (part ∷ []) spans old has part (0, refl) out c.words_of-out.ensures).spans.source) (c.in-Ok.ensures.reaches c.requires.soft))
    (λ value. reach_apart circuit (part ∷ []) spans old has part (0, refl) value out c.words_of-out.ensures)
    (λ value. reach_len circuit (part ∷ []) spans old has value)

pub returns-clause-few : goal.returns-clause-few
returns-clause-few c one u gates roots =
    let circuit = c.args.circuit.now in
    let part = c.args.part.now in
    let spans = c.args.spans in
    let out = c.words_of-out.result in
    let old = c.args.store.now in
    let mid = c.solve_part.new.store in
    let next = c.copy_reach.new.store in
    let new = c.copy_reach-2.new.store in
    let has = kept_root_spans circuit (part ∷ []) spans old c.requires.spans part (0, refl) out c.words_of-out.ensures in
    let len = has.spans.out_len in
    let apart = reach_apart c.args.circuit.now (c.args.part.now ∷ []) c.args.spans c.args.store.now c.requires.spans c.args.part.now (0, refl) false c.words_of-out.result c.words_of-out.ensures in
    let in_range = inside_range circuit part c.requires.part in
    let solved = c.in-Ok.ensures.few one u (part_gates_within u circuit part c.requires.circuit spans.gates old has.spans.gates_len gates) (part_roots_within u circuit part c.requires.part spans.roots has.roots_len old roots) in
    record {
      counts = counts_ok u (solving_operations circuit part) old new _
          (counted_copies circuit part spans out old mid next new c.requires.spans len apart in_range c.in-Ok.ensures.writes c.copy_reach.ensures c.copy_reach-2.ensures u (solving_operations circuit part) solved.counts.added);
      within = copied_within circuit part spans out old mid next new c.requires.spans len apart in_range c.in-Ok.ensures.writes c.copy_reach.ensures c.copy_reach-2.ensures u solved.within;
    }
