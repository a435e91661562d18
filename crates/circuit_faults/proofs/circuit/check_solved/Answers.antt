use Rattle.std.proofs.Common.{◌+◌, ◌*◌, None, ap, arith, length, sym, ◌∙◌}
use Rattle.std.proofs.lemmas.Option.{slice_get_within}
use Rattle.bdd_core.proofs.Frames.{two_first, two_wider, writes_word}
use Rattle.bdd_core.specs.Store.{Diagrams}
use Rattle.bdd_ops.proofs.CountingLaws.{counted_more, counted_same, counts_ok}
use Rattle.circuit_faults.proofs.CircuitLaws.{root_spans, words_within}
use Rattle.circuit_faults.proofs.UndrivenLaws.{undriven_clear, zero_within}
use Rattle.path_fixpoint.specs.Spending.{solving_operations}
use Rattle.vrt_model.specs.Lists.{mark_at}
use Rattle.circuit_faults.proofs.circuit.check_solved.Goals as goal

-- ---- a net that nothing drives and that is not observed

pub returns-then-not-is_seen-clause-writes : goal.returns-then-not-is_seen-clause-writes
returns-then-not-is_seen-clause-writes c =
    let plain = c.in-Some.ensures.rootless.plain in
    let net = c.in-Some.net in
    let gates = c.args.spans.gates in
    let old = c.args.store.now in
    let new = c.write.new.self in
    let lt = slice_get_within c.args.phased.circuit.now.nets net.0 plain.0 plain.1 in
    let size = c.requires.spans.gates_len in
    let ends = c.sound.ensures.sound.ends in
    two_first gates c.args.spans.out old new
    (writes_word gates old new net.0 0 c.write.ensures (omega (arith, lt, size)) c.requires.spans.gates_span.1 (omega (arith, ends)) c.sound.ensures.sound c.sound.ensures.within c.requires.live)

pub returns-then-not-is_seen-clause-gives : goal.returns-then-not-is_seen-clause-gives
returns-then-not-is_seen-clause-gives c =
    let is = c.in-Some.ensures in
    let lt = slice_get_within c.args.phased.circuit.now.nets c.in-Some.net.0 is.rootless.plain.0 is.rootless.plain.1 in
    let size = c.requires.spans.gates_len in
    undriven_clear c.args.phased.circuit.now c.args.part.now c.in-Some.net is (mark_at c.args.phased.observed.now) c.args.care c.args.spans.roots c.args.spans.gates c.args.store.now c.write.new.self
    (omega (arith, lt, size)) c.requires.spans.gates_span c.write.ensures (sym c.is_seen.ensures ∙ c.if-not-is_seen.true)

pub returns-then-not-is_seen-clause-few : goal.returns-then-not-is_seen-clause-few
returns-then-not-is_seen-clause-few c one u care gates_in roots_in =
    let is = c.in-Some.ensures in
    let circuit = c.args.phased.circuit.now in
    let part = c.args.part.now in
    let old = c.args.store.now in
    let new = c.write.new.self in
    let lt = slice_get_within circuit.nets c.in-Some.net.0 is.rootless.plain.0 is.rootless.plain.1 in
    let size = c.requires.spans.gates_len in
    let operations = solving_operations circuit part + 4 * length part.nets in
    record {
      counts = counts_ok u operations old new None
          (counted_more u 0 operations old new (omega arith) (counted_same u old new (ap (λ (d : Diagrams). d.budget) c.write.ensures) (ap (λ (d : Diagrams). d.nodes) c.write.ensures)));
      within = zero_within circuit part c.in-Some.net is c.args.spans.gates old new (omega (arith, lt, size)) c.requires.spans.gates_span c.write.ensures u gates_in;
    }

-- ---- a part that is solved

pub words_of-words-requires : goal.words_of-words-requires
words_of-words-requires c = c.requires.spans.room c.args.part.now c.requires.part.0

pub check_part-requires-clause-spans : goal.check_part-requires-clause-spans
check_part-requires-clause-spans c =
    root_spans c.args.phased.circuit.now c.args.phased.parts.now.list c.args.spans.roots c.args.spans.gates c.args.spans.out c.args.store.now c.requires.spans c.args.part.now
    c.requires.part.0 c.words_of-words.result c.words_of-words.ensures c.requires.live

pub returns-clause-writes : goal.returns-clause-writes
returns-clause-writes c =
    two_wider c.args.spans.gates c.words_of-words.result.span c.args.spans.out c.args.store.now c.check_part.new.store
    (words_within c.args.phased.circuit.now c.args.phased.parts.now.list c.args.spans.roots c.args.spans.gates c.args.spans.out c.args.store.now c.requires.spans c.args.part.now
    c.requires.part.0 c.words_of-words.result c.words_of-words.ensures) c.check_part.ensures.writes
