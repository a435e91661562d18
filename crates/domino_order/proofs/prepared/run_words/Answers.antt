use Rattle.std.proofs.Common.{ℕ, ◌*◌, ◌≤◌, arith, length, subst}
use Rattle.std.specs.Prelude.{replicate}
use Rattle.domino_order.proofs.StartLaws.{held_longer, inputs_longer, rest_longer, roots_longer, words_longer}
use Rattle.path_fixpoint.specs.Strengths.{net_words}
use Rattle.domino_order.proofs.prepared.run_words.Goals as goal

pub step_words-steps-requires-clause-words : goal.step_words-steps-requires-clause-words
step_words-steps-requires-clause-words c = (c.args.counts, c.take_words-phase.ensures.words, c.requires.nets, c.requires.pins)

pub step_words-steps-requires-clause-out : goal.step_words-steps-requires-clause-out
step_words-steps-requires-clause-out c =
    let words = c.take_words-phase.ensures.words in
    let len = words.out_len in
    let own : net_words c.args.counts.source * c.args.counts.nets ≤ c.take_words-phase.result.out.len = omega (arith, len) in
    subst (λ (x : ℕ). net_words x * length c.args.circuit.now.nets ≤ c.take_words-phase.result.out.len) c.requires.source
    (subst (λ (n : ℕ). net_words c.args.counts.source * n ≤ c.take_words-phase.result.out.len) c.requires.nets own)

pub returns-clause-phase : goal.returns-clause-phase
returns-clause-phase c =
    words_longer c.take_words-phase.new.store c.step_words-steps.new.store (replicate (2 * length c.args.circuit.now.nets) 0) c.step_words-steps.ensures.taken c.args.counts c.take_words-phase.result c.take_words-phase.ensures.words

pub returns-clause-roots : goal.returns-clause-roots
returns-clause-roots c =
    roots_longer c.args.counts c.take_words-phase.result c.take_words-phase.new.store c.step_words-steps.new.store (replicate (2 * length c.args.circuit.now.nets) 0) c.step_words-steps.ensures.taken c.take_words-phase.ensures.words
    c.take_words-phase.ensures.roots

pub returns-clause-inputs : goal.returns-clause-inputs
returns-clause-inputs c =
    inputs_longer c.args.counts c.take_words-phase.result c.take_words-phase.new.store c.step_words-steps.new.store (replicate (2 * length c.args.circuit.now.nets) 0) c.step_words-steps.ensures.taken c.take_words-phase.ensures.words
    c.take_words-phase.ensures.inputs

pub returns-clause-held : goal.returns-clause-held
returns-clause-held c =
    held_longer c.args.counts c.take_words-phase.result c.take_words-phase.new.store c.step_words-steps.new.store (replicate (2 * length c.args.circuit.now.nets) 0) c.step_words-steps.ensures.taken c.take_words-phase.ensures.words
    c.take_words-phase.ensures.held

pub returns-clause-rest : goal.returns-clause-rest
returns-clause-rest c =
    rest_longer c.args.store.now c.take_words-phase.new.store c.step_words-steps.new.store (replicate (2 * length c.args.circuit.now.nets) 0) c.take_words-phase.ensures.rest c.step_words-steps.ensures.taken
