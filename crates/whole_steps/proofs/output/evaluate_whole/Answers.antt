use Rattle.std.proofs.Common.{◌≡◌, ℕ, ◌+◌, ◌<◌, arith, ap, length, sym, subst, ◌∙◌}
use Rattle.std.proofs.lemmas.Option.{none-some}
use Rattle.node_pool.specs.declared.region.Span.{Span}
use Rattle.bdd_core.proofs.Frames.{word_beside}
use Rattle.bdd_core.proofs.Results.{if_ok_more}
use Rattle.bdd_core.specs.Diagram.{IsWithin, Valuation}
use Rattle.bdd_core.specs.Store.{Diagrams}
use Rattle.bdd_core.specs.Words.{Writes, shows}
use Rattle.bdd_ops.proofs.CountingLaws.{counted_same, counts_more, counts_then}
use Rattle.blif_eval.specs.Evaluated.{IsEvaluated}
use Rattle.vrt_model.specs.State.{ModelGives}
use Rattle.whole_steps.proofs.EvaluationLaws.{gates_before, given_now}
use Rattle.whole_steps.proofs.OutputLaws.{nothing_there, signal_given, signal_within, words_written}
use Rattle.whole_steps.specs.Evaluations.{IsEvaluatedIn, evaluation_operations}
use Rattle.whole_steps.specs.Logic.{nothing_known}
use Rattle.whole_steps.proofs.output.evaluate_whole.Goals as goal

pub found_words-found-requires : goal.found_words-found-requires
found_words-found-requires c =
    let fits = c.requires.out.0.1 in let len = c.requires.out.1 in let count = c.mark-count.ensures.words in let small = c.mark-count.type_inv in
    omega (arith, fits, len, count, small)

pub eval_model-requires-clause-plan : goal.eval_model-requires-clause-plan
eval_model-requires-clause-plan c =
    let flat = c.args.whole.now.model in
    (nothing_known flat, c.requires.plan, λ s b e. absurd (none-some b (sym (nothing_there flat s) ∙ e)))

pub returns-clause-writes : goal.returns-clause-writes
returns-clause-writes c =
    words_written c.args.whole.now.model c.given_words-given.result c.found_words-found.result c.args.out c.args.store.now c.give.new.store c.eval_model.new.store
    c.given_words-given.ensures c.found_words-found.ensures c.requires.out.1 c.give.ensures.writes c.eval_model.ensures.writes

pub returns-clause-found : goal.returns-clause-found
returns-clause-found c =
    let w = c.args.whole.now in
    let gates = c.args.gates in
    let out = c.args.out in
    let phase = c.args.phase.now in
    let old = c.args.store.now in
    let mid = c.give.new.store in
    let new = c.eval_model.new.store in
    let nodes : mid.nodes ≡ old.nodes = ap (λ (d : Diagrams). d.nodes) c.give.ensures.rest in
    let given = c.given_words-given.result in
    let found = c.found_words-found.result in
    let held = c.no_words-held.result in
    let writes : Writes out old new = returns-clause-writes c in
    let live = c.requires.gates.1 in
    if_ok_more (λ _. (v : Valuation) → IsEvaluated w.model given held found mid new v) (λ _. IsEvaluatedIn phase w gates out new) c.eval_model.result
    (λ _ evaluated. record {
      live = λ k lt. writes.live k (let len = c.requires.out.1 in omega (arith, lt, len));
      gives = λ pin v lt.
          subst (λ (f : Span). ModelGives phase (record { whole = w; pin = pin }) (λ n. shows new gates n v) (shows new f pin.signal v)) c.found_words-found.ensures
          (given_now phase w gates out old new c.requires.nets live (λ n in_gates. word_beside out gates old new n writes c.requires.apart in_gates) writes.adds.kept pin v (shows new found pin.signal v)
          (signal_given w c.requires.whole phase gates given held found old mid new c.give.ensures.given nodes evaluated v pin));
      within = λ u reads s lt.
          subst (λ (f : Span). IsWithin u (λ v. shows new f s v)) c.found_words-found.ensures
          (signal_within w c.requires.whole phase gates given held found old mid new c.give.ensures.given nodes evaluated u (ap (λ (x : Span). x.len) c.given_words-given.ensures)
          (c.give.ensures.within u
          (gates_before phase w gates out old new c.requires.nets live (λ n in_gates. word_beside out gates old new n writes c.requires.apart in_gates) writes.adds.kept u reads)) s lt);
    })
    c.eval_model.ensures.evaluated

pub returns-clause-counts : goal.returns-clause-counts
returns-clause-counts c u reads =
    let old = c.args.store.now in
    let mid = c.give.new.store in
    let new = c.eval_model.new.store in
    let rest = c.give.ensures.rest in
    let most = evaluation_operations c.args.whole.now in
    let none : c.no_words-held.result.len ≡ 0 = ap (λ (s : Span). s.len) c.no_words-held.ensures in
    counts_more u (0 + most) most old new c.eval_model.result (omega arith)
    (counts_then u 0 most old mid new c.eval_model.result
    (counted_same u old mid (ap (λ (d : Diagrams). d.budget) rest) (ap (λ (d : Diagrams). d.nodes) rest))
    (c.eval_model.ensures.counts u (c.give.ensures.within u reads) (λ k lt. absurd (omega (arith, lt, none)))))
