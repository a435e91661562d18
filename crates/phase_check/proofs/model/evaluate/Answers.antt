use Rattle.std.proofs.Common.{ℕ, ◌+◌, arith, length, refl, subst}
use Rattle.bdd_ops.specs.Counting.{Counts}
use Rattle.phase_check.proofs.Ends.{evaluated_gives}
use Rattle.phase_check.proofs.ModelStage.{model_bits, model_there, planned}
use Rattle.phase_check.proofs.Spans.{gates_values, held_values, inputs_values, roots_values}
use Rattle.phase_check.proofs.Stays.{nets_stay, searched_next, stays_one}
use Rattle.phase_laws.proofs.Work.{filled_within, may_spend}
use Rattle.phase_check.specs.States.{circuit_spots, model_operations}
use Rattle.phase_terms.specs.Ready.{comparison_in}
use Rattle.phase_terms.specs.Stores.{counts_of}
use Rattle.vrt_model.specs.Held.{sources_of}
use Rattle.phase_check.proofs.model.evaluate.Goals as goal

pub eval_model-requires-clause-spans : goal.eval_model-requires-clause-spans
eval_model-requires-clause-spans c =
    let k = comparison_in c.args.search.compared in
    let s = c.requires.solved.1.searched in
    model_there k c.args.search.phase c.args.search.plan.now c.requires.search.ready c.requires.search.planned c.args.search.care c.args.search.words c.args.store.now s.opened s.store.words

pub eval_model-requires-clause-plan : goal.eval_model-requires-clause-plan
eval_model-requires-clause-plan c =
    let k = comparison_in c.args.search.compared in
    planned k c.args.search.phase c.args.search.plan.now c.requires.search.ready c.requires.search.planned c.args.search.care c.args.search.words c.args.store.now c.requires.solved.1.searched.opened

pub returns-clause-gives : goal.returns-clause-gives
returns-clause-gives c made solved =
    let k = comparison_in c.args.search.compared in
    let phase = c.args.search.phase in
    let plan = c.args.search.plan.now in
    let words = c.args.search.words in
    let d = c.args.store.now in
    let new = c.eval_model.new.store in
    let s = solved.searched in
    let sound = c.sound.ensures.sound in
    let writes = c.eval_model.ensures.writes in
    let u : ℕ = length (sources_of k phase) in
    let more : ℕ = model_operations k in
    let h = s.store.words in
    let counts = c.eval_model.ensures.counts u (filled_within d.budget u made d words.inputs s.store.used sound s.opened.model.inputs_live)
    (filled_within d.budget u made d words.held s.store.used sound s.opened.model.held_live) in
    evaluated_gives k phase d.budget made more plan c.args.search.care words d new c.eval_model.result
    (λ spent e. may_spend k phase d.budget u made more (made + more) d new spent s.store.used refl c.requires.budget (omega arith) (subst (λ r. Counts u more d new r) e counts))
    (λ evaluated. record {
      kept = record {
        searched = searched_next k phase d.budget made more words d new writes.adds writes.len counts.added c.requires.search.ready c.args.search.care
            (circuit_spots k plan) (circuit_spots k plan)
            (stays_one words.values words.roots d new writes (roots_values (counts_of k d.vars) words d h))
            (stays_one words.values words.inputs d new writes (inputs_values (counts_of k d.vars) words d h))
            (stays_one words.values words.held d new writes (held_values (counts_of k d.vars) words d h)) s s.clear;
        nets = nets_stay k phase c.requires.search.ready words d new h writes.adds (stays_one words.values words.gates d new writes (gates_values (counts_of k d.vars) words d h)) solved.nets;
      };
      model = model_bits k phase plan c.requires.search.ready c.requires.search.planned c.args.search.care words d s.opened new writes.live evaluated;
    })
    c.eval_model.ensures.evaluated
