use Rattle.std.proofs.Common.{ℕ, ◌+◌, Bool, Option, None, ap, length, arith, refl, subst, sym}
use Rattle.bdd_ops.specs.Counting.{IsCounted}
use Rattle.circuit_faults.proofs.SoundWholes.{wired_wholes}
use Rattle.circuit_faults.specs.KeptFaults.{AreKeptObserved, kept_spots}
use Rattle.circuit_faults.specs.KeptResults.{IsFirstKept, KeptGives}
use Rattle.circuit_faults.specs.Operations.{kept_operations}
use Rattle.circuit_faults.specs.Results.{IsClearCircuit}
use Rattle.circuit_faults.specs.Wholes.{HasSoundWholes}
use Rattle.circuit_faults.specs.declared.kept_net.KeptFault.{KeptFault}
use Rattle.fault_places.proofs.SearchLaws.{clear_stages}
use Rattle.fault_places.specs.Searches.{Case, StandsIn}
use Rattle.phase_check.proofs.Cases.{model_of}
use Rattle.phase_check.proofs.Ends.{seen_is}
use Rattle.phase_check.proofs.KeptStage.{fault_below, kept_clear, kept_phase_fault, kept_spans, kept_there}
use Rattle.phase_laws.proofs.Observed.{observed_nets}
use Rattle.phase_check.proofs.Spans.{gates_ones, gates_out, gates_zeros, held_ones, held_out, held_zeros, inputs_ones, inputs_out, inputs_zeros, roots_ones, roots_out, roots_zeros}
use Rattle.phase_check.proofs.Stays.{nets_stay, searched_next, solved_bits, stays_kept, store_next}
use Rattle.phase_laws.proofs.Work.{filled_within, live_within, may_spend}
use Rattle.phase_check.specs.States.{circuit_spots}
use Rattle.phase_terms.specs.Found.{met}
use Rattle.phase_terms.specs.Plans.{step_spots}
use Rattle.phase_terms.specs.Ready.{comparison_in}
use Rattle.phase_terms.specs.Stores.{counts_of}
use Rattle.vrt_model.specs.Comparison.{is_observed, phase_at}
use Rattle.vrt_model.specs.Held.{sources_of}
use Rattle.vrt_model.specs.Lists.{mark_at}
use Rattle.phase_check.proofs.kept.solve_kept.Goals as goal

pub wired_kept-requires-clause-circuit : goal.wired_kept-requires-clause-circuit
wired_kept-requires-clause-circuit c = (c.requires.search.ready.wholes c.args.search.phase c.requires.search.there).ranges

pub wired_kept-requires-clause-observed : goal.wired_kept-requires-clause-observed
wired_kept-requires-clause-observed c =
    let k = comparison_in c.args.search.compared in
    let phase = c.args.search.phase in
    let same = seen_is k phase c.args.search.plan.now c.requires.search.ready c.requires.search.planned c.as_slice-marks.result.now c.as_slice-marks.ensures.value in
    subst (λ (o : ℕ → Bool). AreKeptObserved k.circuit o) (sym same) (observed_nets k phase c.requires.search.ready)

pub wired_kept-requires-clause-spans : goal.wired_kept-requires-clause-spans
wired_kept-requires-clause-spans c =
    let k = comparison_in c.args.search.compared in
    let s = c.requires.solved.1.searched in
    kept_there k c.args.search.phase c.args.search.plan.now c.requires.search.ready c.requires.search.planned c.args.search.words c.args.store.now c.args.search.care s.store.words s.opened c.requires.solved.1.solved.live

pub wired_kept-requires-clause-wired : goal.wired_kept-requires-clause-wired
wired_kept-requires-clause-wired c =
    let k = comparison_in c.args.search.compared in
    let phase = c.args.search.phase in
    let at = phase_at k.rules phase in
    wired_wholes k.circuit at (is_observed k phase) (c.requires.search.ready.wholes phase c.requires.search.there)

pub kept_values-requires-clause-net : goal.kept_values-requires-clause-net
kept_values-requires-clause-net c =
    let k = comparison_in c.args.search.compared in
    let phase = c.args.search.phase in
    let plan = c.args.search.plan.now in
    let words = c.args.search.words in
    let care = c.args.search.care in
    let d = c.args.store.now in
    let new = c.wired_kept.new.store in
    let s = c.requires.solved.1.searched in
    let same = seen_is k phase plan c.requires.search.ready c.requires.search.planned c.as_slice-marks.result.now c.as_slice-marks.ensures.value in
    let at = phase_at k.rules phase in
    let gives = subst (λ (o : Option KeptFault). KeptGives k.circuit at (mark_at c.as_slice-marks.result.now) care words.roots d new o) c.in-Ok-Some.field-0-is
    (c.in-Ok-Some.ensures.gives at (subst (λ (o : ℕ → Bool). HasSoundWholes k.circuit at o) (sym same) (c.requires.search.ready.wholes phase c.requires.search.there)) c.requires.search.planned.kept s.opened.roots.fixed
    (subst (λ (o : ℕ → Bool). IsClearCircuit k.circuit at o care words.roots words.gates d d) (sym same) c.requires.solved.1.solved.circuit)) in
    let first : IsFirstKept k.circuit at (is_observed k phase) care words.roots c.in-Ok-Some.fault d new =
    subst (λ (o : ℕ → Bool). IsFirstKept k.circuit at o care words.roots c.in-Ok-Some.fault d new) same gives in
    let lt = fault_below k phase plan c.requires.search.ready c.requires.search.planned care words d s.opened new c.in-Ok-Some.fault first in
    let len = s.store.words.gates_len in
    omega (arith, lt, len)

pub returns-in-Ok-None-clause-gives : goal.returns-in-Ok-None-clause-gives
returns-in-Ok-None-clause-gives c made solved =
    let k = comparison_in c.args.search.compared in
    let phase = c.args.search.phase in
    let plan = c.args.search.plan.now in
    let words = c.args.search.words in
    let care = c.args.search.care in
    let d = c.args.store.now in
    let new = c.wired_kept.new.store in
    let s = solved.searched in
    let h = s.store.words in
    let sound = c.sound.ensures.sound in
    let writes = c.in-Ok-None.ensures.writes in
    let u : ℕ = length (sources_of k phase) in
    let operations : ℕ = made in
    let more : ℕ = kept_operations k.circuit plan.kept.list in
    let same = seen_is k phase plan c.requires.search.ready c.requires.search.planned c.as_slice-marks.result.now c.as_slice-marks.ensures.value in
    let at = phase_at k.rules phase in
    let gives = subst (λ (o : Option KeptFault). KeptGives k.circuit at (mark_at c.as_slice-marks.result.now) care words.roots d new o) c.in-Ok-None.field-0-is
    (c.in-Ok-None.ensures.gives at (subst (λ (o : ℕ → Bool). HasSoundWholes k.circuit at o) (sym same) (c.requires.search.ready.wholes phase c.requires.search.there)) c.requires.search.planned.kept s.opened.roots.fixed
    (subst (λ (o : ℕ → Bool). IsClearCircuit k.circuit at o care words.roots words.gates d d) (sym same) solved.solved.circuit)) in
    let none : KeptGives k.circuit at (is_observed k phase) care words.roots d new None =
    subst (λ (o : ℕ → Bool). KeptGives k.circuit at o care words.roots d new None) same gives in
    let counted : IsCounted u more d new =
    (c.in-Ok-None.ensures.few c.requires.search.ready.circuit.one_hold u (live_within d.budget u operations d care s.store.used sound s.opened.care_live)
    (filled_within d.budget u operations d words.gates s.store.used sound solved.solved.live)
    (filled_within d.budget u operations d words.roots s.store.used sound s.opened.roots.live)).added in
    record {
      searched = searched_next k phase d.budget operations more words d new writes.adds writes.len counted c.requires.search.ready care (step_spots plan) (circuit_spots k plan)
          (stays_kept (kept_spans words) words.roots d new writes (roots_zeros (counts_of k d.vars) words d h) (roots_ones (counts_of k d.vars) words d h) (roots_out (counts_of k d.vars) words d h))
          (stays_kept (kept_spans words) words.inputs d new writes (inputs_zeros (counts_of k d.vars) words d h) (inputs_ones (counts_of k d.vars) words d h) (inputs_out (counts_of k d.vars) words d h))
          (stays_kept (kept_spans words) words.held d new writes (held_zeros (counts_of k d.vars) words d h) (held_ones (counts_of k d.vars) words d h) (held_out (counts_of k d.vars) words d h))
          s
          (clear_stages (Case k phase) (StandsIn k phase) (λ (v : Case k phase). met k phase v.bits) (step_spots plan) (kept_spots k.circuit) s.clear
          (kept_clear k phase plan c.requires.search.ready c.requires.search.planned care words d s.opened none));
      nets = nets_stay k phase c.requires.search.ready words d new h writes.adds
          (stays_kept (kept_spans words) words.gates d new writes (gates_zeros (counts_of k d.vars) words d h) (gates_ones (counts_of k d.vars) words d h) (gates_out (counts_of k d.vars) words d h))
          (solved_bits k phase care words d s.opened solved.solved);
    }

pub returns-in-Err-clause-gives : goal.returns-in-Err-clause-gives
returns-in-Err-clause-gives c made solved =
    let k = comparison_in c.args.search.compared in
    let phase = c.args.search.phase in
    let plan = c.args.search.plan.now in
    let words = c.args.search.words in
    let d = c.args.store.now in
    let s = solved.searched in
    let sound = c.sound.ensures.sound in
    let u : ℕ = length (sources_of k phase) in
    let operations : ℕ = made in
    let more : ℕ = kept_operations k.circuit plan.kept.list in
    may_spend k phase d.budget u operations more (operations + more) d c.wired_kept.new.store c.in-Err.spent s.store.used refl c.requires.budget (omega arith)
    (c.in-Err.ensures.few c.requires.search.ready.circuit.one_hold u (live_within d.budget u operations d c.args.search.care s.store.used sound s.opened.care_live)
    (filled_within d.budget u operations d words.gates s.store.used sound solved.solved.live)
    (filled_within d.budget u operations d words.roots s.store.used sound s.opened.roots.live))

pub returns-in-Ok-Some-clause-gives : goal.returns-in-Ok-Some-clause-gives
returns-in-Ok-Some-clause-gives c made solved =
    let k = comparison_in c.args.search.compared in
    let phase = c.args.search.phase in
    let plan = c.args.search.plan.now in
    let words = c.args.search.words in
    let care = c.args.search.care in
    let d = c.args.store.now in
    let new = c.wired_kept.new.store in
    let s = solved.searched in
    let h = s.store.words in
    let sound = c.sound.ensures.sound in
    let writes = c.in-Ok-Some.ensures.writes in
    let u : ℕ = length (sources_of k phase) in
    let operations : ℕ = made in
    let more : ℕ = kept_operations k.circuit plan.kept.list in
    let same = seen_is k phase plan c.requires.search.ready c.requires.search.planned c.as_slice-marks.result.now c.as_slice-marks.ensures.value in
    let at = phase_at k.rules phase in
    let gives = subst (λ (o : Option KeptFault). KeptGives k.circuit at (mark_at c.as_slice-marks.result.now) care words.roots d new o) c.in-Ok-Some.field-0-is
    (c.in-Ok-Some.ensures.gives at (subst (λ (o : ℕ → Bool). HasSoundWholes k.circuit at o) (sym same) (c.requires.search.ready.wholes phase c.requires.search.there)) c.requires.search.planned.kept s.opened.roots.fixed
    (subst (λ (o : ℕ → Bool). IsClearCircuit k.circuit at o care words.roots words.gates d d) (sym same) solved.solved.circuit)) in
    let first : IsFirstKept k.circuit at (is_observed k phase) care words.roots c.in-Ok-Some.fault d new =
    subst (λ (o : ℕ → Bool). IsFirstKept k.circuit at o care words.roots c.in-Ok-Some.fault d new) same gives in
    let counted : IsCounted u more d new =
    (c.in-Ok-Some.ensures.few c.requires.search.ready.circuit.one_hold u (live_within d.budget u operations d care s.store.used sound s.opened.care_live)
    (filled_within d.budget u operations d words.gates s.store.used sound solved.solved.live)
    (filled_within d.budget u operations d words.roots s.store.used sound s.opened.roots.live)).added in
    let nets = nets_stay k phase c.requires.search.ready words d new h writes.adds
    (stays_kept (kept_spans words) words.gates d new writes (gates_zeros (counts_of k d.vars) words d h) (gates_ones (counts_of k d.vars) words d h) (gates_out (counts_of k d.vars) words d h))
    (solved_bits k phase care words d s.opened solved.solved) in
    kept_phase_fault k phase plan c.requires.search.ready c.requires.search.planned care words d s.opened new c.in-Ok-Some.fault first nets h.gates_len c.requires.search.there
    (model_of k phase plan words d care c.requires.search.ready c.requires.search.planned s.opened) new.budget (operations + more) c.kept_values.result
    (store_next k phase d.budget operations more words d new writes.adds writes.len counted s.store) writes.adds.sound s.clear c.kept_values.ensures
