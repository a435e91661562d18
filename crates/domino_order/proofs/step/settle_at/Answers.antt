use Rattle.std.proofs.Common.{ℕ, Bool, All, List, subst, sym}
use Rattle.bdd_core.specs.Words.{word_at}
use Rattle.channel_parts.specs.OneSolution.{AreDetermined}
use Rattle.circuit_faults.proofs.CountLaws.{reads_variables}
use Rattle.circuit_faults.specs.KeptFaults.{AreKeptObserved}
use Rattle.circuit_faults.specs.Steps.{IsReadyInstance, in_comparison}
use Rattle.domino_order.proofs.Looks.{look_gives}
use Rattle.domino_order.specs.StepWords.{of_rising}
use Rattle.phase_check.proofs.Ends.{seen_is}
use Rattle.phase_check.proofs.InstanceSeen.{instances_ready}
use Rattle.phase_laws.proofs.Observed.{observed_nets}
use Rattle.vrt_model.proofs.Members.{at_none}
use Rattle.vrt_model.specs.Comparison.{is_observed, phase_at}
use Rattle.vrt_model.specs.Lists.{At, mark_at}
use Rattle.vrt_model.specs.declared.whole.Whole.{Whole}
use Rattle.domino_order.proofs.step.settle_at.Goals as goal

pub settle-requires-clause-instances : goal.settle-requires-clause-instances
settle-requires-clause-instances c =
    let s = c.args.rising in
    let k = of_rising s in
    let is = c.requires.rising in
    let same = seen_is k s.phase s.plan.now is.ready is.planned c.as_slice-marks.result.now c.as_slice-marks.ensures.value in
    subst (λ (o : ℕ → Bool). All (IsReadyInstance (in_comparison k s.phase s.plan.now.parts s.steps.now o)) k.circuit.instances) (sym same)
    (instances_ready k s.phase is.ready s.plan.now.parts s.steps.now)

pub settle-requires-clause-observed : goal.settle-requires-clause-observed
settle-requires-clause-observed c =
    let s = c.args.rising in
    let k = of_rising s in
    let is = c.requires.rising in
    let same = seen_is k s.phase s.plan.now is.ready is.planned c.as_slice-marks.result.now c.as_slice-marks.ensures.value in
    subst (λ (o : ℕ → Bool). AreKeptObserved k.circuit o) (sym same) (observed_nets k s.phase is.ready)

pub returns-clause-gives : goal.returns-clause-gives
returns-clause-gives c =
    let s = c.args.rising in
    let k = of_rising s in
    let is = c.requires.rising in
    let same = seen_is k s.phase s.plan.now is.ready is.planned c.as_slice-marks.result.now c.as_slice-marks.ensures.value in
    let determined : AreDetermined k.circuit (phase_at k.rules s.phase) (is_observed k s.phase) =
    λ w m. absurd (at_none m.0 w (subst (λ (ws : List Whole). At ws m.0 w) is.flat.wholes m.1)) in
    look_gives k s.phase is.planned.parts.4 (observed_nets k s.phase is.ready).0 determined c.args.care c.args.words.setting c.args.gates c.args.store.now c.settle.new.store s.nets.now
    (mark_at c.as_slice-marks.result.now) same c.requires.fixed c.settle.result c.settle.ensures.gives

pub returns-clause-counts : goal.returns-clause-counts
returns-clause-counts c =
    let d = c.args.store.now in
    let sound = c.sound.ensures.sound in
    (c.settle.ensures.few c.requires.rising.ready.circuit.one_hold d.vars (reads_variables d c.args.care.0 sound c.requires.care)
    (λ n lt. reads_variables d (word_at d c.args.words.setting n) sound (c.requires.bare.roots_live n lt))).counts
