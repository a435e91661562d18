use Rattle.std.proofs.Common.{◌≡◌, ℕ, ◌+◌, Bool, arith, true, false, List, length, refl, ap, subst, sym, ◌∙◌}
use Rattle.bdd_ops.specs.Counting.{Counts}
use Rattle.channel_parts.specs.declared.part.Part.{Part}
use Rattle.drive_levels.proofs.PhaseLevels.{level_told, listed_are_parts, listed_parts}
use Rattle.drive_levels.specs.NetLevels.{ArePartsOf, drive_operations}
use Rattle.drive_levels.specs.PhaseLevels.{level_in}
use Rattle.output_levels.specs.PartLevels.{HasLevelSpans}
use Rattle.path_fixpoint.specs.Parts.{IsPart}
use Rattle.phase_check.proofs.Ends.{levels_give}
use Rattle.phase_check.proofs.SolvedPhase.{care_meets, level_spans, meets_care, setting_in, solved_phase}
use Rattle.phase_laws.proofs.Work.{bare_room, filled_within, kept_room, live_within, may_spend}
use Rattle.phase_terms.specs.Ready.{comparison_in}
use Rattle.vrt_model.specs.Comparison.{is_observed, phase_at}
use Rattle.vrt_model.specs.Held.{sources_of}
use Rattle.vrt_model.specs.Lists.{Among, mark_at}
use Rattle.phase_check.proofs.levels.write_levels.Goals as goal

pub net_levels-requires-clause-circuit : goal.net_levels-requires-clause-circuit
net_levels-requires-clause-circuit c = (c.requires.search.ready.wholes c.args.search.phase c.requires.search.there).ranges

pub net_levels-requires-clause-bare : goal.net_levels-requires-clause-bare
net_levels-requires-clause-bare c =
    let k = comparison_in c.args.search.compared in
    let phase = c.args.search.phase in
    let plan = c.args.search.plan.now in
    let at = phase_at k.rules phase in
    subst (λ (parts : List Part). (part : Part) → Among parts part → IsPart k.circuit part) (sym c.as_slice.ensures)
    (listed_are_parts k.circuit at true plan.parts.list (c.requires.search.ready.wholes phase c.requires.search.there).ranges (listed_parts k.circuit at true plan.parts c.requires.search.planned.parts))

pub net_levels-requires-clause-kept : goal.net_levels-requires-clause-kept
net_levels-requires-clause-kept c =
    let k = comparison_in c.args.search.compared in
    let phase = c.args.search.phase in
    let plan = c.args.search.plan.now in
    let at = phase_at k.rules phase in
    subst (λ (parts : List Part). (part : Part) → Among parts part → IsPart k.circuit part) (sym c.as_slice-2.ensures)
    (listed_are_parts k.circuit at false plan.kept.list (c.requires.search.ready.wholes phase c.requires.search.there).ranges (listed_parts k.circuit at false plan.kept c.requires.search.planned.kept))

pub net_levels-requires-clause-care : goal.net_levels-requires-clause-care
net_levels-requires-clause-care c = c.requires.wished.1.kept.searched.opened.care_live

pub net_levels-requires-clause-spans : goal.net_levels-requires-clause-spans
net_levels-requires-clause-spans c =
    let k = comparison_in c.args.search.compared in
    let phase = c.args.search.phase in
    let plan = c.args.search.plan.now in
    let words = c.args.search.words in
    let d = c.args.store.now in
    let s = c.requires.wished.1.kept.searched in
    let spans = level_spans k phase d.budget c.requires.wished.0 c.args.search.care words d c.requires.search.ready c.requires.search.there plan c.requires.search.planned s.store s.opened c.sound.ensures.sound c.requires.wished.1.kept.nets s.met in (
      subst (λ (parts : List Part). HasLevelSpans k.circuit parts words.gates words.out d) (sym c.as_slice.ensures) (spans plan.parts.list (bare_room k phase plan c.requires.search.ready c.requires.search.planned)),
      subst (λ (parts : List Part). HasLevelSpans k.circuit parts words.gates words.out d) (sym c.as_slice-2.ensures) (spans plan.kept.list (kept_room k phase plan c.requires.search.ready c.requires.search.planned)),
    )

pub returns-clause-gives : goal.returns-clause-gives
returns-clause-gives c made wished =
    let k = comparison_in c.args.search.compared in
    let phase = c.args.search.phase in
    let at = phase_at k.rules phase in
    let plan = c.args.search.plan.now in
    let words = c.args.search.words in
    let care = c.args.search.care in
    let d = c.args.store.now in
    let new = c.net_levels.new.store in
    let s = wished.kept.searched in
    let nets = wished.kept.nets in
    let sound = c.sound.ensures.sound in
    let ready = c.requires.search.ready in
    let range = c.requires.search.there in
    let is = c.requires.search.planned in
    let u : ℕ = length (sources_of k phase) in
    let more : ℕ = drive_operations k.circuit plan.parts.list plan.kept.list in
    let here = c.net_levels.ensures.few u (live_within d.budget u made d care s.store.used sound s.opened.care_live) (filled_within d.budget u made d words.gates s.store.used sound nets.live) in
    let counts = subst (λ (parts : List Part). Counts u (drive_operations k.circuit plan.parts.list parts) d new c.net_levels.result) c.as_slice-2.ensures
    (subst (λ (parts : List Part). Counts u (drive_operations k.circuit parts c.as_slice-2.result.now) d new c.net_levels.result) c.as_slice.ensures here) in
    let solved = solved_phase k phase d.budget made care words d ready range plan is s.store s.opened sound nets s.met in
    let of_bare = subst (ArePartsOf k.circuit at true) (sym c.as_slice.ensures) (listed_parts k.circuit at true plan.parts is.parts) in
    let of_kept = subst (ArePartsOf k.circuit at false) (sym c.as_slice-2.ensures) (listed_parts k.circuit at false plan.kept is.kept) in
    let seen : (n : ℕ) → mark_at c.as_slice-3.result.now n ≡ true → is_observed k phase n ≡ true = λ n marked.
    sym (is.observed n) ∙ ap (λ (marks : List Bool). mark_at marks n) (sym c.as_slice-3.ensures.value) ∙ marked in
    levels_give k phase d.budget (made + more) c.net_levels.new.levels new c.net_levels.result
    (λ spent e. may_spend k phase d.budget u made more (made + more) d new spent s.store.used refl c.requires.budget (omega arith) (subst (λ r. Counts u more d new r) e counts))
    (λ gives n inside mark.
    level_told k phase (setting_in k phase) care words.roots words.gates d solved
    (care_meets k phase d.budget made care words d ready range plan is s.store s.opened sound nets s.met)
    (meets_care k phase d.budget made care words d ready range plan is s.store s.opened sound nets s.met)
    n (level_in k.circuit c.net_levels.new.levels n)
    (gives at (is_observed k phase) (setting_in k phase) words.roots seen solved of_bare of_kept n inside mark))
    c.net_levels.ensures.gives
