use Rattle.std.proofs.Common.{◌≡◌, ℕ, ◌+◌, ◌*◌, List, [], Err, length, ap, arith, subst, sym, ◌∙◌}
use Rattle.std.specs.Prelude.{sum_by}
use Rattle.bdd_core.proofs.Results.{if_ok_more}
use Rattle.bdd_core.specs.Store.{function_of}
use Rattle.bdd_core.specs.Words.{word_at}
use Rattle.bdd_ops.proofs.CountingLaws.{counts_err, counts_more, counts_then}
use Rattle.bdd_ops.proofs.WithinLaws.{within_same}
use Rattle.circuit_faults.proofs.CountLaws.{reads_variables, used_counted}
use Rattle.circuit_faults.proofs.KeptCases.{keeper_none, keeper_some, kept_gives, kept_idle, kept_part, loose_inside}
use Rattle.circuit_faults.proofs.SoundWholes.{soft_inside}
use Rattle.circuit_faults.proofs.KeptWords.{gates_within, kept_added, kept_then, spans_later}
use Rattle.circuit_faults.specs.KeptScans.{IsInSolved, IsReachedIn, ReadWithin}
use Rattle.circuit_faults.specs.Operations.{kept_operations}
use Rattle.path_fixpoint.specs.Spending.{solving_operations}
use Rattle.channel_parts.specs.declared.part.Part.{Part}
use Rattle.path_fixpoint.specs.Parts.{IsPart}
use Rattle.vrt_model.proofs.Members.{at_none}
use Rattle.vrt_model.specs.Lists.{Among, mark_at}
use Rattle.circuit_faults.proofs.kept.wired_kept.Goals as goal

-- ---- without keepers

pub returns-then-not-has_keeper-clause-gives : goal.returns-then-not-has_keeper-clause-gives
returns-then-not-has_keeper-clause-gives c phase sound list fixed clear =
    let circuit = c.args.circuit.now in
    kept_idle circuit phase (mark_at c.args.observed.now) sound c.args.wholes.drivers.now c.args.wholes.plans.now c.requires.wholes c.requires.observed.0 c.args.care c.args.spans c.args.store.now fixed clear c.args.store.now
    (keeper_none circuit (sym c.has_keeper.ensures ∙ c.if-not-has_keeper.true))

pub returns-in-Err-clause-idle : goal.returns-in-Err-clause-idle
returns-in-Err-clause-idle c none =
    absurd (keeper_some c.args.circuit.now (sym c.has_keeper.ensures ∙ c.if-not-has_keeper.false) none)

pub returns-clause-idle : goal.returns-clause-idle
returns-clause-idle c none =
    absurd (keeper_some c.args.circuit.now (sym c.has_keeper.ensures ∙ c.if-not-has_keeper.false) none)

-- ---- what the steps ask

pub solve_parts-requires-clause-parts : goal.solve_parts-requires-clause-parts
solve_parts-requires-clause-parts c =
    subst (λ (ps : List Part). (part : Part) → Among ps part → IsPart c.args.circuit.now part) (sym c.as_slice.ensures)
    (kept_part c.args.circuit.now c.requires.parts.0 c.args.kept.now c.requires.parts.1 c.requires.circuit)

pub solve_parts-requires-clause-soft : goal.solve_parts-requires-clause-soft
solve_parts-requires-clause-soft c part = soft_inside c.args.circuit.now c.requires.wired part

pub scan_kept-requires-clause-spans : goal.scan_kept-requires-clause-spans
scan_kept-requires-clause-spans c =
    spans_later c.args.circuit.now c.args.kept.now.list c.args.spans c.args.store.now c.requires.spans c.solve_parts.new.store c.in-Ok.ensures.writes [] (λ part m. absurd (at_none m.0 part m.1))

pub scan_kept-requires-clause-live : goal.scan_kept-requires-clause-live
scan_kept-requires-clause-live c n p value =
    let circuit = c.args.circuit.now in
    let list = c.args.kept.now.list in
    let reached = subst (λ (ps : List Part). (m : ℕ) → IsInSolved c.args.wholes.drivers.now ps (length ps) m → IsReachedIn circuit ps c.args.spans (length ps) c.args.store.now c.solve_parts.new.store m) c.as_slice.ensures
    c.in-Ok.ensures.gives in
    (reached n (loose_inside circuit c.args.wholes.drivers.now c.args.wholes.plans.now c.requires.wholes c.requires.parts.0 c.args.kept.now c.requires.parts.1 c.requires.circuit n p)).5.live value

-- ---- what is found

pub returns-clause-writes : goal.returns-clause-writes
returns-clause-writes c =
    kept_then c.args.spans c.args.store.now c.solve_parts.new.store c.scan_kept.new.store c.in-Ok.ensures.writes (kept_added c.args.spans c.solve_parts.new.store c.scan_kept.new.store c.scan_kept.ensures.adds)

pub returns-clause-gives : goal.returns-clause-gives
returns-clause-gives c =
    let circuit = c.args.circuit.now in
    let reached = subst (λ (ps : List Part). (m : ℕ) → IsInSolved c.args.wholes.drivers.now ps (length ps) m → IsReachedIn circuit ps c.args.spans (length ps) c.args.store.now c.solve_parts.new.store m) c.as_slice.ensures
    c.in-Ok.ensures.gives in
    if_ok_more _ _ c.scan_kept.result
    (λ found s phase sound list fixed clear. kept_gives circuit phase (mark_at c.args.observed.now) sound c.args.wholes.drivers.now c.args.wholes.plans.now c.requires.wholes c.requires.observed.0 c.args.care c.args.spans c.args.store.now fixed clear
    c.requires.observed.1 c.args.kept.now list c.solve_parts.new.store c.requires.spans c.in-Ok.ensures.writes c.requires.care reached c.scan_kept.new.store found s)
    c.scan_kept.ensures.gives

-- ---- how much is done

pub returns-in-Err-clause-few : goal.returns-in-Err-clause-few
returns-in-Err-clause-few c one u care gates roots =
    let circuit = c.args.circuit.now in
    let list = c.args.kept.now.list in
    let old = c.args.store.now in
    let new = c.solve_parts.new.store in
    let slice = c.as_slice.result.now in
    let sums : sum_by (solving_operations circuit) slice ≡ sum_by (solving_operations circuit) list = ap (λ (ps : List Part). sum_by (solving_operations circuit) ps) c.as_slice.ensures in
    counts_more u (sum_by (solving_operations circuit) slice) (kept_operations circuit list) old new (Err c.in-Err.spent) (omega (arith, sums))
    (counts_err u (sum_by (solving_operations circuit) slice) old new c.in-Err.spent (c.in-Err.ensures.few one u gates roots).counts)

pub returns-in-Err-clause-spent : goal.returns-in-Err-clause-spent
returns-in-Err-clause-spent c one =
    let d = c.args.store.now in
    let sound = c.sound.ensures.sound in
    used_counted d.vars (kept_operations c.args.circuit.now c.args.kept.now.list) d c.solve_parts.new.store (Err c.in-Err.spent)
    (returns-in-Err-clause-few c one d.vars (reads_variables d c.args.care.0 sound c.requires.care)
    (λ n lt. reads_variables d (word_at d c.args.spans.gates n) sound (c.requires.spans.gates_live n lt))
    (λ n lt. reads_variables d (word_at d c.args.spans.roots n) sound (c.requires.spans.roots_live n lt)))

pub returns-clause-few : goal.returns-clause-few
returns-clause-few c one u care gates roots =
    let circuit = c.args.circuit.now in
    let list = c.args.kept.now.list in
    let spans = c.args.spans in
    let old = c.args.store.now in
    let mid = c.solve_parts.new.store in
    let new = c.scan_kept.new.store in
    let slice = c.as_slice.result.now in
    let writes = c.in-Ok.ensures.writes in
    let sums : sum_by (solving_operations circuit) slice ≡ sum_by (solving_operations circuit) list = ap (λ (ps : List Part). sum_by (solving_operations circuit) ps) c.as_slice.ensures in
    let solved = c.in-Ok.ensures.few one u gates roots in
    let within = subst (λ (ps : List Part). ReadWithin u spans (IsInSolved c.args.wholes.drivers.now ps (length ps)) mid) c.as_slice.ensures solved.within in
    counts_more u (sum_by (solving_operations circuit) slice + 20 * length circuit.nets) (kept_operations circuit list) old new c.scan_kept.result (omega (arith, sums))
    (counts_then u (sum_by (solving_operations circuit) slice) (20 * length circuit.nets) old mid new c.scan_kept.result solved.counts.added
    (c.scan_kept.ensures.few u (within_same u (function_of old c.args.care) (function_of mid c.args.care) (writes.adds.kept c.args.care.0 c.requires.care) care)
    (gates_within circuit list spans old c.requires.spans mid writes u gates)
    (λ n value p. within n value (loose_inside circuit c.args.wholes.drivers.now c.args.wholes.plans.now c.requires.wholes c.requires.parts.0 c.args.kept.now c.requires.parts.1 c.requires.circuit n p))))

pub returns-clause-spent : goal.returns-clause-spent
returns-clause-spent c one =
    let d = c.args.store.now in
    let sound = c.sound.ensures.sound in
    used_counted d.vars (kept_operations c.args.circuit.now c.args.kept.now.list) d c.scan_kept.new.store c.scan_kept.result
    (returns-clause-few c one d.vars (reads_variables d c.args.care.0 sound c.requires.care)
    (λ n lt. reads_variables d (word_at d c.args.spans.gates n) sound (c.requires.spans.gates_live n lt))
    (λ n lt. reads_variables d (word_at d c.args.spans.roots n) sound (c.requires.spans.roots_live n lt)))
