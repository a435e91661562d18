use Rattle.std.proofs.Common.{◌≡◌, ℕ, ◌+◌, ◌*◌, Bool, List, Some, Option, length, arith, ap, subst, ◌∙◌}
use Rattle.bdd_core.specs.Diagram.{Valuation}
use Rattle.bdd_core.specs.Store.{IsLive}
use Rattle.bdd_core.specs.Words.{word_at}
use Rattle.bdd_core.specs.declared.handle.H.{H}
use Rattle.circuit_faults.proofs.CountLaws.{reads_variables}
use Rattle.domino_order.proofs.StepAfter.{after_roots, hold_words}
use Rattle.domino_order.proofs.StepFound.{counts_after, counts_both, counts_first, fails_after, keeps_then, refused_first, same_vars, step_gives}
use Rattle.domino_order.proofs.StepFrames.{bare_rose, handles_by_rose, handles_by_setting, kept_rose, rose_span, together_by_rose, together_by_setting, together_span}
use Rattle.domino_order.specs.StepSettings.{SettlesAt, after_at, net_bits}
use Rattle.domino_order.specs.StepWords.{of_rising, settle_operations}
use Rattle.phase_check.proofs.Ends.{adds_now, seen_is, words_now}
use Rattle.phase_laws.proofs.Observed.{observed_nets}
use Rattle.vrt_model.specs.Lists.{mark_at}
use Rattle.domino_order.proofs.step.look_after.Goals as goal

pub take_bits-requires-clause-holds : goal.take_bits-requires-clause-holds
take_bits-requires-clause-holds c =
    let words = c.requires.words.words in
    hold_words (of_rising c.args.rising).circuit c.args.words.rose.len c.args.words.setting.len c.requires.rising.flat words.rose_len words.setting_len

pub settle_at-requires-clause-bare : goal.settle_at-requires-clause-bare
settle_at-requires-clause-bare c =
    let s = c.args.rising in
    let words = c.args.words in
    let mid = c.take_bits.new.store in
    bare_rose s c.requires.rising words mid (handles_by_setting (of_rising s).circuit words c.args.store.now mid c.requires.words c.take_bits.ensures.writes)

pub settle_at-requires-clause-kept : goal.settle_at-requires-clause-kept
settle_at-requires-clause-kept c =
    let s = c.args.rising in
    let words = c.args.words in
    let mid = c.take_bits.new.store in
    kept_rose s c.requires.rising words mid (handles_by_setting (of_rising s).circuit words c.args.store.now mid c.requires.words c.take_bits.ensures.writes)

pub settle_at-requires-clause-fixed : goal.settle_at-requires-clause-fixed
settle_at-requires-clause-fixed c =
    let s = c.args.rising in
    let words = c.args.words in
    let h = c.requires.words in
    let took = c.take_bits.ensures in
    (after_roots (of_rising s) s.phase s.nets.now c.args.net c.requires.rising.inputs words.setting words.rose c.args.store.now c.take_bits.new.store took.writes took.taken took.others h.setting h.rose
    h.words.setting_len h.words.rose_len c.requires.twice.gives).fixed

-- ---- where it does not settle

pub returns-in-Ok-Some-clause-gives : goal.returns-in-Ok-Some-clause-gives
returns-in-Ok-Some-clause-gives c =
    let s = c.args.rising in
    let k = of_rising s in
    let words = c.args.words in
    let old = c.args.store.now in
    let mid = c.take_bits.new.store in
    let new = c.settle_at.new.store in
    let care = c.args.care in
    let h = c.requires.words in
    let took = c.take_bits.ensures in
    let settings = after_at k s.phase s.nets.now c.args.net (net_bits k s.phase s.nets.now old words.rose) in
    let gives = after_roots k s.phase s.nets.now c.args.net c.requires.rising.inputs words.setting words.rose old mid took.writes took.taken took.others h.setting h.rose h.words.setting_len h.words.rose_len
    c.requires.twice.gives in
    let found = subst (λ (o : Option H). SettlesAt k s.phase s.nets.now c.args.net settings care words.rose mid new o) c.in-Ok-Some.field-0-is (c.in-Ok-Some.ensures.gives c.args.net settings gives) in
    let same = λ (v : Valuation). took.writes.adds.kept care.0 c.requires.care v in
    fails_after k s.phase s.nets.now c.args.net care (observed_nets k s.phase c.requires.rising.ready).0.nets words.setting words.rose words.together old mid new new c.requires.twice same
    (λ v. c.settle_at.ensures.writes.adds.kept care.0 (let live = c.requires.care in let longer = took.writes.adds.longer in omega (arith, live, longer)) v ∙ same v) words.rose c.in-Ok-Some.at found

pub returns-in-Ok-Some-clause-keeps : goal.returns-in-Ok-Some-clause-keeps
returns-in-Ok-Some-clause-keeps c =
    let took = c.take_bits.ensures.writes in
    let settled = c.settle_at.ensures.writes in
    keeps_then c.args.store.now c.take_bits.new.store c.settle_at.new.store (record { adds = took.adds; len = took.len }) (record { adds = settled.adds; len = settled.len })

pub returns-in-Ok-Some-clause-counts : goal.returns-in-Ok-Some-clause-counts
returns-in-Ok-Some-clause-counts c =
    let few = settle_operations c.args.rising in
    let more : ℕ = few + 3 * length (of_rising c.args.rising).circuit.nets in
    let old = c.args.store.now in
    let new = c.settle_at.new.store in
    counts_first old.vars few more old new c.in-Ok-Some.field-0 (Some c.in-Ok-Some.at) (omega arith)
    (counts_after few old c.take_bits.new.store new _ c.take_bits.ensures.rest c.in-Ok-Some.ensures.counts)

pub returns-in-Err-clause-keeps : goal.returns-in-Err-clause-keeps
returns-in-Err-clause-keeps c =
    let took = c.take_bits.ensures.writes in
    let settled = c.settle_at.ensures.writes in
    keeps_then c.args.store.now c.take_bits.new.store c.settle_at.new.store (record { adds = took.adds; len = took.len }) (record { adds = settled.adds; len = settled.len })

pub returns-in-Err-clause-counts : goal.returns-in-Err-clause-counts
returns-in-Err-clause-counts c =
    let few = settle_operations c.args.rising in
    let more : ℕ = few + 3 * length (of_rising c.args.rising).circuit.nets in
    let old = c.args.store.now in
    let new = c.settle_at.new.store in
    refused_first {A = Option H} {B = Option H} old.vars few more old new c.in-Err.spent (omega arith)
    (counts_after few old c.take_bits.new.store new _ c.take_bits.ensures.rest c.in-Err.ensures.counts)

-- ---- the comparison

pub first_difference-requires-clause-care : goal.first_difference-requires-clause-care
first_difference-requires-clause-care c =
    let live = c.requires.care in
    let took = c.take_bits.ensures.writes.adds.longer in
    let longer = c.settle_at.ensures.writes.adds.longer in
    omega (arith, live, took, longer)

pub first_difference-requires-clause-left : goal.first_difference-requires-clause-left
first_difference-requires-clause-left c =
    let nets : ℕ = length (of_rising c.args.rising).circuit.nets in
    let words = c.args.words in
    let mid = c.take_bits.new.store in
    let new = c.settle_at.new.store in
    let first = handles_by_setting (of_rising c.args.rising).circuit words c.args.store.now mid c.requires.words c.take_bits.ensures.writes in
    let h = handles_by_rose (of_rising c.args.rising).circuit words mid new first c.settle_at.ensures.writes c.settle_at.ensures.live in
    let marks : length c.as_slice-marks.result.now ≡ nets = ap (λ (xs : List Bool). length xs) c.as_slice-marks.ensures.value ∙ c.requires.rising.planned.marks in
    let len = h.words.rose_len in (rose_span (of_rising c.args.rising).circuit words new h.words, h.rose, omega (arith, marks, len))

pub first_difference-requires-clause-right : goal.first_difference-requires-clause-right
first_difference-requires-clause-right c =
    let nets : ℕ = length (of_rising c.args.rising).circuit.nets in
    let words = c.args.words in
    let mid = c.take_bits.new.store in
    let new = c.settle_at.new.store in
    let first = handles_by_setting (of_rising c.args.rising).circuit words c.args.store.now mid c.requires.words c.take_bits.ensures.writes in
    let h = handles_by_rose (of_rising c.args.rising).circuit words mid new first c.settle_at.ensures.writes c.settle_at.ensures.live in
    let marks : length c.as_slice-marks.result.now ≡ nets = ap (λ (xs : List Bool). length xs) c.as_slice-marks.ensures.value ∙ c.requires.rising.planned.marks in
    let len = h.words.together_len in (together_span (of_rising c.args.rising).circuit words new h.words, h.together, omega (arith, marks, len))

pub returns-clause-gives : goal.returns-clause-gives
returns-clause-gives c =
    let s = c.args.rising in
    let k = of_rising s in
    let words = c.args.words in
    let old = c.args.store.now in
    let mid = c.take_bits.new.store in
    let later = c.settle_at.new.store in
    let care = c.args.care in
    let nets : ℕ = length k.circuit.nets in
    let h = c.requires.words in
    let took = c.take_bits.ensures in
    let settings = after_at k s.phase s.nets.now c.args.net (net_bits k s.phase s.nets.now old words.rose) in
    let gives = after_roots k s.phase s.nets.now c.args.net c.requires.rising.inputs words.setting words.rose old mid took.writes took.taken took.others h.setting h.rose h.words.setting_len h.words.rose_len
    c.requires.twice.gives in
    let settled = subst (λ (o : Option H). SettlesAt k s.phase s.nets.now c.args.net settings care words.rose mid later o) c.in-Ok-None.field-0-is (c.in-Ok-None.ensures.gives c.args.net settings gives) in
    let same = λ (v : Valuation). took.writes.adds.kept care.0 c.requires.care v in
    let first = handles_by_setting (of_rising c.args.rising).circuit words old mid h took.writes in
    let is = c.requires.rising in
    step_gives k s.phase s.nets.now c.args.net care (observed_nets k s.phase is.ready).0.nets words.setting words.rose words.together old mid later c.first_difference.new.store c.requires.twice same
    (λ v. c.settle_at.ensures.writes.adds.kept care.0 (let live = c.requires.care in let longer = took.writes.adds.longer in omega (arith, live, longer)) v ∙ same v)
    h.words.together_len settled (together_by_rose (of_rising c.args.rising).circuit words mid later first c.settle_at.ensures.writes) (together_by_setting (of_rising c.args.rising).circuit words old mid h took.writes) (mark_at c.as_slice-marks.result.now)
    (seen_is k s.phase s.plan.now is.ready is.planned c.as_slice-marks.result.now c.as_slice-marks.ensures.value) c.first_difference.result c.first_difference.ensures.gives

pub returns-clause-keeps : goal.returns-clause-keeps
returns-clause-keeps c =
    let old = c.args.store.now in
    let mid = c.take_bits.new.store in
    let later = c.settle_at.new.store in
    let new = c.first_difference.new.store in
    let took = c.take_bits.ensures.writes in
    let settled = c.settle_at.ensures.writes in
    let adds = c.first_difference.ensures.adds in
    keeps_then old later new (keeps_then old mid later (record { adds = took.adds; len = took.len }) (record { adds = settled.adds; len = settled.len }))
    (record { adds = adds_now later new adds; len = words_now later new adds })

pub returns-clause-counts : goal.returns-clause-counts
returns-clause-counts c =
    let s = c.args.rising in
    let few = settle_operations s in
    let nets : ℕ = length (of_rising s).circuit.nets in
    let words = c.args.words in
    let old = c.args.store.now in
    let mid = c.take_bits.new.store in
    let later = c.settle_at.new.store in
    let new = c.first_difference.new.store in
    let took = c.take_bits.ensures.writes in
    let settled = c.settle_at.ensures.writes in
    let first = handles_by_setting (of_rising c.args.rising).circuit words old mid c.requires.words took in
    let h = handles_by_rose (of_rising c.args.rising).circuit words mid later first settled c.settle_at.ensures.live in
    let marks : length c.as_slice-marks.result.now ≡ nets = ap (λ (xs : List Bool). length xs) c.as_slice-marks.ensures.value ∙ c.requires.rising.planned.marks in
    let sound = settled.adds.sound in
    let live : IsLive later c.args.care = (let live = c.requires.care in let a = took.adds.longer in let b = settled.adds.longer in omega (arith, live, a, b)) in
    let compared = c.first_difference.ensures.few later.vars (reads_variables later c.args.care.0 sound live)
    (λ n lt. reads_variables later (word_at later words.rose n) sound (h.rose n lt)) (λ n lt. reads_variables later (word_at later words.together n) sound (h.together n lt)) in
    let vars : later.vars ≡ old.vars = same_vars mid later later.words settled.adds ∙ same_vars old mid mid.words took.adds in
    counts_both few (3 * length c.as_slice-marks.result.now) (few + 3 * nets) old later new c.in-Ok-None.field-0 c.first_difference.result (omega (arith, marks)) vars
    (counts_after few old mid later _ c.take_bits.ensures.rest c.in-Ok-None.ensures.counts) compared
