use Rattle.std.proofs.Common.{false, ◌≡◌, ℕ, ◌+◌, ◌*◌, ◌<◌, ◌≤◌, List, Ok, Err, Option, slice_index, arith, ap, sym, subst, ◌∙◌}
use Rattle.std.specs.Prelude.{IfSome}
use Rattle.bdd_core.specs.Diagram.{Function, meaning}
use Rattle.bdd_core.specs.Words.{word_at}
use Rattle.bdd_core.proofs.Results.{if_ok_more}
use Rattle.bdd_ops.proofs.CountingLaws.{counted_then, counts_made, counts_more}
use Rattle.path_fixpoint.specs.Passed.{IsWider, gated}
use Rattle.path_fixpoint.specs.Reaching.{PassesSignal, slot_of}
use Rattle.path_fixpoint.specs.Strengths.{word_of}
use Rattle.bdd_core.proofs.Frames.{writes_then, adds_words, writes_added}
use Rattle.path_fixpoint.proofs.Idle.{signal_full, signal_none}
use Rattle.path_fixpoint.proofs.ReachLaws.{slot_high, slot_low}
use Rattle.path_fixpoint.proofs.SignalLaws.{passes_signal}
use Rattle.path_fixpoint.proofs.SpendingLaws.{finds_made, finds_then, span_still, spends_behind, spends_refused, within_gated, spends_more}
use Rattle.path_fixpoint.proofs.reach.pass.Goals as goal
use Rattle.path_fixpoint.specs.Strengths.{net_words}

pub returns-in-Err-clause-writes : goal.returns-in-Err-clause-writes
returns-in-Err-clause-writes c = writes_added c.args.out.span c.args.store.now c.through.new.store c.requires.out.1 c.in-Err.ensures.adds

pub returns-in-Err-fitting-clause-writes : goal.returns-in-Err-fitting-clause-writes
returns-in-Err-fitting-clause-writes c =
    writes_then c.args.out.span c.args.store.now c.through.new.store c.fitting.new.store
    (writes_added c.args.out.span c.args.store.now c.through.new.store c.requires.out.1 c.in-Ok.ensures.adds) c.in-Err-fitting.ensures.writes

pub returns-clause-writes : goal.returns-clause-writes
returns-clause-writes c =
    writes_then c.args.out.span c.args.store.now c.fitting.new.store c.widen.new.store
    (writes_then c.args.out.span c.args.store.now c.through.new.store c.fitting.new.store
    (writes_added c.args.out.span c.args.store.now c.through.new.store c.requires.out.1 c.in-Ok.ensures.adds) c.in-Ok-fitting.ensures.writes) c.widen.ensures.writes

pub returns-in-Err-clause-apart : goal.returns-in-Err-clause-apart
returns-in-Err-clause-apart c k away = ap (λ (ws : List ℕ). slice_index ws (c.args.out.span.start + k)) (adds_words c.args.store.now c.through.new.store c.args.store.now.words c.in-Err.ensures.adds)

pub returns-in-Err-fitting-clause-apart : goal.returns-in-Err-fitting-clause-apart
returns-in-Err-fitting-clause-apart c k away =
    ap (λ (ws : List ℕ). slice_index ws (c.args.out.span.start + k)) (c.in-Err-fitting.ensures.words ∙ adds_words c.args.store.now c.through.new.store c.args.store.now.words c.in-Ok.ensures.adds)

pub returns-clause-apart : goal.returns-clause-apart
returns-clause-apart c k away =
    let at : c.word-at.result ≡ word_of c.args.out (slot_of c.args.out c.args.value) c.in-Some.to = c.word-at.ensures ∙ ap (λ (l : ℕ). word_of c.args.out l c.in-Some.to) c.slot.ensures in
    c.widen.ensures.apart k (λ e. away c.in-Some.to (e ∙ at))
    ∙ ap (λ (ws : List ℕ). slice_index ws (c.args.out.span.start + k)) (c.in-Ok-fitting.ensures.words ∙ adds_words c.args.store.now c.through.new.store c.args.store.now.words c.in-Ok.ensures.adds)

pub returns-clause-passes : goal.returns-clause-passes
returns-clause-passes c =
    let out = c.args.out in
    let value = c.args.value in
    let kind = c.args.device.now.kind in
    let level = c.args.device.now.level in
    let old = c.args.store.now in
    let mid = c.through.new.store in
    let late = c.fitting.new.store in
    let new = c.widen.new.store in
    let to = c.in-Some.to in
    let passed = c.in-Ok.passed in
    let fits = c.in-Ok-fitting.fits in
    let to_fits : net_words out.source * to + net_words out.source ≤ out.span.len = subst (λ (o : Option ℕ). IfSome o (λ i. net_words out.source * i + net_words out.source ≤ out.span.len)) c.in-Some.is c.requires.to in
    let inside : word_of out (slot_of out value) to < out.span.len = omega (arith, to_fits, slot_low out value, slot_high out value) in
    let at : c.word-at.result ≡ word_of out (slot_of out value) to = c.word-at.ensures ∙ ap (λ (l : ℕ). word_of out l to) c.slot.ensures in
    if_ok_more (λ changed. IsWider out.span c.word-at.result (meaning late.nodes fits.0) changed late new)
    (λ changed. PassesSignal out value kind c.args.gate.0 c.args.signal.0 c.args.from c.args.to level changed old new) c.widen.result
    (λ changed wider.
    subst (λ (o : Option ℕ). PassesSignal out value kind c.args.gate.0 c.args.signal.0 c.args.from o level changed old new) (sym c.in-Some.is)
    (passes_signal out value kind c.args.gate.0 c.args.signal.0 c.args.from to level old mid late new passed fits changed c.in-Ok.ensures c.requires.out.1
    c.in-Ok-fitting.ensures.writes c.in-Ok-fitting.ensures.words c.in-Ok-fitting.ensures.is
    (subst (λ (x : ℕ). IsWider out.span x (meaning late.nodes fits.0) changed late new) at wider)
    c.widen.ensures.writes (λ k ne. c.widen.ensures.apart k (λ e. ne (e ∙ at))) inside to_fits c.requires.from))
    c.widen.ensures.wider

pub returns-in-Err-clause-few : goal.returns-in-Err-clause-few
returns-in-Err-clause-few c u all gate signal =
    let old = c.args.store.now in
    let f : Function = gated c.args.device.now.kind (meaning old.nodes c.args.gate.0) (meaning old.nodes c.args.signal.0) in
    spends_refused u c.args.out.span (2 * c.args.out.source + 2) old c.through.new.store c.in-Err.spent
    (counts_more u 1 (2 * c.args.out.source + 2) old c.through.new.store (Err c.in-Err.spent) (omega arith)
    (counts_made u old c.through.new.store c.sound.ensures.sound.ends f (Err c.in-Err.spent) c.in-Err.ensures
    (within_gated u c.args.device.now.kind (meaning old.nodes c.args.gate.0) (meaning old.nodes c.args.signal.0) gate signal)))

pub returns-in-Err-fitting-clause-few : goal.returns-in-Err-fitting-clause-few
returns-in-Err-fitting-clause-few c u all gate signal =
    let out = c.args.out in
    let old = c.args.store.now in
    let mid = c.through.new.store in
    let f : Function = gated c.args.device.now.kind (meaning old.nodes c.args.gate.0) (meaning old.nodes c.args.signal.0) in
    let made = finds_made u old mid f (Ok c.in-Ok.passed) c.sound.ensures.sound.ends c.in-Ok.ensures
    (within_gated u c.args.device.now.kind (meaning old.nodes c.args.gate.0) (meaning old.nodes c.args.signal.0) gate signal) in
    let held = span_still u out.span out.span old mid (writes_added out.span old mid c.requires.out.1 c.in-Ok.ensures.adds) (adds_words old mid old.words c.in-Ok.ensures.adds) c.requires.out.1 all in
    spends_refused u out.span (2 * out.source + 2) old c.fitting.new.store c.in-Err-fitting.spent
    (counts_more u (1 + 2 * out.source) (2 * out.source + 2) old c.fitting.new.store (Err c.in-Err-fitting.spent) (omega arith)
    (finds_then u 1 (2 * out.source) old mid c.fitting.new.store (Err c.in-Err-fitting.spent) made.counts.added (c.in-Err-fitting.ensures.few u held made.within)).counts)

pub returns-clause-few : goal.returns-clause-few
returns-clause-few c u all gate signal =
    let out = c.args.out in
    let old = c.args.store.now in
    let mid = c.through.new.store in
    let late = c.fitting.new.store in
    let f : Function = gated c.args.device.now.kind (meaning old.nodes c.args.gate.0) (meaning old.nodes c.args.signal.0) in
    let made = finds_made u old mid f (Ok c.in-Ok.passed) c.sound.ensures.sound.ends c.in-Ok.ensures
    (within_gated u c.args.device.now.kind (meaning old.nodes c.args.gate.0) (meaning old.nodes c.args.signal.0) gate signal) in
    let wrote = writes_added out.span old mid c.requires.out.1 c.in-Ok.ensures.adds in
    let held = span_still u out.span out.span old mid wrote (adds_words old mid old.words c.in-Ok.ensures.adds) c.requires.out.1 all in
    let found = c.in-Ok-fitting.ensures.few u held made.within in
    let held' = span_still u out.span out.span mid late c.in-Ok-fitting.ensures.writes c.in-Ok-fitting.ensures.words wrote.live held in
    spends_more u out.span (1 + 2 * out.source + 1) (2 * out.source + 2) old c.widen.new.store c.widen.result (omega arith)
    (spends_behind u out.span (1 + 2 * out.source) 1 old late c.widen.new.store c.widen.result (counted_then u 1 (2 * out.source) old mid late made.counts.added found.counts.added) (c.widen.ensures.few u held' found.within))

pub is_full-requires-clause-at : goal.is_full-requires-clause-at
is_full-requires-clause-at c =
    let out = c.args.out in
    let fits : net_words out.source * c.in-Some.to + net_words out.source ≤ out.span.len = subst (λ (o : Option ℕ). IfSome o (λ i. net_words out.source * i + net_words out.source ≤ out.span.len)) c.in-Some.is c.requires.to in
    omega (arith, c.word-at.ensures, c.slot.ensures, fits, slot_low out c.args.value, slot_high out c.args.value)

pub returns-then-signal-eq0-clause-passes : goal.returns-then-signal-eq0-clause-passes
returns-then-signal-eq0-clause-passes c =
    let kind = c.args.device.now.kind in
    let level = c.args.device.now.level in
    let d = c.args.store.now in
    subst (λ (o : Option ℕ). PassesSignal c.args.out c.args.value kind c.args.gate.0 c.args.signal.0 c.args.from o level false d d) (sym c.in-Some.is)
    (signal_none c.args.out c.args.value kind c.args.gate.0 c.args.signal.0 c.args.from c.in-Some.to level d (omega (arith, c.if-signal-eq0.true)))

pub returns-then-is_full-clause-passes : goal.returns-then-is_full-clause-passes
returns-then-is_full-clause-passes c =
    let kind = c.args.device.now.kind in
    let level = c.args.device.now.level in
    let d = c.args.store.now in
    let at : c.word-at.result ≡ word_of c.args.out (slot_of c.args.out c.args.value) c.in-Some.to = c.word-at.ensures ∙ ap (λ (l : ℕ). word_of c.args.out l c.in-Some.to) c.slot.ensures in
    let full : word_at d c.args.out.span (word_of c.args.out (slot_of c.args.out c.args.value) c.in-Some.to) ≡ 1 = ap (λ (x : ℕ). word_at d c.args.out.span x) (sym at) ∙ c.is_full.ensures c.if-is_full.true in
    subst (λ (o : Option ℕ). PassesSignal c.args.out c.args.value kind c.args.gate.0 c.args.signal.0 c.args.from o level false d d) (sym c.in-Some.is)
    (signal_full c.args.out c.args.value kind c.args.gate.0 c.args.signal.0 c.args.from c.in-Some.to level d full)
