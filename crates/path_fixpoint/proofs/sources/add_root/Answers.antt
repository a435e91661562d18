use Rattle.std.proofs.Common.{◌≡◌, ℕ, ◌+◌, inr, List, Ok, Err, slice_index, arith, ap, refl, subst, ◌∙◌, length}
use Rattle.bdd_core.specs.Diagram.{meaning}
use Rattle.path_fixpoint.specs.Parts.{IsPlace}
use Rattle.path_fixpoint.specs.Passed.{IsWider}
use Rattle.path_fixpoint.specs.Reaching.{slot_of}
use Rattle.path_fixpoint.specs.Strengths.{word_of}
use Rattle.bdd_core.proofs.Frames.{writes_then, adds_words, writes_added}
use Rattle.path_fixpoint.proofs.Places.{place_in, place_words}
use Rattle.path_fixpoint.proofs.ReachLaws.{slot_high, slot_low}
use Rattle.path_fixpoint.proofs.SourceLaws.{adds_none, adds_one}
use Rattle.bdd_ops.proofs.CountingLaws.{counted_then, counts_made, counts_more}
use Rattle.path_fixpoint.proofs.SpendingLaws.{finds_made, finds_then, root_within, span_still, spends_behind, spends_err, spends_refused, spends_value}
use Rattle.path_fixpoint.proofs.sources.add_root.Goals as goal

pub returns-in_default-clause-adds : goal.returns-in_default-clause-adds
returns-in_default-clause-adds c =
    adds_none c.args.part.now c.args.roots c.args.out c.args.value (λ n at size. (n ≡ c.args.source.net.0) × (at ≡ c.args.source.at) × (size ≡ c.args.source.size)) c.args.store.now
    (λ n at size q i p. c.in_default.ensures.none refl i (subst (IsPlace c.args.part.now i) q.0 p))

pub returns-in-Err-clause-writes : goal.returns-in-Err-clause-writes
returns-in-Err-clause-writes c = writes_added c.args.out.span c.args.store.now c.root_bit.new.store c.requires.out.1 c.in-Err.ensures.adds

pub unblocked-requires-clause-place : goal.unblocked-requires-clause-place
unblocked-requires-clause-place c = (place_words c.args.out (length c.args.part.now.nets) c.in-Some.i c.requires.out.2 (place_in c.args.part.now c.in-Some.i c.args.source.net.0 c.in-Some.ensures.some), c.requires.out.3)

pub returns-in-Err-unblocked-clause-writes : goal.returns-in-Err-unblocked-clause-writes
returns-in-Err-unblocked-clause-writes c =
    writes_then c.args.out.span c.args.store.now c.root_bit.new.store c.unblocked.new.store
    (writes_added c.args.out.span c.args.store.now c.root_bit.new.store c.requires.out.1 c.in-Ok.ensures.adds) c.in-Err-unblocked.ensures.writes

pub word-requires-clause-fits : goal.word-requires-clause-fits
word-requires-clause-fits c =
    omega (arith, place_words c.args.out (length c.args.part.now.nets) c.in-Some.i c.requires.out.2 (place_in c.args.part.now c.in-Some.i c.args.source.net.0 c.in-Some.ensures.some), c.requires.out.3, c.slot.ensures, slot_high c.args.out c.args.value)

pub widen-requires-clause-at : goal.widen-requires-clause-at
widen-requires-clause-at c =
    omega (arith, place_words c.args.out (length c.args.part.now.nets) c.in-Some.i c.requires.out.2 (place_in c.args.part.now c.in-Some.i c.args.source.net.0 c.in-Some.ensures.some), c.slot.ensures, slot_high c.args.out c.args.value, slot_low c.args.out c.args.value, c.word.ensures)

pub returns-in-Ok-widen-clause-writes : goal.returns-in-Ok-widen-clause-writes
returns-in-Ok-widen-clause-writes c =
    writes_then c.args.out.span c.args.store.now c.unblocked.new.store c.widen.new.store
    (writes_then c.args.out.span c.args.store.now c.root_bit.new.store c.unblocked.new.store
    (writes_added c.args.out.span c.args.store.now c.root_bit.new.store c.requires.out.1 c.in-Ok.ensures.adds) c.in-Ok-unblocked.ensures.writes) c.in-Ok-widen.ensures.writes

pub returns-in-Err-widen-clause-writes : goal.returns-in-Err-widen-clause-writes
returns-in-Err-widen-clause-writes c =
    writes_then c.args.out.span c.args.store.now c.unblocked.new.store c.widen.new.store
    (writes_then c.args.out.span c.args.store.now c.root_bit.new.store c.unblocked.new.store
    (writes_added c.args.out.span c.args.store.now c.root_bit.new.store c.requires.out.1 c.in-Ok.ensures.adds) c.in-Ok-unblocked.ensures.writes) c.in-Err-widen.ensures.writes

pub returns-in-Ok-widen-clause-apart : goal.returns-in-Ok-widen-clause-apart
returns-in-Ok-widen-clause-apart c k away =
    let at : c.word.result ≡ word_of c.args.out (slot_of c.args.out c.args.value) c.in-Some.i = c.word.ensures ∙ ap (λ (l : ℕ). word_of c.args.out l c.in-Some.i) c.slot.ensures in
    c.in-Ok-widen.ensures.apart k (λ e. away c.in-Some.i (e ∙ at))
    ∙ ap (λ (ws : List ℕ). slice_index ws (c.args.out.span.start + k)) (c.in-Ok-unblocked.ensures.words ∙ adds_words c.args.store.now c.root_bit.new.store c.args.store.now.words c.in-Ok.ensures.adds)

pub returns-in-Err-widen-clause-apart : goal.returns-in-Err-widen-clause-apart
returns-in-Err-widen-clause-apart c k away =
    let at : c.word.result ≡ word_of c.args.out (slot_of c.args.out c.args.value) c.in-Some.i = c.word.ensures ∙ ap (λ (l : ℕ). word_of c.args.out l c.in-Some.i) c.slot.ensures in
    c.in-Err-widen.ensures.apart k (λ e. away c.in-Some.i (e ∙ at))
    ∙ ap (λ (ws : List ℕ). slice_index ws (c.args.out.span.start + k)) (c.in-Ok-unblocked.ensures.words ∙ adds_words c.args.store.now c.root_bit.new.store c.args.store.now.words c.in-Ok.ensures.adds)

pub returns-in-Ok-widen-clause-adds : goal.returns-in-Ok-widen-clause-adds
returns-in-Ok-widen-clause-adds c =
    let out = c.args.out in
    let value = c.args.value in
    let i = c.in-Some.i in
    let b = c.unblocked.new.store in
    let new = c.widen.new.store in
    let signal = c.in-Ok-unblocked.signal in
    let at : c.word.result ≡ word_of out (slot_of out value) i = c.word.ensures ∙ ap (λ (l : ℕ). word_of out l i) c.slot.ensures in
    adds_one c.args.part.now c.requires.part c.args.roots out value c.args.source.net.0 c.args.source.at c.args.source.size i c.args.store.now c.root_bit.new.store b new c.in-Ok.bit signal c.in-Ok-widen.field-0
    c.requires.out.2 c.requires.size.0 c.requires.out.1 c.in-Some.ensures.some c.in-Ok.ensures c.in-Ok-unblocked.ensures.writes c.in-Ok-unblocked.ensures.words c.in-Ok-unblocked.ensures.is
    (subst (λ (x : ℕ). IsWider out.span x (meaning b.nodes signal.0) c.in-Ok-widen.field-0 b new) at c.in-Ok-widen.ensures.wider)
    c.in-Ok-widen.ensures.writes (λ k ne. c.in-Ok-widen.ensures.apart k (λ e. ne (e ∙ at)))

pub returns-in-Err-clause-few : goal.returns-in-Err-clause-few
returns-in-Err-clause-few c u roots all =
    let old = c.args.store.now in
    inr (
      c.in-Some.i,
      c.in-Some.ensures.some,
      spends_refused u c.args.out.span 3 old c.root_bit.new.store c.in-Err.spent
          (counts_more u 1 3 old c.root_bit.new.store (Err c.in-Err.spent) (omega arith)
          (counts_made u old c.root_bit.new.store c.sound.ensures.sound.ends _ (Err c.in-Err.spent) c.in-Err.ensures (root_within u old c.args.roots c.args.source.at c.args.value (roots c.in-Some.i c.in-Some.ensures.some)))),
    )

pub returns-in-Err-unblocked-clause-few : goal.returns-in-Err-unblocked-clause-few
returns-in-Err-unblocked-clause-few c u roots all =
    let out = c.args.out in
    let old = c.args.store.now in
    let mid = c.root_bit.new.store in
    let made = finds_made u old mid _ (Ok c.in-Ok.bit) c.sound.ensures.sound.ends c.in-Ok.ensures (root_within u old c.args.roots c.args.source.at c.args.value (roots c.in-Some.i c.in-Some.ensures.some)) in
    let held = span_still u out.span out.span old mid (writes_added out.span old mid c.requires.out.1 c.in-Ok.ensures.adds) (adds_words old mid old.words c.in-Ok.ensures.adds) c.requires.out.1 all in
    inr (
      c.in-Some.i,
      c.in-Some.ensures.some,
      spends_refused u out.span 3 old c.unblocked.new.store c.in-Err-unblocked.spent
          (counts_more u 2 3 old c.unblocked.new.store (Err c.in-Err-unblocked.spent) (omega arith)
          (finds_then u 1 1 old mid c.unblocked.new.store (Err c.in-Err-unblocked.spent) made.counts.added (c.in-Err-unblocked.ensures.few u held made.within)).counts),
    )

pub returns-in-Ok-widen-clause-few : goal.returns-in-Ok-widen-clause-few
returns-in-Ok-widen-clause-few c u roots all =
    let out = c.args.out in
    let old = c.args.store.now in
    let mid = c.root_bit.new.store in
    let late = c.unblocked.new.store in
    let new = c.widen.new.store in
    let made = finds_made u old mid _ (Ok c.in-Ok.bit) c.sound.ensures.sound.ends c.in-Ok.ensures (root_within u old c.args.roots c.args.source.at c.args.value (roots c.in-Some.i c.in-Some.ensures.some)) in
    let wrote = writes_added out.span old mid c.requires.out.1 c.in-Ok.ensures.adds in
    let held = span_still u out.span out.span old mid wrote (adds_words old mid old.words c.in-Ok.ensures.adds) c.requires.out.1 all in
    let found = c.in-Ok-unblocked.ensures.few u held made.within in
    let held' = span_still u out.span out.span mid late c.in-Ok-unblocked.ensures.writes c.in-Ok-unblocked.ensures.words wrote.live held in
    inr (
      c.in-Some.i,
      c.in-Some.ensures.some,
      spends_value u out.span 3 old new c.in-Ok-widen.field-0 tt
          (spends_behind u out.span 2 1 old late new (Ok c.in-Ok-widen.field-0) (counted_then u 1 1 old mid late made.counts.added found.counts.added) (c.in-Ok-widen.ensures.few u held' found.within)),
    )

pub returns-in-Err-widen-clause-few : goal.returns-in-Err-widen-clause-few
returns-in-Err-widen-clause-few c u roots all =
    let out = c.args.out in
    let old = c.args.store.now in
    let mid = c.root_bit.new.store in
    let late = c.unblocked.new.store in
    let new = c.widen.new.store in
    let made = finds_made u old mid _ (Ok c.in-Ok.bit) c.sound.ensures.sound.ends c.in-Ok.ensures (root_within u old c.args.roots c.args.source.at c.args.value (roots c.in-Some.i c.in-Some.ensures.some)) in
    let wrote = writes_added out.span old mid c.requires.out.1 c.in-Ok.ensures.adds in
    let held = span_still u out.span out.span old mid wrote (adds_words old mid old.words c.in-Ok.ensures.adds) c.requires.out.1 all in
    let found = c.in-Ok-unblocked.ensures.few u held made.within in
    let held' = span_still u out.span out.span mid late c.in-Ok-unblocked.ensures.writes c.in-Ok-unblocked.ensures.words wrote.live held in
    inr (
      c.in-Some.i,
      c.in-Some.ensures.some,
      spends_err u out.span 3 old new c.in-Err-widen.spent
          (spends_behind u out.span 2 1 old late new (Err c.in-Err-widen.spent) (counted_then u 1 1 old mid late made.counts.added found.counts.added) (c.in-Err-widen.ensures.few u held' found.within)),
    )
