use Rattle.std.proofs.Common.{◌≡◌, ℕ, ◌+◌, ◌<◌, ◌||◌, List, length, slice_index, Ok, Err, arith, ap, sym, subst, ◌∙◌, ◌*◌}
use Rattle.bdd_core.specs.Diagram.{Function, IsWithin, meaning}
use Rattle.bdd_ops.proofs.CountingLaws.{counted_then, counts_made, counts_more, counts_then}
use Rattle.path_fixpoint.specs.Reaching.{HasRootWords, offered_end}
use Rattle.bdd_core.specs.Words.{Writes}
use Rattle.bdd_core.proofs.Frames.{writes_then, adds_words, writes_added}
use Rattle.path_fixpoint.proofs.Places.{EndIs, place_fits}
use Rattle.path_fixpoint.proofs.ReachLaws.{offered_kept, root_words_kept}
use Rattle.path_fixpoint.proofs.ReachSpreading.{spreads_value_both}
use Rattle.path_fixpoint.proofs.Spreading.{device_ranges}
use Rattle.path_fixpoint.proofs.SpendingLaws.{finds_made, handle_kept, left_within, offered_within, right_within, roots_beside, span_still, spends_behind, spends_more, spends_refused, spends_value}
use Rattle.path_fixpoint.proofs.Idle.{spreads_value_idle, spreads_value_off}
use Rattle.path_fixpoint.proofs.reach.visit.Goals as goal

pub read-requires-clause-within : goal.read-requires-clause-within
read-requires-clause-within c = omega (arith, (device_ranges c.args.circuit.now c.args.part.now c.args.device.now c.requires.part.0 c.requires.device).gate, c.requires.words.words.gates_len)

pub offers-requires-clause-net : goal.offers-requires-clause-net
offers-requires-clause-net c = omega (arith, (device_ranges c.args.circuit.now c.args.part.now c.args.device.now c.requires.part.0 c.requires.device).left, c.requires.words.roots_len)

pub offers-requires-clause-place : goal.offers-requires-clause-place
offers-requires-clause-place c = place_fits c.args.part.now c.args.out c.place-left.result c.args.device.now.left.0 c.requires.words.words.out_len c.place-left.ensures.some

pub returns-in-Err-clause-writes : goal.returns-in-Err-clause-writes
returns-in-Err-clause-writes c = writes_added c.args.out.span c.args.store.now c.offers.new.store c.requires.words.words.out_live c.in-Err.ensures.adds

pub offers-requires-2-clause-net : goal.offers-requires-2-clause-net
offers-requires-2-clause-net c = omega (arith, (device_ranges c.args.circuit.now c.args.part.now c.args.device.now c.requires.part.0 c.requires.device).right, c.requires.words.roots_len)

pub offers-requires-2-clause-place : goal.offers-requires-2-clause-place
offers-requires-2-clause-place c = place_fits c.args.part.now c.args.out c.place-right.result c.args.device.now.right.0 c.requires.words.words.out_len c.place-right.ensures.some

pub returns-in-Err-offers-clause-writes : goal.returns-in-Err-offers-clause-writes
returns-in-Err-offers-clause-writes c =
    let out = c.args.out in
    let first = writes_added out.span c.args.store.now c.offers.new.store c.requires.words.words.out_live c.in-Ok.ensures.adds in
    writes_then out.span c.args.store.now c.offers.new.store c.offers-2.new.store first (writes_added out.span c.offers.new.store c.offers-2.new.store first.live c.in-Err-offers.ensures.adds)

pub pass-requires-clause-gate : goal.pass-requires-clause-gate
pass-requires-clause-gate c =
    let out = c.args.out in
    let lt = (device_ranges c.args.circuit.now c.args.part.now c.args.device.now c.requires.part.0 c.requires.device).gate in
    let first = writes_added out.span c.args.store.now c.offers.new.store c.requires.words.words.out_live c.in-Ok.ensures.adds in
    let second = writes_added out.span c.offers.new.store c.offers-2.new.store first.live c.in-Ok-offers.ensures.adds in
    omega (arith, c.read.ensures, c.requires.words.words.gates_live c.args.device.now.gate.0 (omega (arith, lt, c.requires.words.words.gates_len)), first.adds.longer, second.adds.longer)

pub pass-requires-clause-signal : goal.pass-requires-clause-signal
pass-requires-clause-signal c =
    let out = c.args.out in
    let first = writes_added out.span c.args.store.now c.offers.new.store c.requires.words.words.out_live c.in-Ok.ensures.adds in
    let second = writes_added out.span c.offers.new.store c.offers-2.new.store first.live c.in-Ok-offers.ensures.adds in
    omega (arith, c.in-Ok.ensures.ok.live, second.adds.longer)

pub pass-requires-clause-from : goal.pass-requires-clause-from
pass-requires-clause-from c = place_fits c.args.part.now c.args.out c.place-left.result c.args.device.now.left.0 c.requires.words.words.out_len c.place-left.ensures.some

pub pass-requires-clause-to : goal.pass-requires-clause-to
pass-requires-clause-to c = place_fits c.args.part.now c.args.out c.place-right.result c.args.device.now.right.0 c.requires.words.words.out_len c.place-right.ensures.some

pub returns-in-Err-pass-clause-writes : goal.returns-in-Err-pass-clause-writes
returns-in-Err-pass-clause-writes c =
    let out = c.args.out in
    let first = writes_added out.span c.args.store.now c.offers.new.store c.requires.words.words.out_live c.in-Ok.ensures.adds in
    let second = writes_added out.span c.offers.new.store c.offers-2.new.store first.live c.in-Ok-offers.ensures.adds in
    writes_then out.span c.args.store.now c.offers-2.new.store c.pass.new.store (writes_then out.span c.args.store.now c.offers.new.store c.offers-2.new.store first second) c.in-Err-pass.ensures.writes

pub pass-requires-2-clause-gate : goal.pass-requires-2-clause-gate
pass-requires-2-clause-gate c =
    let out = c.args.out in
    let lt = (device_ranges c.args.circuit.now c.args.part.now c.args.device.now c.requires.part.0 c.requires.device).gate in
    let first = writes_added out.span c.args.store.now c.offers.new.store c.requires.words.words.out_live c.in-Ok.ensures.adds in
    let second = writes_added out.span c.offers.new.store c.offers-2.new.store first.live c.in-Ok-offers.ensures.adds in
    omega (arith, c.read.ensures, c.requires.words.words.gates_live c.args.device.now.gate.0 (omega (arith, lt, c.requires.words.words.gates_len)), first.adds.longer, second.adds.longer, c.in-Ok-pass.ensures.writes.adds.longer)

pub pass-requires-2-clause-signal : goal.pass-requires-2-clause-signal
pass-requires-2-clause-signal c = omega (arith, c.in-Ok-offers.ensures.ok.live, c.in-Ok-pass.ensures.writes.adds.longer)

pub pass-requires-2-clause-from : goal.pass-requires-2-clause-from
pass-requires-2-clause-from c = place_fits c.args.part.now c.args.out c.place-right.result c.args.device.now.right.0 c.requires.words.words.out_len c.place-right.ensures.some

pub pass-requires-2-clause-to : goal.pass-requires-2-clause-to
pass-requires-2-clause-to c = place_fits c.args.part.now c.args.out c.place-left.result c.args.device.now.left.0 c.requires.words.words.out_len c.place-left.ensures.some

pub returns-in-Err-pass-2-clause-writes : goal.returns-in-Err-pass-2-clause-writes
returns-in-Err-pass-2-clause-writes c =
    let out = c.args.out in
    let first = writes_added out.span c.args.store.now c.offers.new.store c.requires.words.words.out_live c.in-Ok.ensures.adds in
    let second = writes_then out.span c.args.store.now c.offers.new.store c.offers-2.new.store first (writes_added out.span c.offers.new.store c.offers-2.new.store first.live c.in-Ok-offers.ensures.adds) in
    writes_then out.span c.args.store.now c.pass.new.store c.pass-2.new.store (writes_then out.span c.args.store.now c.offers-2.new.store c.pass.new.store second c.in-Ok-pass.ensures.writes) c.in-Err-pass-2.ensures.writes

pub returns-clause-writes : goal.returns-clause-writes
returns-clause-writes c =
    let out = c.args.out in
    let first = writes_added out.span c.args.store.now c.offers.new.store c.requires.words.words.out_live c.in-Ok.ensures.adds in
    let second = writes_then out.span c.args.store.now c.offers.new.store c.offers-2.new.store first (writes_added out.span c.offers.new.store c.offers-2.new.store first.live c.in-Ok-offers.ensures.adds) in
    writes_then out.span c.args.store.now c.pass.new.store c.pass-2.new.store (writes_then out.span c.args.store.now c.offers-2.new.store c.pass.new.store second c.in-Ok-pass.ensures.writes) c.in-Ok-pass-2.ensures.writes

pub returns-in-Err-clause-apart : goal.returns-in-Err-clause-apart
returns-in-Err-clause-apart c k away =
    let word : List ℕ → ℕ = λ ws. slice_index ws (c.args.out.span.start + k) in
    ap word (adds_words c.args.store.now c.offers.new.store c.args.store.now.words c.in-Err.ensures.adds)

pub returns-in-Err-offers-clause-apart : goal.returns-in-Err-offers-clause-apart
returns-in-Err-offers-clause-apart c k away =
    let word : List ℕ → ℕ = λ ws. slice_index ws (c.args.out.span.start + k) in
    let first = ap word (adds_words c.args.store.now c.offers.new.store c.args.store.now.words c.in-Ok.ensures.adds) in
    ap word (adds_words c.offers.new.store c.offers-2.new.store c.offers.new.store.words c.in-Err-offers.ensures.adds) ∙ first

pub returns-in-Err-pass-clause-apart : goal.returns-in-Err-pass-clause-apart
returns-in-Err-pass-clause-apart c k away =
    let word : List ℕ → ℕ = λ ws. slice_index ws (c.args.out.span.start + k) in
    let first = ap word (adds_words c.args.store.now c.offers.new.store c.args.store.now.words c.in-Ok.ensures.adds) in
    let second = ap word (adds_words c.offers.new.store c.offers-2.new.store c.offers.new.store.words c.in-Ok-offers.ensures.adds) in
    c.in-Err-pass.ensures.apart k away ∙ (second ∙ first)

pub returns-in-Err-pass-2-clause-apart : goal.returns-in-Err-pass-2-clause-apart
returns-in-Err-pass-2-clause-apart c k away =
    let word : List ℕ → ℕ = λ ws. slice_index ws (c.args.out.span.start + k) in
    let first = ap word (adds_words c.args.store.now c.offers.new.store c.args.store.now.words c.in-Ok.ensures.adds) in
    let second = ap word (adds_words c.offers.new.store c.offers-2.new.store c.offers.new.store.words c.in-Ok-offers.ensures.adds) in
    c.in-Err-pass-2.ensures.apart k away ∙ (c.in-Ok-pass.ensures.apart k away ∙ (second ∙ first))

pub returns-clause-apart : goal.returns-clause-apart
returns-clause-apart c k away =
    let word : List ℕ → ℕ = λ ws. slice_index ws (c.args.out.span.start + k) in
    let first = ap word (adds_words c.args.store.now c.offers.new.store c.args.store.now.words c.in-Ok.ensures.adds) in
    let second = ap word (adds_words c.offers.new.store c.offers-2.new.store c.offers.new.store.words c.in-Ok-offers.ensures.adds) in
    c.in-Ok-pass-2.ensures.apart k away ∙ (c.in-Ok-pass.ensures.apart k away ∙ (second ∙ first))

pub returns-clause-spreads : goal.returns-clause-spreads
returns-clause-spreads c =
    let circuit = c.args.circuit.now in
    let part = c.args.part.now in
    let gates = c.args.gates in
    let roots = c.args.roots in
    let out = c.args.out in
    let value = c.args.value in
    let side = c.args.side in
    let d = c.args.device.now in
    let old = c.args.store.now in
    let half = c.offers.new.store in
    let a = c.offers-2.new.store in
    let mid = c.pass.new.store in
    let new = c.pass-2.new.store in
    let left = c.place-left.result in
    let right = c.place-right.result in
    let left_is : EndIs part left d.left.0 = record { some = c.place-left.ensures.some; none = c.place-left.ensures.none } in
    let right_is : EndIs part right d.right.0 = record { some = c.place-right.ensures.some; none = c.place-right.ensures.none } in
    let ranges = device_ranges circuit part d c.requires.part.0 c.requires.device in
    let first : Writes out.span old half = writes_added out.span old half c.requires.words.words.out_live c.in-Ok.ensures.adds in
    let same : half.words ≡ old.words = adds_words old half old.words c.in-Ok.ensures.adds in
    let second : Writes out.span half a = writes_added out.span half a first.live c.in-Ok-offers.ensures.adds in
    let same' : a.words ≡ half.words = adds_words half a half.words c.in-Ok-offers.ensures.adds in
    let words_half : HasRootWords circuit part gates roots out half = root_words_kept circuit part c.requires.part.1 c.requires.part.0 gates roots out value old half c.requires.words first in
    spreads_value_both circuit part c.requires.part.1 c.requires.part.0 gates roots out value side d c.requires.device left right left_is right_is
    old a mid new c.read.result c.in-Ok.there.0 c.in-Ok-offers.here.0 c.in-Ok-pass.forth c.in-Ok-pass-2.back c.requires.words c.read.ensures
    (writes_then out.span old half a first second) c.in-Ok-pass.ensures.writes c.in-Ok-pass-2.ensures.writes (same' ∙ same) c.in-Ok-pass.ensures.apart c.in-Ok-offers.ensures.ok.live
    (λ v. second.adds.kept c.in-Ok.there.0 c.in-Ok.ensures.ok.live v ∙ c.in-Ok.ensures.ok.same v
    ∙ sym (offered_kept circuit part c.requires.part.1 c.requires.part.0 gates roots out value half a v side left d.left.0 words_half second same' left_is ranges.left
    ∙ offered_kept circuit part c.requires.part.1 c.requires.part.0 gates roots out value old half v side left d.left.0 c.requires.words first same left_is ranges.left))
    (λ v. c.in-Ok-offers.ensures.ok.same v ∙ sym (offered_kept circuit part c.requires.part.1 c.requires.part.0 gates roots out value half a v side right d.right.0 words_half second same' right_is ranges.right))
    c.in-Ok-pass.ensures.passes c.in-Ok-pass-2.ensures.passes

pub returns-then-blocks-clause-spreads : goal.returns-then-blocks-clause-spreads
returns-then-blocks-clause-spreads c =
    spreads_value_off c.args.circuit.now c.args.part.now c.requires.part.0 c.args.gates c.args.out c.args.device.now c.requires.device c.args.store.now
    (sym c.read.ensures ∙ c.blocks-2.ensures c.if-blocks.true) c.args.roots c.args.value c.args.side

pub returns-in-Err-clause-few : goal.returns-in-Err-clause-few
returns-in-Err-clause-few c u gates roots all =
    let d = c.args.device.now in
    let words = c.requires.words in
    let left_fits = place_fits c.args.part.now c.args.out c.place-left.result d.left.0 words.words.out_len c.place-left.ensures.some in
    let left_is : EndIs c.args.part.now c.place-left.result d.left.0 = record { some = c.place-left.ensures.some; none = c.place-left.ensures.none } in
    let old = c.args.store.now in
    let f : Function = λ v. offered_end old c.args.roots c.args.out c.args.value c.args.side c.place-left.result d.left.0 v in
    spends_refused u c.args.out.span (4 * c.args.out.source + 6) old c.offers.new.store c.in-Err.spent
    (counts_more u 1 (4 * c.args.out.source + 6) old c.offers.new.store (Err c.in-Err.spent) (omega arith)
    (counts_made u old c.offers.new.store c.sound.ensures.sound.ends f (Err c.in-Err.spent) c.in-Err.ensures
    (offered_within u old c.args.roots c.args.out c.args.value c.args.side c.place-left.result d.left.0 left_fits (left_within u c.args.circuit.now c.args.part.now c.requires.part.1 d c.requires.device c.args.roots old roots c.place-left.result left_is) all)))

pub returns-in-Err-offers-clause-few : goal.returns-in-Err-offers-clause-few
returns-in-Err-offers-clause-few c u gates roots all =
    let part = c.args.part.now in
    let out = c.args.out in
    let d = c.args.device.now in
    let words = c.requires.words in
    let left_fits = place_fits part out c.place-left.result d.left.0 words.words.out_len c.place-left.ensures.some in
    let left_is : EndIs part c.place-left.result d.left.0 = record { some = c.place-left.ensures.some; none = c.place-left.ensures.none } in
    let right_fits = place_fits part out c.place-right.result d.right.0 words.words.out_len c.place-right.ensures.some in
    let right_is : EndIs part c.place-right.result d.right.0 = record { some = c.place-right.ensures.some; none = c.place-right.ensures.none } in
    let old = c.args.store.now in
    let half = c.offers.new.store in
    let a = c.offers-2.new.store in
    let reads = offered_within u old c.args.roots out c.args.value c.args.side c.place-left.result d.left.0 left_fits (left_within u c.args.circuit.now part c.requires.part.1 d c.requires.device c.args.roots old roots c.place-left.result left_is) all in
    let f : Function = λ v. offered_end old c.args.roots out c.args.value c.args.side c.place-left.result d.left.0 v in
    let made = finds_made u old half f (Ok c.in-Ok.there) c.sound.ensures.sound.ends c.in-Ok.ensures reads in
    let first : Writes out.span old half = writes_added out.span old half words.words.out_live c.in-Ok.ensures.adds in
    let same = adds_words old half old.words c.in-Ok.ensures.adds in
    let all' = span_still u out.span out.span old half first same words.words.out_live all in
    let roots' = roots_beside u c.args.circuit.now c.args.part.now c.requires.part.1 c.args.roots words.roots_len out.span old half first words.roots_apart words.roots_live roots in
    let reads' = offered_within u half c.args.roots out c.args.value c.args.side c.place-right.result d.right.0 right_fits (right_within u c.args.circuit.now part c.requires.part.1 d c.requires.device c.args.roots half roots' c.place-right.result right_is) all' in
    let g : Function = λ v. offered_end half c.args.roots out c.args.value c.args.side c.place-right.result d.right.0 v in
    spends_refused u out.span (4 * out.source + 6) old a c.in-Err-offers.spent
    (counts_more u 2 (4 * out.source + 6) old a (Err c.in-Err-offers.spent) (omega arith)
    (counts_then u 1 1 old half a (Err c.in-Err-offers.spent) made.counts.added
    (counts_made u half a first.adds.sound.ends g (Err c.in-Err-offers.spent) c.in-Err-offers.ensures reads')))

pub returns-in-Err-pass-clause-few : goal.returns-in-Err-pass-clause-few
returns-in-Err-pass-clause-few c u gates roots all =
    let part = c.args.part.now in
    let out = c.args.out in
    let d = c.args.device.now in
    let words = c.requires.words in
    let ranges = device_ranges c.args.circuit.now part d c.requires.part.0 c.requires.device in
    let left_fits = place_fits part out c.place-left.result d.left.0 words.words.out_len c.place-left.ensures.some in
    let left_is : EndIs part c.place-left.result d.left.0 = record { some = c.place-left.ensures.some; none = c.place-left.ensures.none } in
    let right_fits = place_fits part out c.place-right.result d.right.0 words.words.out_len c.place-right.ensures.some in
    let right_is : EndIs part c.place-right.result d.right.0 = record { some = c.place-right.ensures.some; none = c.place-right.ensures.none } in
    let old = c.args.store.now in
    let half = c.offers.new.store in
    let a = c.offers-2.new.store in
    let reads = offered_within u old c.args.roots out c.args.value c.args.side c.place-left.result d.left.0 left_fits (left_within u c.args.circuit.now part c.requires.part.1 d c.requires.device c.args.roots old roots c.place-left.result left_is) all in
    let f : Function = λ v. offered_end old c.args.roots out c.args.value c.args.side c.place-left.result d.left.0 v in
    let made = finds_made u old half f (Ok c.in-Ok.there) c.sound.ensures.sound.ends c.in-Ok.ensures reads in
    let first : Writes out.span old half = writes_added out.span old half words.words.out_live c.in-Ok.ensures.adds in
    let same = adds_words old half old.words c.in-Ok.ensures.adds in
    let all' = span_still u out.span out.span old half first same words.words.out_live all in
    let roots' = roots_beside u c.args.circuit.now c.args.part.now c.requires.part.1 c.args.roots words.roots_len out.span old half first words.roots_apart words.roots_live roots in
    let reads' = offered_within u half c.args.roots out c.args.value c.args.side c.place-right.result d.right.0 right_fits (right_within u c.args.circuit.now part c.requires.part.1 d c.requires.device c.args.roots half roots' c.place-right.result right_is) all' in
    let g : Function = λ v. offered_end half c.args.roots out c.args.value c.args.side c.place-right.result d.right.0 v in
    let made' = finds_made u half a g (Ok c.in-Ok-offers.here) first.adds.sound.ends c.in-Ok-offers.ensures reads' in
    let second : Writes out.span half a = writes_added out.span half a first.live c.in-Ok-offers.ensures.adds in
    let wa : Writes out.span old a = writes_then out.span old half a first second in
    let live : c.read.result < length old.nodes = omega (arith, c.read.ensures, words.words.gates_live d.gate.0 (omega (arith, ranges.gate, words.words.gates_len))) in
    let gate : IsWithin u (meaning old.nodes c.read.result) =
    subst (λ (h : ℕ). IsWithin u (meaning old.nodes h)) (sym c.read.ensures) (gates d c.requires.device) in
    let gate_a = handle_kept u out.span old a c.read.result wa live gate in
    let there = handle_kept u out.span half a c.in-Ok.there.0 second c.in-Ok.ensures.ok.live made.within in
    let all_a = span_still u out.span out.span half a second (adds_words half a half.words c.in-Ok-offers.ensures.adds) first.live all' in
    let count_a = counted_then u 1 1 old half a made.counts.added made'.counts.added in
    spends_more u out.span (2 + (2 * out.source + 2)) (4 * out.source + 6) old c.pass.new.store (Err c.in-Err-pass.spent) (omega arith)
    (spends_behind u out.span 2 (2 * out.source + 2) old a c.pass.new.store (Err c.in-Err-pass.spent) count_a (c.in-Err-pass.ensures.few u all_a gate_a there))

pub returns-in-Err-pass-2-clause-few : goal.returns-in-Err-pass-2-clause-few
returns-in-Err-pass-2-clause-few c u gates roots all =
    let part = c.args.part.now in
    let out = c.args.out in
    let d = c.args.device.now in
    let words = c.requires.words in
    let ranges = device_ranges c.args.circuit.now part d c.requires.part.0 c.requires.device in
    let left_fits = place_fits part out c.place-left.result d.left.0 words.words.out_len c.place-left.ensures.some in
    let left_is : EndIs part c.place-left.result d.left.0 = record { some = c.place-left.ensures.some; none = c.place-left.ensures.none } in
    let right_fits = place_fits part out c.place-right.result d.right.0 words.words.out_len c.place-right.ensures.some in
    let right_is : EndIs part c.place-right.result d.right.0 = record { some = c.place-right.ensures.some; none = c.place-right.ensures.none } in
    let old = c.args.store.now in
    let half = c.offers.new.store in
    let a = c.offers-2.new.store in
    let reads = offered_within u old c.args.roots out c.args.value c.args.side c.place-left.result d.left.0 left_fits (left_within u c.args.circuit.now part c.requires.part.1 d c.requires.device c.args.roots old roots c.place-left.result left_is) all in
    let f : Function = λ v. offered_end old c.args.roots out c.args.value c.args.side c.place-left.result d.left.0 v in
    let made = finds_made u old half f (Ok c.in-Ok.there) c.sound.ensures.sound.ends c.in-Ok.ensures reads in
    let first : Writes out.span old half = writes_added out.span old half words.words.out_live c.in-Ok.ensures.adds in
    let same = adds_words old half old.words c.in-Ok.ensures.adds in
    let all' = span_still u out.span out.span old half first same words.words.out_live all in
    let roots' = roots_beside u c.args.circuit.now c.args.part.now c.requires.part.1 c.args.roots words.roots_len out.span old half first words.roots_apart words.roots_live roots in
    let reads' = offered_within u half c.args.roots out c.args.value c.args.side c.place-right.result d.right.0 right_fits (right_within u c.args.circuit.now part c.requires.part.1 d c.requires.device c.args.roots half roots' c.place-right.result right_is) all' in
    let g : Function = λ v. offered_end half c.args.roots out c.args.value c.args.side c.place-right.result d.right.0 v in
    let made' = finds_made u half a g (Ok c.in-Ok-offers.here) first.adds.sound.ends c.in-Ok-offers.ensures reads' in
    let second : Writes out.span half a = writes_added out.span half a first.live c.in-Ok-offers.ensures.adds in
    let wa : Writes out.span old a = writes_then out.span old half a first second in
    let live : c.read.result < length old.nodes = omega (arith, c.read.ensures, words.words.gates_live d.gate.0 (omega (arith, ranges.gate, words.words.gates_len))) in
    let gate : IsWithin u (meaning old.nodes c.read.result) =
    subst (λ (h : ℕ). IsWithin u (meaning old.nodes h)) (sym c.read.ensures) (gates d c.requires.device) in
    let gate_a = handle_kept u out.span old a c.read.result wa live gate in
    let there = handle_kept u out.span half a c.in-Ok.there.0 second c.in-Ok.ensures.ok.live made.within in
    let all_a = span_still u out.span out.span half a second (adds_words half a half.words c.in-Ok-offers.ensures.adds) first.live all' in
    let count_a = counted_then u 1 1 old half a made.counts.added made'.counts.added in
    let mid = c.pass.new.store in
    let forth = c.in-Ok-pass.ensures.few u all_a gate_a there in
    let wm : Writes out.span a mid = c.in-Ok-pass.ensures.writes in
    let live_a : c.read.result < length a.nodes = omega (arith, live, wa.adds.longer) in
    let gate_m = handle_kept u out.span a mid c.read.result wm live_a gate_a in
    let here = handle_kept u out.span a mid c.in-Ok-offers.here.0 wm c.in-Ok-offers.ensures.ok.live made'.within in
    let count_m = counted_then u 2 (2 * out.source + 2) old a mid count_a forth.counts.added in
    spends_more u out.span (2 + (2 * out.source + 2) + (2 * out.source + 2)) (4 * out.source + 6) old c.pass-2.new.store (Err c.in-Err-pass-2.spent) (omega arith)
    (spends_behind u out.span (2 + (2 * out.source + 2)) (2 * out.source + 2) old mid c.pass-2.new.store (Err c.in-Err-pass-2.spent) count_m (c.in-Err-pass-2.ensures.few u forth.within gate_m here))

pub returns-clause-few : goal.returns-clause-few
returns-clause-few c u gates roots all =
    let part = c.args.part.now in
    let out = c.args.out in
    let d = c.args.device.now in
    let words = c.requires.words in
    let ranges = device_ranges c.args.circuit.now part d c.requires.part.0 c.requires.device in
    let left_fits = place_fits part out c.place-left.result d.left.0 words.words.out_len c.place-left.ensures.some in
    let left_is : EndIs part c.place-left.result d.left.0 = record { some = c.place-left.ensures.some; none = c.place-left.ensures.none } in
    let right_fits = place_fits part out c.place-right.result d.right.0 words.words.out_len c.place-right.ensures.some in
    let right_is : EndIs part c.place-right.result d.right.0 = record { some = c.place-right.ensures.some; none = c.place-right.ensures.none } in
    let old = c.args.store.now in
    let half = c.offers.new.store in
    let a = c.offers-2.new.store in
    let reads = offered_within u old c.args.roots out c.args.value c.args.side c.place-left.result d.left.0 left_fits (left_within u c.args.circuit.now part c.requires.part.1 d c.requires.device c.args.roots old roots c.place-left.result left_is) all in
    let f : Function = λ v. offered_end old c.args.roots out c.args.value c.args.side c.place-left.result d.left.0 v in
    let made = finds_made u old half f (Ok c.in-Ok.there) c.sound.ensures.sound.ends c.in-Ok.ensures reads in
    let first : Writes out.span old half = writes_added out.span old half words.words.out_live c.in-Ok.ensures.adds in
    let same = adds_words old half old.words c.in-Ok.ensures.adds in
    let all' = span_still u out.span out.span old half first same words.words.out_live all in
    let roots' = roots_beside u c.args.circuit.now c.args.part.now c.requires.part.1 c.args.roots words.roots_len out.span old half first words.roots_apart words.roots_live roots in
    let reads' = offered_within u half c.args.roots out c.args.value c.args.side c.place-right.result d.right.0 right_fits (right_within u c.args.circuit.now part c.requires.part.1 d c.requires.device c.args.roots half roots' c.place-right.result right_is) all' in
    let g : Function = λ v. offered_end half c.args.roots out c.args.value c.args.side c.place-right.result d.right.0 v in
    let made' = finds_made u half a g (Ok c.in-Ok-offers.here) first.adds.sound.ends c.in-Ok-offers.ensures reads' in
    let second : Writes out.span half a = writes_added out.span half a first.live c.in-Ok-offers.ensures.adds in
    let wa : Writes out.span old a = writes_then out.span old half a first second in
    let live : c.read.result < length old.nodes = omega (arith, c.read.ensures, words.words.gates_live d.gate.0 (omega (arith, ranges.gate, words.words.gates_len))) in
    let gate : IsWithin u (meaning old.nodes c.read.result) =
    subst (λ (h : ℕ). IsWithin u (meaning old.nodes h)) (sym c.read.ensures) (gates d c.requires.device) in
    let gate_a = handle_kept u out.span old a c.read.result wa live gate in
    let there = handle_kept u out.span half a c.in-Ok.there.0 second c.in-Ok.ensures.ok.live made.within in
    let all_a = span_still u out.span out.span half a second (adds_words half a half.words c.in-Ok-offers.ensures.adds) first.live all' in
    let count_a = counted_then u 1 1 old half a made.counts.added made'.counts.added in
    let mid = c.pass.new.store in
    let forth = c.in-Ok-pass.ensures.few u all_a gate_a there in
    let wm : Writes out.span a mid = c.in-Ok-pass.ensures.writes in
    let live_a : c.read.result < length a.nodes = omega (arith, live, wa.adds.longer) in
    let gate_m = handle_kept u out.span a mid c.read.result wm live_a gate_a in
    let here = handle_kept u out.span a mid c.in-Ok-offers.here.0 wm c.in-Ok-offers.ensures.ok.live made'.within in
    let count_m = counted_then u 2 (2 * out.source + 2) old a mid count_a forth.counts.added in
    spends_value u out.span (4 * out.source + 6) old c.pass-2.new.store c.in-Ok-pass-2.back (c.in-Ok-pass.forth || c.in-Ok-pass-2.back)
    (spends_more u out.span (2 + (2 * out.source + 2) + (2 * out.source + 2)) (4 * out.source + 6) old c.pass-2.new.store (Ok c.in-Ok-pass-2.back) (omega arith)
    (spends_behind u out.span (2 + (2 * out.source + 2)) (2 * out.source + 2) old mid c.pass-2.new.store (Ok c.in-Ok-pass-2.back) count_m (c.in-Ok-pass-2.ensures.few u forth.within gate_m here)))

pub returns-then-is_idle-clause-spreads : goal.returns-then-is_idle-clause-spreads
returns-then-is_idle-clause-spreads c =
    let q = c.is_idle.ensures c.if-is_idle.true in
    spreads_value_idle c.args.circuit.now c.args.part.now c.requires.part.1 c.args.gates c.args.out c.args.device.now c.requires.device c.args.store.now c.args.side q.0 q.1 c.args.roots c.args.value
