use Rattle.std.proofs.Common.{◌≡◌, false, ℕ, ◌+◌, ◌*◌, ◌<◌, ◌≤◌, List, Ok, Err, Option, slice_index, arith, ap, sym, subst, ◌∙◌}
use Rattle.std.specs.Prelude.{IfSome}
use Rattle.bdd_core.specs.Diagram.{Function, meaning}
use Rattle.bdd_core.specs.Words.{word_at}
use Rattle.bdd_core.proofs.Results.{if_ok_more}
use Rattle.bdd_ops.proofs.CountingLaws.{counts_made, counts_more}
use Rattle.path_fixpoint.specs.Passed.{IsWider, gated}
use Rattle.path_fixpoint.specs.Strengths.{Passes, word_of}
use Rattle.bdd_core.proofs.Frames.{writes_then, adds_words, writes_added}
use Rattle.path_fixpoint.proofs.Passing.{passes_from}
use Rattle.path_fixpoint.proofs.SpendingLaws.{finds_made, span_still, spends_behind, spends_refused, within_gated}
use Rattle.path_fixpoint.proofs.Idle.{passes_full, passes_none}
use Rattle.path_fixpoint.proofs.rounds.pass.Goals as goal
use Rattle.path_fixpoint.specs.Strengths.{net_words}

pub returns-in-Err-clause-writes : goal.returns-in-Err-clause-writes
returns-in-Err-clause-writes c = writes_added c.args.out.span c.args.store.now c.through.new.store c.requires.out.1 c.in-Err.ensures.adds

pub returns-clause-writes : goal.returns-clause-writes
returns-clause-writes c =
    writes_then c.args.out.span c.args.store.now c.through.new.store c.widen.new.store
    (writes_added c.args.out.span c.args.store.now c.through.new.store c.requires.out.1 c.in-Ok.ensures.adds) c.widen.ensures.writes

pub returns-in-Err-clause-apart : goal.returns-in-Err-clause-apart
returns-in-Err-clause-apart c k away = ap (λ (ws : List ℕ). slice_index ws (c.args.out.span.start + k)) (adds_words c.args.store.now c.through.new.store c.args.store.now.words c.in-Err.ensures.adds)

pub returns-clause-apart : goal.returns-clause-apart
returns-clause-apart c k away =
    c.widen.ensures.apart k (λ e. away c.in-Some.to (e ∙ c.word-at.ensures))
    ∙ ap (λ (ws : List ℕ). slice_index ws (c.args.out.span.start + k)) (adds_words c.args.store.now c.through.new.store c.args.store.now.words c.in-Ok.ensures.adds)

pub returns-clause-passes : goal.returns-clause-passes
returns-clause-passes c =
    let out = c.args.out in
    let level = c.args.level in
    let old = c.args.store.now in
    let mid = c.through.new.store in
    let new = c.widen.new.store in
    let to = c.in-Some.to in
    let passed = c.in-Ok.passed in
    let fits : net_words out.source * to + net_words out.source ≤ out.span.len = subst (λ (o : Option ℕ). IfSome o (λ i. net_words out.source * i + net_words out.source ≤ out.span.len)) c.in-Some.is c.requires.to in
    let inside : word_of out level to < out.span.len = omega (arith, fits, c.requires.level.0, c.requires.level.1) in
    if_ok_more (λ changed. IsWider out.span c.word-at.result (meaning mid.nodes passed.0) changed mid new) (λ changed. Passes out level c.args.kind c.args.gate.0 c.args.signal.0 c.args.to changed old new) c.widen.result
    (λ changed wider.
    subst (λ (o : Option ℕ). Passes out level c.args.kind c.args.gate.0 c.args.signal.0 o changed old new) (sym c.in-Some.is)
    (passes_from out level c.args.kind c.args.gate.0 c.args.signal.0 to old mid new passed changed c.in-Ok.ensures c.requires.out.1
    (subst (λ (at : ℕ). IsWider out.span at (meaning mid.nodes passed.0) changed mid new) c.word-at.ensures wider)
    c.widen.ensures.writes (λ k ne. c.widen.ensures.apart k (λ e. ne (e ∙ c.word-at.ensures))) inside))
    c.widen.ensures.wider

pub returns-in-Err-clause-few : goal.returns-in-Err-clause-few
returns-in-Err-clause-few c u all gate signal =
    let old = c.args.store.now in
    let f : Function = gated c.args.kind (meaning old.nodes c.args.gate.0) (meaning old.nodes c.args.signal.0) in
    spends_refused u c.args.out.span 2 old c.through.new.store c.in-Err.spent
    (counts_more u 1 2 old c.through.new.store (Err c.in-Err.spent) (omega arith)
    (counts_made u old c.through.new.store c.sound.ensures.sound.ends f (Err c.in-Err.spent) c.in-Err.ensures
    (within_gated u c.args.kind (meaning old.nodes c.args.gate.0) (meaning old.nodes c.args.signal.0) gate signal)))

pub returns-clause-few : goal.returns-clause-few
returns-clause-few c u all gate signal =
    let out = c.args.out in
    let old = c.args.store.now in
    let mid = c.through.new.store in
    let f : Function = gated c.args.kind (meaning old.nodes c.args.gate.0) (meaning old.nodes c.args.signal.0) in
    let made = finds_made u old mid f (Ok c.in-Ok.passed) c.sound.ensures.sound.ends c.in-Ok.ensures
    (within_gated u c.args.kind (meaning old.nodes c.args.gate.0) (meaning old.nodes c.args.signal.0) gate signal) in
    spends_behind u out.span 1 1 old mid c.widen.new.store c.widen.result made.counts.added
    (c.widen.ensures.few u
    (span_still u out.span out.span old mid (writes_added out.span old mid c.requires.out.1 c.in-Ok.ensures.adds) (adds_words old mid old.words c.in-Ok.ensures.adds) c.requires.out.1 all) made.within)

pub is_full-requires-clause-at : goal.is_full-requires-clause-at
is_full-requires-clause-at c =
    let out = c.args.out in
    let fits : net_words out.source * c.in-Some.to + net_words out.source ≤ out.span.len = subst (λ (o : Option ℕ). IfSome o (λ i. net_words out.source * i + net_words out.source ≤ out.span.len)) c.in-Some.is c.requires.to in
    omega (arith, c.word-at.ensures, fits, c.requires.level.0, c.requires.level.1)

pub returns-then-is_full-clause-passes : goal.returns-then-is_full-clause-passes
returns-then-is_full-clause-passes c =
    let out = c.args.out in
    let level = c.args.level in
    let d = c.args.store.now in
    let full : word_at d out.span (word_of out level c.in-Some.to) ≡ 1 = ap (λ (x : ℕ). word_at d out.span x) (sym c.word-at.ensures) ∙ c.is_full.ensures c.if-is_full.true in
    subst (λ (o : Option ℕ). Passes out level c.args.kind c.args.gate.0 c.args.signal.0 o false d d) (sym c.in-Some.is)
    (passes_full out level d c.in-Some.to full c.args.kind c.args.gate.0 c.args.signal.0)

pub returns-then-signal-eq0-clause-passes : goal.returns-then-signal-eq0-clause-passes
returns-then-signal-eq0-clause-passes c = passes_none c.args.out c.args.level c.args.store.now c.args.to c.args.kind c.args.gate.0 c.args.signal.0 (omega (arith, c.if-signal-eq0.true))
