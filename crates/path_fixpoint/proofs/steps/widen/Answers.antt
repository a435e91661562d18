use Rattle.std.proofs.Common.{ℕ, true, false, Err, Ok, arith, sym, subst}
use Rattle.bdd_core.specs.Diagram.{Function, IsWithin, meaning}
use Rattle.bdd_ops.specs.Ops.{or_of}
use Rattle.bdd_ops.proofs.CountingLaws.{counts_made, counts_value}
use Rattle.bdd_ops.proofs.WithinLaws.{within_or}
use Rattle.bdd_core.specs.Words.{Writes}
use Rattle.bdd_core.proofs.Frames.{writes_then, writes_word, adds_words, writes_added}
use Rattle.path_fixpoint.proofs.SpendingLaws.{finds_made, rewrites_word, span_still, spends_refused, spends_rewrites}
use Rattle.path_fixpoint.proofs.steps.widen.Goals as goal

pub returns-in-Err-clause-writes : goal.returns-in-Err-clause-writes
returns-in-Err-clause-writes c = writes_added c.args.out c.args.store.now c.or.new.store c.requires.out.1 c.in-Err.ensures.makes.adds

pub returns-then-after-before-clause-writes : goal.returns-then-after-before-clause-writes
returns-then-after-before-clause-writes c = writes_added c.args.out c.args.store.now c.or.new.store c.requires.out.1 c.in-Ok.ensures.makes.adds

pub returns-clause-writes : goal.returns-clause-writes
returns-clause-writes c =
    let out = c.args.out in
    let first : Writes out c.args.store.now c.or.new.store = writes_added out c.args.store.now c.or.new.store c.requires.out.1 c.in-Ok.ensures.makes.adds in
    writes_then out c.args.store.now c.or.new.store c.write.new.self first
    (writes_word out c.or.new.store c.write.new.self c.args.at c.in-Ok.after.0 c.write.ensures c.requires.at (omega (arith, c.requires.out.0.1, first.len))
    c.in-Ok.ensures.makes.ok.live first.adds.sound first.adds.within first.live)

pub returns-in-Err-clause-few : goal.returns-in-Err-clause-few
returns-in-Err-clause-few c u all signal =
    let old = c.args.store.now in
    let before : IsWithin u (meaning old.nodes c.read.result) = subst (λ (h : ℕ). IsWithin u (meaning old.nodes h)) (sym c.read.ensures) (all c.args.at c.requires.at) in
    spends_refused u c.args.out 1 old c.or.new.store c.in-Err.spent
    (counts_made u old c.or.new.store c.sound.ensures.sound.ends (or_of (meaning old.nodes c.read.result) (meaning old.nodes c.args.signal.0)) (Err c.in-Err.spent) c.in-Err.ensures.makes
    (within_or u (meaning old.nodes c.read.result) (meaning old.nodes c.args.signal.0) before signal))

pub returns-then-after-before-clause-few : goal.returns-then-after-before-clause-few
returns-then-after-before-clause-few c u all signal =
    let out = c.args.out in
    let old = c.args.store.now in
    let new = c.or.new.store in
    let before : IsWithin u (meaning old.nodes c.read.result) = subst (λ (h : ℕ). IsWithin u (meaning old.nodes h)) (sym c.read.ensures) (all c.args.at c.requires.at) in
    let f : Function = or_of (meaning old.nodes c.read.result) (meaning old.nodes c.args.signal.0) in
    record {
      counts = counts_value u 1 old new c.in-Ok.after false
          (counts_made u old new c.sound.ensures.sound.ends f (Ok c.in-Ok.after) c.in-Ok.ensures.makes (within_or u (meaning old.nodes c.read.result) (meaning old.nodes c.args.signal.0) before signal));
      within = span_still u out out old new (writes_added out old new c.requires.out.1 c.in-Ok.ensures.makes.adds) (adds_words old new old.words c.in-Ok.ensures.makes.adds) c.requires.out.1 all;
    }

pub returns-clause-few : goal.returns-clause-few
returns-clause-few c u all signal =
    let out = c.args.out in
    let old = c.args.store.now in
    let mid = c.or.new.store in
    let before : IsWithin u (meaning old.nodes c.read.result) = subst (λ (h : ℕ). IsWithin u (meaning old.nodes h)) (sym c.read.ensures) (all c.args.at c.requires.at) in
    let f : Function = or_of (meaning old.nodes c.read.result) (meaning old.nodes c.args.signal.0) in
    let first : Writes out old mid = writes_added out old mid c.requires.out.1 c.in-Ok.ensures.makes.adds in
    let made = finds_made u old mid f (Ok c.in-Ok.after) c.sound.ensures.sound.ends c.in-Ok.ensures.makes (within_or u (meaning old.nodes c.read.result) (meaning old.nodes c.args.signal.0) before signal) in
    spends_rewrites u out 1 old mid c.write.new.self true made.counts.added
    (rewrites_word u out mid c.write.new.self c.args.at c.in-Ok.after.0 c.write.ensures c.requires.at (omega (arith, c.requires.out.0.1, first.len)) made.within
    (span_still u out out old mid first (adds_words old mid old.words c.in-Ok.ensures.makes.adds) c.requires.out.1 all))
