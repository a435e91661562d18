use Rattle.std.proofs.Common.{◌≡◌, ℕ, ◌+◌, ◌≤◌, length, length-set, arith, ap, sym, subst, ◌∙◌, inl, inr, below_more}
use Rattle.bdd_core.specs.Store.{Diagrams}
use Rattle.bdd_core.specs.Words.{word_at}
use Rattle.bdd_core.proofs.Frames.{rest_then, word_apart, word_here, word_other, writes_zero}
use Rattle.whole_steps.proofs.given.clear.Goals as goal

pub write-requires-clause-live : goal.write-requires-clause-live
write-requires-clause-live c =
    (subst (λ (d : Diagrams). d.own ≤ c.args.given.start) (sym c.loop-at.invariant.rest) c.requires.given.0, omega (arith, c.requires.given.1, c.loop-at.invariant.len))

pub loop-at-preserved : goal.loop-at-preserved
loop-at-preserved c =
    let out = c.args.given in
    let at = c.loop-at.at in
    let old = c.loop-at.store in
    let new = c.write.new.self in
    let i = c.loop-at.invariant in
    let span : out.start + out.len ≤ length old.words = omega (arith, c.requires.given.1, i.len) in
    let words : length new.words ≡ length old.words = ap {B = ℕ} (λ (d : Diagrams). length d.words) c.write.ensures ∙ length-set old.words (out.start + at) 0 in
    record {
      rest = rest_then c.args.store.now old new _ i.rest c.write.ensures;
      len = words ∙ i.len;
      others = λ j o. word_other out old new at 0 c.write.ensures c.loop-at-test.true span j
          (λ e. elim o [ inl low ↦ omega (arith, low, e) | inr high ↦ omega (arith, high, e, c.loop-at-test.true) ]) ∙ i.others j o;
      zero = below_more (λ k. word_at new out k ≡ 0) at
          (λ k lt. word_apart out old new at 0 c.write.ensures c.loop-at-test.true span k (λ e. omega (arith, lt, e)) ∙ i.zero k lt)
          (word_here out old new at 0 c.write.ensures c.loop-at-test.true span);
    }

pub returns-clause-writes : goal.returns-clause-writes
returns-clause-writes c =
    let i = c.loop-at.invariant in
    writes_zero c.args.given c.args.store.now c.loop-at.store i.rest c.sound.ensures.sound c.sound.ensures.within i.len i.others
    (λ k lt. i.zero k (omega (arith, lt, c.loop-at-test.false)))

pub returns-clause-zeros : goal.returns-clause-zeros
returns-clause-zeros c k lt = c.loop-at.invariant.zero k (omega (arith, lt, c.loop-at-test.false))
