use Rattle.std.proofs.Common.{◌≡◌, ℕ, arith, ap, sym, ◌∙◌, below_more}
use Rattle.path_fixpoint.specs.Reaching.{slot_of}
use Rattle.path_fixpoint.specs.Strengths.{word_of}
use Rattle.bdd_core.specs.Words.{word_at}
use Rattle.bdd_core.proofs.Frames.{writes_then}
use Rattle.path_fixpoint.proofs.Places.{words_differ}
use Rattle.bdd_ops.proofs.WithinLaws.{within_zero}
use Rattle.path_fixpoint.proofs.SpendingLaws.{rewrites_then}
use Rattle.path_fixpoint.proofs.sources.clear.Goals as goal

pub loop-i-preserved : goal.loop-i-preserved
loop-i-preserved c =
    let out = c.args.out in
    let value = c.args.value in
    let at = c.loop-i.i in
    let new = c.set.new.store in
    let i = c.loop-i.invariant in
    let place : c.word.result ≡ word_of out (slot_of out value) at = c.word.ensures ∙ ap (λ (l : ℕ). word_of out l at) c.slot.ensures in
    record {
      writes = writes_then out.span c.args.store.now c.loop-i.store new i.writes c.set.ensures.writes;
      apart = λ k away. c.set.ensures.apart k (λ e. away at (e ∙ place)) ∙ i.apart k away;
      zero = below_more (λ k. word_at new out.span (word_of out (slot_of out value) k) ≡ 0) at
          (λ k lt. c.set.ensures.apart (word_of out (slot_of out value) k) (λ e. omega (arith, lt, words_differ out (slot_of out value) k at (e ∙ place))) ∙ i.zero k lt)
          (ap (λ (x : ℕ). word_at new out.span x) (sym place) ∙ c.set.ensures.here);
      few = λ u all. let r = i.few u all in rewrites_then u out.span c.args.store.now c.loop-i.store new r (c.set.ensures.few u r.within (within_zero u c.loop-i.store));
    }
