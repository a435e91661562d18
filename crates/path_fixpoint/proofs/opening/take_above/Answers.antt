use Rattle.std.proofs.Common.{◌≡◌, ℕ, ◌+◌, arith, ap, sym, ◌∙◌, below_more}
use Rattle.path_fixpoint.specs.Openings.{TakesAbove, mark_of}
use Rattle.path_fixpoint.specs.Strengths.{word_of}
use Rattle.bdd_core.specs.Words.{word_at}
use Rattle.bdd_core.proofs.Frames.{writes_then}
use Rattle.path_fixpoint.proofs.Places.{levels_differ, words_differ}
use Rattle.path_fixpoint.proofs.SpendingLaws.{rewrites_then}
use Rattle.path_fixpoint.proofs.opening.take_above.Goals as goal

pub loop-i-preserved : goal.loop-i-preserved
loop-i-preserved c =
    let out = c.args.out in
    let level = c.args.level in
    let at = c.loop-i.i in
    let first = c.args.store.now in
    let old = c.loop-i.store in
    let new = c.set.new.store in
    let i = c.loop-i.invariant in
    let here : mark_of new out level at ≡ c.above-handle.result.0 = ap (λ (x : ℕ). word_at new out.span x) (sym c.word.ensures) ∙ c.set.ensures.here in
    let upper : mark_of old out (level + 1) at ≡ mark_of first out (level + 1) at =
    i.apart (word_of out (level + 1) at) (λ j e. omega (arith, levels_differ out (level + 1) level at j (omega arith) (omega (arith, c.requires.level.1)) c.requires.level.0 (omega (arith, c.requires.level.1)) e)) in
    record {
      writes = writes_then out.span first old new i.writes c.set.ensures.writes;
      apart = λ k away. c.set.ensures.apart k (λ e. away at (e ∙ c.word.ensures)) ∙ i.apart k away;
      taken = below_more (λ k. TakesAbove out level first new k) at
          (λ k lt.
          let same : mark_of new out level k ≡ mark_of old out level k = c.set.ensures.apart (word_of out level k) (λ e. omega (arith, lt, words_differ out level k at (e ∙ c.word.ensures))) in
          (λ below. same ∙ (i.taken k lt).0 below, λ top. same ∙ (i.taken k lt).1 top))
          (λ below. here ∙ c.above-handle.ensures.below below ∙ upper, λ top. here ∙ c.above-handle.ensures.highest top);
      few = λ u all. let r = i.few u all in rewrites_then u out.span first old new r (c.set.ensures.few u r.within (c.above-handle.ensures.few u r.within));
    }
