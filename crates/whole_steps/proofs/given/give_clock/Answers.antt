use Rattle.std.proofs.Common.{ℕ, Bool, true, false, cond, refl, subst, sym, ◌∙◌}
use Rattle.bdd_core.proofs.Frames.{rest_then, word_apart, word_here}
use Rattle.bdd_core.specs.Diagram.{IsWithin, meaning}
use Rattle.bdd_core.specs.Store.{Diagrams}
use Rattle.bdd_ops.proofs.WithinLaws.{within_one, within_zero}
use Rattle.whole_steps.proofs.GivenLaws.{within_more}
use Rattle.whole_steps.proofs.given.give_clock.Goals as goal

-- a constant reads nothing
bit_within : (u : ℕ) (d : Diagrams) (b : Bool) → IsWithin u (meaning d.nodes (cond b 1 0))
bit_within u d true = within_one u d
bit_within u d false = within_zero u d

pub returns-clause-within : goal.returns-clause-within
returns-clause-within c u reads =
    let given = c.args.given in
    let at = c.args.one.signal in
    let old = c.args.store.now in
    let new = c.write.new.self in
    let h = c.constant-bit.result.0 in
    let span = c.requires.given.0.1 in
    within_more u given old new at (rest_then old old new _ refl c.write.ensures)
    (subst (λ (k : ℕ). IsWithin u (meaning old.nodes k)) (sym (word_here given old new at h c.write.ensures c.requires.within span ∙ c.constant-bit.ensures)) (bit_within u old c.bit_of_clock.result))
    (λ s ne. word_apart given old new at h c.write.ensures c.requires.within span s ne) reads
