use Rattle.std.proofs.Common.{◌≡◌, ℕ, cond}
use Rattle.bdd_core.specs.Words.{Writes}
use Rattle.bdd_ops.specs.Counting.{IsSpanWithin}
use Rattle.vrt_model.specs.Reading.{clock_bit}
use Rattle.vrt_model.specs.declared.pairing.ClockedSignal.{ClockedSignal}
use Rattle.whole_steps.proofs.GivenLaws.{HaveWords, KeepsOthers}
use Rattle.whole_steps.proofs.given.give_clocks.Given as goal

abbrev pub invariant-loop-one : goal.invariant-loop-one
invariant-loop-one l = record {
  writes : Writes l.fn.given l.fn.store l.store;
  rest : l.store ≡ record l.fn.store { words = l.store.words };
  clocked : HaveWords ClockedSignal l.clocked (λ c. c.signal) (λ c. cond (clock_bit l.phase c.clock) 1 0) l.fn.given l.one-index l.store;
  others : KeepsOthers ClockedSignal l.clocked (λ c. c.signal) (λ c. cond (clock_bit l.phase c.clock) 1 0) l.fn.given l.fn.store l.store;
  within : (u : ℕ) → IsSpanWithin u l.fn.store l.fn.given → IsSpanWithin u l.store l.fn.given;
}
