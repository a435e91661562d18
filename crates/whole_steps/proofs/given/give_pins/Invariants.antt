use Rattle.std.proofs.Common.{◌≡◌, ℕ}
use Rattle.bdd_core.specs.Words.{Writes, word_at}
use Rattle.bdd_ops.specs.Counting.{IsSpanWithin}
use Rattle.vrt_model.specs.declared.whole.WholePin.{WholePin}
use Rattle.whole_steps.proofs.GivenLaws.{HaveWords, KeepsOthers}
use Rattle.whole_steps.proofs.given.give_pins.Given as goal

abbrev pub invariant-loop-pin : goal.invariant-loop-pin
invariant-loop-pin l = record {
  writes : Writes l.fn.given l.fn.store l.store;
  rest : l.store ≡ record l.fn.store { words = l.store.words };
  tied : HaveWords WholePin l.pins (λ p. p.signal) (λ p. word_at l.fn.store l.fn.gates p.net.0) l.fn.given l.pin-index l.store;
  others : KeepsOthers WholePin l.pins (λ p. p.signal) (λ p. word_at l.fn.store l.fn.gates p.net.0) l.fn.given l.fn.store l.store;
  within : (u : ℕ) → IsSpanWithin u l.fn.store l.fn.gates → IsSpanWithin u l.fn.store l.fn.given → IsSpanWithin u l.store l.fn.given;
}
