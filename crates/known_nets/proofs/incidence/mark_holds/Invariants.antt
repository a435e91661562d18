use Rattle.std.proofs.Common.{◌≡◌, ℕ, ◌<◌, ◌⊎◌, length, true}
use Rattle.vrt_model.specs.Known.{IsHeld}
use Rattle.vrt_model.specs.Lists.{At, mark_at}
use Rattle.vrt_model.specs.declared.circuit.Hold.{Hold}
use Rattle.known_nets.proofs.incidence.mark_holds.Given as goal

abbrev pub invariant-loop-hold : goal.invariant-loop-hold
invariant-loop-hold l = record {
  size : length l.marks.items ≡ length l.initial.marks.items;
  holds : (k : ℕ) → k < l.hold-index → (hold : Hold) → At l.circuit.holds k hold → mark_at l.marks.items hold.net.0 ≡ true;
  only : (n : ℕ) → mark_at l.marks.items n ≡ true → (mark_at l.initial.marks.items n ≡ true) ⊎ IsHeld l.circuit n;
}
