use Rattle.std.proofs.Common.{◌≡◌, ℕ, ◌<◌, ◌⊎◌, length, true}
use Rattle.vrt_model.specs.Lists.{At, Among, MarksGrow, mark_at}
use Rattle.vrt_model.specs.declared.whole.WholePin.{WholePin}
use Rattle.known_nets.proofs.incidence.mark_outputs.Given as goal

abbrev pub invariant-loop-at : goal.invariant-loop-at
invariant-loop-at l = record {
  size : length l.marks.items ≡ length l.initial.marks.items;
  grown : MarksGrow l.initial.marks.items l.marks.items;
  pins : (k : ℕ) → k < l.at → (pin : WholePin) → At l.whole.outputs k pin → mark_at l.marks.items pin.net.0 ≡ true;
  only : (n : ℕ) → mark_at l.marks.items n ≡ true → (mark_at l.initial.marks.items n ≡ true) ⊎ ((pin : WholePin) × Among l.whole.outputs pin × (pin.net.0 ≡ n));
}
