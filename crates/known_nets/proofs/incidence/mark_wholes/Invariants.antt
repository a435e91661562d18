use Rattle.std.proofs.Common.{◌≡◌, ℕ, ◌<◌, ◌⊎◌, length, true}
use Rattle.vrt_model.specs.Known.{IsDriven}
use Rattle.vrt_model.specs.Lists.{At, Among, MarksGrow, mark_at}
use Rattle.vrt_model.specs.declared.whole.Whole.{Whole}
use Rattle.vrt_model.specs.declared.whole.WholePin.{WholePin}
use Rattle.known_nets.proofs.incidence.mark_wholes.Given as goal

abbrev pub invariant-loop-whole : goal.invariant-loop-whole
invariant-loop-whole l = record {
  size : length l.marks.items ≡ length l.initial.marks.items;
  grown : MarksGrow l.initial.marks.items l.marks.items;
  pins : (k : ℕ) → k < l.whole-index → (w : Whole) → At l.circuit.wholes k w → (pin : WholePin) → Among w.outputs pin → mark_at l.marks.items pin.net.0 ≡ true;
  only : (n : ℕ) → mark_at l.marks.items n ≡ true → (mark_at l.initial.marks.items n ≡ true) ⊎ IsDriven l.circuit n;
}
