use Rattle.std.proofs.Common.{◌≡◌, ℕ, ◌+◌, ◌++◌, List, length, ap, sym, subst, ◌∙◌}
use Rattle.blif_eval.proofs.DriverLaws.{made_more, noted_latch, numbered_there}
use Rattle.blif_eval.specs.Drivers.{AreNoted, elements_by}
use Rattle.blif_eval.specs.declared.driver_table.Driver.{Driver}
use Rattle.vrt_model.specs.Elements.{Numbered}
use Rattle.vrt_model.specs.Lists.{At}
use Rattle.vrt_model.specs.ModelArcs.{last_by}
use Rattle.vrt_model.specs.declared.flat_model.FlatLatch.{FlatLatch}
use Rattle.blif_eval.proofs.driver_table.note_latches.Goals as goal

pub loop-at-preserved : goal.loop-at-preserved
loop-at-preserved c =
    let flat = c.args.flat.now in
    let at = c.loop-at.at in
    let i = c.loop-at.invariant in
    let latch : FlatLatch = c.latch_at-latch.result in
    let elements : List Driver = c.loop-at.elements in
    let adds = c.in_ok-number.ensures in
    let there : At flat.latches at latch = subst (λ (ls : List FlatLatch). At ls at latch) c.as_slice.ensures c.latch_at-latch.ensures in
    let l : Numbered = record { first = length elements; latch = latch } in
    let number : c.in_ok-number.number ≡ length flat.signals + last_by (length elements) latch.kind = adds.is ∙ ap (λ (n : ℕ). n + last_by (length elements) latch.kind) c.requires.signals in
    let list : c.add_latch.new.elements ≡ elements ++ elements_by (length flat.signals) (length elements) latch latch.kind =
    adds.list ∙ ap (λ (n : ℕ). elements ++ elements_by n (length elements) latch latch.kind) c.requires.signals in
    record {
      noted = subst (AreNoted flat (length flat.covers) (at + 1)) (sym c.note.ensures)
          (noted_latch flat (length flat.covers) at c.in_ok-number.number l c.loop-at.drivers.items (numbered_there flat at latch elements there i.made) number i.noted);
      made = made_more flat at latch elements there i.made c.add_latch.new.elements list;
    }
