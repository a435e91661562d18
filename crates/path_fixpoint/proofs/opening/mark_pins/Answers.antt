use Rattle.std.proofs.Common.{◌≡◌, ℕ, List, length, arith, ap, sym, subst, ◌∙◌, below_more}
use Rattle.std.proofs.lemmas.Option.{same_Some, slice_get_within}
use Rattle.vrt_model.proofs.Lists.{item_at}
use Rattle.vrt_model.specs.Lists.{At, Among}
use Rattle.vrt_model.specs.declared.whole.Whole.{Whole}
use Rattle.vrt_model.specs.declared.whole.WholePin.{WholePin}
use Rattle.path_fixpoint.specs.Openings.{IsPinAt, mark_of}
use Rattle.path_fixpoint.specs.Parts.{pins_of}
use Rattle.bdd_core.proofs.Frames.{writes_then}
use Rattle.path_fixpoint.proofs.Opened.{one_stays, only_then}
use Rattle.path_fixpoint.proofs.PinLaws.{pin_whole, whole_pin}
use Rattle.path_fixpoint.proofs.SpendingLaws.{rewrites_then}
use Rattle.path_fixpoint.proofs.opening.mark_pins.Goals as goal

pub loop-whole-preserved : goal.loop-whole-preserved
loop-whole-preserved c =
    let out = c.args.out in
    let level = c.args.level in
    let circuit = c.args.circuit.now in
    let part = c.args.part.now in
    let at = c.loop-whole.whole-index in
    let old = c.loop-whole.store in
    let new = c.mark_outputs.new.store in
    let i = c.loop-whole.invariant in
    let w : Whole = c.whole-item.result in
    let there : At circuit.wholes at w = item_at circuit.wholes c.as_slice-whole-items.result.now at w c.as_slice-whole-items.ensures c.loop-whole-test.true c.whole-item.is in
    let shown : c.as_slice.result.now ≡ w.outputs = c.as_slice.ensures in
    let P : ℕ → Type 0 = λ k. (x : Whole) → At circuit.wholes k x → (j : ℕ) → IsPinAt out.source part x.outputs level j → mark_of new out level j ≡ 1 in
    record {
      writes = writes_then out.span c.args.store.now old new i.writes c.mark_outputs.ensures.writes;
      apart = λ k away. c.mark_outputs.ensures.apart k away ∙ i.apart k away;
      marked = below_more P at
          (λ k lt x e j q. one_stays out level _ old new j c.mark_outputs.ensures.only (i.marked k lt x e j q))
          (λ x e j q.
          let here : IsPinAt out.source part w.outputs level j = subst (λ (y : Whole). IsPinAt out.source part y.outputs level j) (same_Some x w (sym e ∙ there)) q in
          c.mark_outputs.ensures.marked j (subst (λ (ps : List WholePin). IsPinAt out.source part ps level j) (sym shown) here));
      only = only_then out level (IsPinAt out.source part (pins_of circuit) level) _ c.args.store.now old new
          (λ k q. (q.0, pin_whole circuit w q.0 (at, there) (subst (λ (ps : List WholePin). Among ps q.0) shown q.1), q.2, q.3)) i.only c.mark_outputs.ensures.only;
      few = λ u all. let r = i.few u all in rewrites_then u out.span c.args.store.now old new r (c.mark_outputs.ensures.few u r.within);
    }

pub returns-clause-marked : goal.returns-clause-marked
returns-clause-marked c k h =
    let wholes = c.args.circuit.now.wholes in
    let from = whole_pin c.args.circuit.now h.0 h.1 in
    let inside = slice_get_within wholes from.1.0 from.0 from.1.1 in
    let shown : length c.as_slice-whole-items.result.now ≡ length wholes = ap (λ (xs : List Whole). length xs) c.as_slice-whole-items.ensures in
    c.loop-whole.invariant.marked from.1.0 (omega (arith, inside, shown, c.loop-whole-test.false)) from.0 from.1.1 k (h.0, from.2, h.2, h.3)
