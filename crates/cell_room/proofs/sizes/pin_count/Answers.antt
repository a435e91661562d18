use Rattle.std.proofs.Common.{◌≡◌, List, length, arith, ap, ◌∙◌}
use Rattle.std.proofs.lemmas.List.{length-append}
use Rattle.path_fixpoint.proofs.PinLaws.{before_all, before_more, pins_before}
use Rattle.vrt_model.proofs.Lists.{item_at}
use Rattle.vrt_model.specs.Lists.{At}
use Rattle.vrt_model.specs.declared.whole.Whole.{Whole}
use Rattle.vrt_model.specs.declared.whole.WholePin.{WholePin}
use Rattle.cell_room.proofs.sizes.pin_count.Goals as goal

pub loop-whole-preserved : goal.loop-whole-preserved
loop-whole-preserved c =
    let circuit = c.args.circuit.now in
    let at = c.loop-whole.whole-index in
    let w : Whole = c.whole-item.result in
    let there : At circuit.wholes at w = item_at circuit.wholes c.as_slice-whole-items.result.now at w c.as_slice-whole-items.ensures c.loop-whole-test.true c.whole-item.is in
    let more = c.in_ok-count.ensures.0 in
    record {
      counted = omega (
        arith,
        ap (λ (ps : List WholePin). length ps) (before_more circuit at w there),
        length-append (pins_before circuit at) w.outputs,
        c.loop-whole.invariant.counted,
        c.len.ensures,
        more,
      );
      few = c.in_ok-count.ensures.1;
    }

pub returns : goal.returns
returns c =
    let circuit = c.args.circuit.now in
    let at = c.loop-whole.whole-index in
    let shown : length c.as_slice-whole-items.result.now ≡ length circuit.wholes = ap (λ (xs : List Whole). length xs) c.as_slice-whole-items.ensures in (
      c.loop-whole.invariant.counted ∙ ap (λ (ps : List WholePin). length ps) (before_all circuit at (omega (arith, shown, c.loop-whole-test.false))),
      c.loop-whole.invariant.few,
    )
