use Rattle.std.proofs.Common.{◌≡◌, List, length, arith, ap, refl}
use Rattle.std.proofs.lemmas.Bool.{false≢true}
use Rattle.std.proofs.lemmas.List.{length-append}
use Rattle.vrt_model.proofs.Lists.{item_at}
use Rattle.vrt_model.specs.Lists.{At}
use Rattle.vrt_model.specs.declared.whole.Whole.{Whole}
use Rattle.vrt_model.specs.declared.whole.WholePin.{WholePin}
use Rattle.path_fixpoint.specs.Parts.{pins_of}
use Rattle.path_fixpoint.proofs.PinLaws.{before_all, before_in, before_more, pins_before}
use Rattle.path_fixpoint.proofs.ranges.has_room.Goals as goal

pub loop-whole-preserved : goal.loop-whole-preserved
loop-whole-preserved c =
    let circuit = c.args.circuit.now in
    let at = c.loop-whole.whole-index in
    let w : Whole = c.whole-item.result in
    let there : At circuit.wholes at w = item_at circuit.wholes c.as_slice-whole-items.result.now at w c.as_slice-whole-items.ensures c.loop-whole-test.true c.whole-item.is in
    record {
      counted = omega (
        arith,
        ap (λ (ps : List WholePin). length ps) (before_more circuit at w there),
        length-append (pins_before circuit at) w.outputs,
        c.loop-whole.invariant.counted,
        c.len-count.ensures,
        c.if-count-left.false,
      );
    }

pub returns-then-count-left : goal.returns-then-count-left
returns-then-count-left c =
    let circuit = c.args.circuit.now in
    let at = c.loop-whole.whole-index in
    let w : Whole = c.whole-item.result in
    let there : At circuit.wholes at w = item_at circuit.wholes c.as_slice-whole-items.result.now at w c.as_slice-whole-items.ensures c.loop-whole-test.true c.whole-item.is in
    (λ t. absurd (false≢true t), λ le. absurd (omega (arith, le, before_in circuit at w there, c.loop-whole.invariant.counted, c.len-count.ensures, c.if-count-left.true)))

pub returns : goal.returns
returns c =
    let circuit = c.args.circuit.now in
    let at = c.loop-whole.whole-index in
    let shown : length c.as_slice-whole-items.result.now ≡ length circuit.wholes = ap (λ (xs : List Whole). length xs) c.as_slice-whole-items.ensures in
    let all : length (pins_before circuit at) ≡ length (pins_of circuit) = ap (λ (ps : List WholePin). length ps) (before_all circuit at (omega (arith, shown, c.loop-whole-test.false))) in
    (λ t. omega (arith, all, c.loop-whole.invariant.counted), λ le. refl)
