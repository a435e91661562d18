use Rattle.std.proofs.Common.{Option, ap, sym, take, ◌∙◌}
use Rattle.std.proofs.lemmas.List.{take_all}
use Rattle.domino_order.proofs.BitLists.{bits_next}
use Rattle.domino_order.specs.Runs.{first_bits}
use Rattle.vrt_model.specs.declared.groups.Valuation.{Valuation}
use Rattle.domino_order.proofs.runs.first_bits.Goals as goal

pub loop-bit-preserved : goal.loop-bit-preserved
loop-bit-preserved c =
    bits_next (take c.args.count c.as_slice.result.now) c.loop-bit.bit-index _ c.loop-bit.bits c.append.new.self c.loop-bit-test.true c.loop-bit.invariant c.in_ok-append.ensures

pub returns : goal.returns
returns c =
    c.loop-bit.invariant ∙ take_all c.loop-bit.bit-index (take c.args.count c.as_slice.result.now) c.loop-bit-test.false ∙ ap (take c.args.count) c.as_slice.ensures
    ∙ sym (ap (λ (o : Option Valuation). first_bits c.args.count o) c.in-Some.is)
