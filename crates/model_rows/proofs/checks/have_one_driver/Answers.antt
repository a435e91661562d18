use Rattle.std.proofs.Common.{◌≡◌, ℕ, ◌+◌, List, arith, ap, below_more, ◌∙◌}
use Rattle.std.specs.Prelude.{count_by, ◌==◌}
use Rattle.model_rows.proofs.CheckLaws.{times_drivers}
use Rattle.blif_eval.proofs.Drivers.{times}
use Rattle.model_rows.specs.Outputs.{outputs_in}
use Rattle.vrt_model.specs.FlatModels.{drivers_of}
use Rattle.model_rows.proofs.checks.have_one_driver.Goals as goal

pub loop-s-preserved : goal.loop-s-preserved
loop-s-preserved c =
    let flat = c.args.flat.now in
    let s = c.loop-s.s in
    let count : List ℕ → ℕ = λ xs. times s xs in
    let sum = times_drivers flat s in
    let inputs : c.times-inputs.result ≡ times s flat.inputs = c.times-inputs.ensures ∙ ap count c.as_slice.ensures in
    let clocks : c.times-clocks.result ≡ times s flat.clocks = c.times-clocks.ensures ∙ ap count c.as_slice-in-loop-s.ensures in
    let outs : c.times.result ≡ times s (outputs_in flat) = c.times.ensures ∙ ap count c.requires.outputs in
    let one : c.times-inputs.result + c.times-clocks.result + c.times.result ≡ 1 = c.is_one.ensures c.if-not-is_one.false in
    let here : times s (drivers_of flat) ≡ 1 = omega (arith, sum, inputs, clocks, outs, one) in
    below_more (λ k. count_by (λ d. d == k) (drivers_of flat) ≡ 1) s c.loop-s.invariant here

pub returns : goal.returns
returns c e s lt =
    let count = c.len-count.ensures in
    let end = c.loop-s-test.false in
    c.loop-s.invariant s (omega (arith, lt, count, end))
