use Rattle.std.proofs.Common.{◌≡◌, ℕ, List, ap, arith, ◌∙◌, inl, inr}
use Rattle.std.proofs.lemmas.Bool.{ltb-true}
use Rattle.model_rows.proofs.CheckLaws.{among_one}
use Rattle.model_rows.proofs.checks.is_given.Goals as goal
use Rattle.blif_eval.proofs.Drivers.{times}

pub returns-then-inputs-gt0 : goal.returns-then-inputs-gt0
returns-then-inputs-gt0 c e =
    let flat = c.args.flat.now in
    let s = c.args.s in
    let count : List ℕ → ℕ = λ xs. times s xs in
    let inputs : c.times-inputs.result ≡ times s flat.inputs = c.times-inputs.ensures ∙ ap count c.as_slice.ensures in
    let some = c.if-inputs-gt0.true in
    among_one s flat.inputs flat.clocks (inl (omega (arith, inputs, some)))

pub returns-else-inputs-gt0 : goal.returns-else-inputs-gt0
returns-else-inputs-gt0 c e =
    let flat = c.args.flat.now in
    let s = c.args.s in
    let count : List ℕ → ℕ = λ xs. times s xs in
    let clocks : c.times-clocks.result ≡ times s flat.clocks = c.times-clocks.ensures ∙ ap count c.as_slice-2.ensures in
    let some = ltb-true 0 c.times-clocks.result e in
    among_one s flat.inputs flat.clocks (inr (omega (arith, clocks, some)))
