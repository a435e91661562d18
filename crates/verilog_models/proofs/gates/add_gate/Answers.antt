use Rattle.std.proofs.Common.{ap, arith, sym, ◌∙◌}
use Rattle.std.proofs.lemmas.List.{length-map}
use Rattle.verilog_expression.specs.Grammar.{seen}
use Rattle.verilog_models.specs.Gates.{links}
use Rattle.verilog_models.proofs.gates.add_gate.Goals as goal

pub returns-clause-count : goal.returns-clause-count
returns-clause-count c =
    let e = c.count_links.ensures ∙ ap (links c.args.kind) (sym (length-map c.args.inputs.now seen)) in
    omega (arith, e, c.in_ok-made.ensures, c.in_ok-add_outputs.ensures.count, c.in_ok-signals.ensures.count)
