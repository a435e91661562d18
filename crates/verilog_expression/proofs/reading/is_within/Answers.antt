use Rattle.std.proofs.Common.{◌∙◌, ap}
use Rattle.verilog_expression.specs.Kept.{closes, seen_all, seen_level, seen_list, seen_opt}
use Rattle.verilog_expression.proofs.BranchLaws.{operand_seen, within}
use Rattle.verilog_expression.proofs.reading.is_within.Goals as goal

pub returns-then-is_some : goal.returns-then-is_some
returns-then-is_some c =
    let p = c.args.progress.now in
    c.has_parentheses.ensures ∙ ap (λ outer. closes (seen_list outer)) c.as_slice.ensures.value
    ∙ within (seen_level p.inner) (seen_all p.outer) (seen_opt p.operand) (operand_seen p.operand c.is_some.result c.is_some.ensures c.if-is_some.true)
