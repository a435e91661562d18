use Rattle.std.proofs.Common.{◌≡◌, IfOk, ap, subst, sym}
use Rattle.verilog_expression.specs.Grammar.{seen}
use Rattle.verilog_expression.specs.Kept.{seen_all, seen_if, seen_level, seen_opt}
use Rattle.verilog_expression.proofs.BranchLaws.{behind_operand}
use Rattle.verilog_expression.proofs.reading.take.Goals as goal
use Rattle.verilog_tokens.specs.Signs.{part_of}

pub returns-in-Some : goal.returns-in-Some
returns-in-Some c =
    let p = c.args.progress.now in
    subst (λ r. IfOk c.take_next.result (λ stands. seen_if stands c.take_next.new.progress ≡ r))
    (sym (behind_operand (seen_level p.inner) (seen_all p.outer) (seen_opt p.operand) (seen c.in-Some.e) (part_of c.args.kind c.args.bytes.now) (ap seen_opt (sym c.in-Some.ensures.value))))
    (c.take_next.ensures c.args.bytes.now)
