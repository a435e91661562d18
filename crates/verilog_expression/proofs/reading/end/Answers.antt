use Rattle.std.proofs.Common.{Some, ap, subst, sym, ◌∙◌}
use Rattle.verilog_expression.specs.Grammar.{seen}
use Rattle.verilog_expression.specs.Kept.{TakesOff, behind_branches, seen_all, seen_level, seen_opt}
use Rattle.verilog_expression.specs.Readings.{up_to_or}
use Rattle.verilog_expression.proofs.BranchLaws.{ends_here, ends_not_in_condition, ends_not_in_parentheses, ends_operand}
use Rattle.verilog_expression.proofs.reading.end.Goals as goal

pub returns-in-Nothing : goal.returns-in-Nothing
returns-in-Nothing c =
    let p = c.args.progress.now in
    let left = seen_all c.end_branches.new.outer in
    ends_here (seen_all p.outer) left (seen c.in_ok-whole.whole) (up_to_or (seen_level p.inner) (seen c.in-Some.e)) (seen c.in_ok-joined.joined) c.in_ok-whole.ensures
    c.in_ok-joined.ensures.whole (subst (λ a. TakesOff a left (behind_branches (seen_all p.outer))) c.in-Nothing.is c.in_ok-joined.ensures.open)
    ∙ sym (ends_operand (seen_level p.inner) (seen_all p.outer) (seen_opt p.operand) (seen c.in-Some.e) (ap seen_opt (sym c.in-Some.ensures.value)))

pub returns-in-Parentheses : goal.returns-in-Parentheses
returns-in-Parentheses c =
    let p = c.args.progress.now in
    let left = seen_all c.end_branches.new.outer in
    ends_not_in_parentheses (seen_all p.outer) left (seen c.in_ok-whole.whole) (up_to_or (seen_level p.inner) (seen c.in-Some.e)) (seen c.in_ok-joined.joined) c.in_ok-whole.ensures
    c.in_ok-joined.ensures.whole (seen_level c.in-Parentheses.field-0)
    (subst (λ a. TakesOff a left (behind_branches (seen_all p.outer))) c.in-Parentheses.is c.in_ok-joined.ensures.open)
    ∙ sym (ends_operand (seen_level p.inner) (seen_all p.outer) (seen_opt p.operand) (seen c.in-Some.e) (ap seen_opt (sym c.in-Some.ensures.value)))

pub returns-in-Condition : goal.returns-in-Condition
returns-in-Condition c =
    let p = c.args.progress.now in
    let left = seen_all c.end_branches.new.outer in
    ends_not_in_condition (seen_all p.outer) left (seen c.in_ok-whole.whole) (up_to_or (seen_level p.inner) (seen c.in-Some.e)) (seen c.in_ok-joined.joined) c.in_ok-whole.ensures
    c.in_ok-joined.ensures.whole (seen c.in-Condition.field-0)
    (subst (λ a. TakesOff a left (behind_branches (seen_all p.outer))) c.in-Condition.is c.in_ok-joined.ensures.open)
    ∙ sym (ends_operand (seen_level p.inner) (seen_all p.outer) (seen_opt p.operand) (seen c.in-Some.e) (ap seen_opt (sym c.in-Some.ensures.value)))
