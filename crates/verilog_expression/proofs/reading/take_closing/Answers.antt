use Rattle.std.proofs.Common.{subst}
use Rattle.verilog_expression.specs.Grammar.{seen}
use Rattle.verilog_expression.specs.Kept.{TakesOff, behind_branches, seen_all, seen_level, seen_progress}
use Rattle.verilog_expression.specs.Readings.{up_to_or}
use Rattle.verilog_expression.proofs.BranchLaws.{closes_here, closes_no_condition, closes_nothing}
use Rattle.verilog_expression.proofs.reading.take_closing.Goals as goal

pub returns-in_ok-take_operand-in-Parentheses : goal.returns-in_ok-take_operand-in-Parentheses
returns-in_ok-take_operand-in-Parentheses c =
    let p = c.args.progress.now in
    let left = seen_all c.end_branches.new.outer in
    closes_here (seen_all p.outer) left (seen c.in_ok-whole.whole) (up_to_or (seen_level p.inner) (seen c.args.e)) (seen c.in_ok-joined.joined) c.in_ok-whole.ensures
    c.in_ok-joined.ensures.whole (seen_level c.in-Parentheses.level) (seen_progress c.take_operand.new.progress)
    (subst (λ a. TakesOff a left (behind_branches (seen_all p.outer))) c.in-Parentheses.is c.in_ok-joined.ensures.open) c.in_ok-take_operand-in-Parentheses.ensures

pub returns-in-Condition : goal.returns-in-Condition
returns-in-Condition c =
    let p = c.args.progress.now in
    let left = seen_all c.end_branches.new.outer in
    closes_no_condition (seen_all p.outer) left (seen c.in_ok-whole.whole) (up_to_or (seen_level p.inner) (seen c.args.e)) (seen c.in_ok-joined.joined) c.in_ok-whole.ensures
    c.in_ok-joined.ensures.whole (seen c.in-Condition.field-0) (subst (λ a. TakesOff a left (behind_branches (seen_all p.outer))) c.in-Condition.is c.in_ok-joined.ensures.open)

pub returns-in-Nothing : goal.returns-in-Nothing
returns-in-Nothing c =
    let p = c.args.progress.now in
    let left = seen_all c.end_branches.new.outer in
    closes_nothing (seen_all p.outer) left (seen c.in_ok-whole.whole) (up_to_or (seen_level p.inner) (seen c.args.e)) (seen c.in_ok-joined.joined) c.in_ok-whole.ensures
    c.in_ok-joined.ensures.whole (subst (λ a. TakesOff a left (behind_branches (seen_all p.outer))) c.in-Nothing.is c.in_ok-joined.ensures.open)
