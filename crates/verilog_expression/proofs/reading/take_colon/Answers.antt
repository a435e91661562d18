use Rattle.std.proofs.Common.{ap, subst}
use Rattle.verilog_expression.specs.Grammar.{seen}
use Rattle.verilog_expression.specs.Kept.{TakesOff, behind_branches, seen_all, seen_level, seen_opt}
use Rattle.verilog_expression.specs.Readings.{up_to_or}
use Rattle.verilog_expression.proofs.BranchLaws.{divided_reading, divides_here, divides_no_parentheses, divides_nothing}
use Rattle.verilog_expression.proofs.reading.take_colon.Goals as goal

pub returns-in_ok-open_one-in-Condition : goal.returns-in_ok-open_one-in-Condition
returns-in_ok-open_one-in-Condition c =
    let p = c.args.progress.now in
    let left = seen_all c.end_branches.new.outer in
    divides_here (seen_all p.outer) left (seen c.in_ok-whole.whole) (up_to_or (seen_level p.inner) (seen c.args.e)) (seen c.in_ok-joined.joined) c.in_ok-whole.ensures
    c.in_ok-joined.ensures.whole (seen c.in-Condition.condition) _
    (subst (λ a. TakesOff a left (behind_branches (seen_all p.outer))) c.in-Condition.is c.in_ok-joined.ensures.open)
    (divided_reading (seen_level c.empty.result) (seen_all c.open_one.new.outer) (seen_opt p.operand) left (seen c.in-Condition.condition) (seen c.in_ok-joined.joined) c.empty.ensures
    c.in_ok-open_one-in-Condition.ensures (ap seen_opt c.requires))

pub returns-in-Parentheses : goal.returns-in-Parentheses
returns-in-Parentheses c =
    let p = c.args.progress.now in
    let left = seen_all c.end_branches.new.outer in
    divides_no_parentheses (seen_all p.outer) left (seen c.in_ok-whole.whole) (up_to_or (seen_level p.inner) (seen c.args.e)) (seen c.in_ok-joined.joined) c.in_ok-whole.ensures
    c.in_ok-joined.ensures.whole (seen_level c.in-Parentheses.field-0) (subst (λ a. TakesOff a left (behind_branches (seen_all p.outer))) c.in-Parentheses.is c.in_ok-joined.ensures.open)

pub returns-in-Nothing : goal.returns-in-Nothing
returns-in-Nothing c =
    let p = c.args.progress.now in
    let left = seen_all c.end_branches.new.outer in
    divides_nothing (seen_all p.outer) left (seen c.in_ok-whole.whole) (up_to_or (seen_level p.inner) (seen c.args.e)) (seen c.in_ok-joined.joined) c.in_ok-whole.ensures
    c.in_ok-joined.ensures.whole (subst (λ a. TakesOff a left (behind_branches (seen_all p.outer))) c.in-Nothing.is c.in_ok-joined.ensures.open)
