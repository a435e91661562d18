use Rattle.refusal_lines.proofs.rules.rules_refusal.Goals as goal

pub returns-in-NotText : goal.returns-in-NotText
returns-in-NotText c = rw c.in-NotText.is c.plain.ensures

pub returns-in-Word : goal.returns-in-Word
returns-in-Word c = rw c.in-Word.is c.plain-in-Word.ensures

pub returns-in-Number : goal.returns-in-Number
returns-in-Number c = rw c.in-Number.is c.plain-in-Number.ensures

pub returns-in-Expr : goal.returns-in-Expr
returns-in-Expr c = rw c.in-Expr.is c.plain-in-Expr.ensures

pub returns-in-Twice : goal.returns-in-Twice
returns-in-Twice c = rw c.in-Twice.is c.named.ensures

pub returns-in-UnknownPhase : goal.returns-in-UnknownPhase
returns-in-UnknownPhase c = rw c.in-UnknownPhase.is c.named-in-UnknownPhase.ensures

pub returns-in-UnknownClock : goal.returns-in-UnknownClock
returns-in-UnknownClock c = rw c.in-UnknownClock.is c.named-in-UnknownClock.ensures

pub returns-in-Limit : goal.returns-in-Limit
returns-in-Limit c = rw c.in-Limit.is c.plain-in-Limit.ensures
