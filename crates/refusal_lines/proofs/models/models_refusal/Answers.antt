use Rattle.refusal_lines.proofs.models.models_refusal.Goals as goal

pub returns-in-UnknownModel : goal.returns-in-UnknownModel
returns-in-UnknownModel c = rw c.in-UnknownModel.is c.named.ensures

pub returns-in-Formals : goal.returns-in-Formals
returns-in-Formals c = rw c.in-Formals.is c.named-in-Formals.ensures

pub returns-in-Recursion : goal.returns-in-Recursion
returns-in-Recursion c = rw c.in-Recursion.is c.named-in-Recursion.ensures

pub returns-in-Depth : goal.returns-in-Depth
returns-in-Depth c = rw c.in-Depth.is c.plain.ensures

pub returns-in-DrivenTwice : goal.returns-in-DrivenTwice
returns-in-DrivenTwice c = rw c.in-DrivenTwice.is c.named-in-DrivenTwice.ensures

pub returns-in-Undriven : goal.returns-in-Undriven
returns-in-Undriven c = rw c.in-Undriven.is c.named-in-Undriven.ensures
