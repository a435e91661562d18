use Rattle.refusal_lines.proofs.verilog.verilog_refusal.Goals as goal

pub returns-in-ModuleTwice : goal.returns-in-ModuleTwice
returns-in-ModuleTwice c = rw c.in-ModuleTwice.is c.named-in-ModuleTwice.ensures

pub returns-in-PortForm : goal.returns-in-PortForm
returns-in-PortForm c = rw c.in-PortForm.is c.named-in-PortForm.ensures

pub returns-in-Limit : goal.returns-in-Limit
returns-in-Limit c = rw c.in-Limit.is c.plain-in-Limit.ensures
