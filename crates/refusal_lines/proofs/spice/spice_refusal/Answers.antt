use Rattle.refusal_lines.proofs.spice.spice_refusal.Goals as goal

pub returns-in-PortTwice : goal.returns-in-PortTwice
returns-in-PortTwice c = rw c.in-PortTwice.is c.named-in-PortTwice.ensures

pub returns-in-Limit : goal.returns-in-Limit
returns-in-Limit c = rw c.in-Limit.is c.plain-in-Limit.ensures
