use Rattle.verilog_source.proofs.steps.take_step.Goals as goal

pub returns-in-Assign : goal.returns-in-Assign
returns-in-Assign c = rw (c.in-Assign.is) (c.from_assign.ensures c.args.line)

pub returns-in-Gate : goal.returns-in-Gate
returns-in-Gate c = rw (c.in-Gate.is) (c.from_gate.ensures c.args.line)

pub returns-in-Instance : goal.returns-in-Instance
returns-in-Instance c = rw (c.in-Instance.is) (c.from_instance.ensures c.args.line)
