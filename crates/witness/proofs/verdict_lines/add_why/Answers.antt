use Rattle.witness.proofs.verdict_lines.add_why.Goals as goal

pub returns-in-OutputIsInput : goal.returns-in-OutputIsInput
returns-in-OutputIsInput c = rw c.in-OutputIsInput.is (rw c.as_bytes-in-OutputIsInput.ensures at c.add_named-in-OutputIsInput.ensures)
