use Rattle.verity_run.proofs.RefusalLaws.{depth_line, recursion_line}
use Rattle.verity_run.proofs.messages.cells.cells_refusal.Goals as goal

pub returns-in-Recursion : goal.returns-in-Recursion
returns-in-Recursion c =
    rw c.in-Recursion.is
    (recursion_line c.args.design.now c.in-Recursion.line c.in-Recursion.chain c.as_slice.result.now c.as_bytes-in-Recursion.result.now c.args.words.now.spice.now c.first_name.result.now
    c.refusal.result c.as_slice.ensures c.as_bytes-in-Recursion.ensures.value c.first_name.ensures c.refusal.ensures)

pub returns-in-Depth : goal.returns-in-Depth
returns-in-Depth c =
    rw c.in-Depth.is
    (depth_line c.in-Depth.line c.as_bytes-in-Depth.result.now c.args.words.now.spice.now c.plain.result c.as_bytes-in-Depth.ensures.value c.plain.ensures)
