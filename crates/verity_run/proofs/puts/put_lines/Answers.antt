use Rattle.std.proofs.Common.{arith}
use Rattle.std.proofs.lemmas.Result.{err_from_is_err_and}
use Rattle.verity_run.proofs.PutLaws.{lines_more, lines_stop}
use Rattle.verity_run.proofs.puts.put_lines.Goals as goal

pub returns-in_err-put_line-clause-stopped : goal.returns-in_err-put_line-clause-stopped
returns-in_err-put_line-clause-stopped g c =
    let p = err_from_is_err_and c.from_residual.result c.from_residual.ensures.1 in
    rw (p.1, p.2)
    (lines_stop c.args.lines.now c.loop-line.line-index c.line-item.result c.as_bytes.result.now c.in_err-put_line.field-0.0 _ _ _ _ _ _ (omega arith) c.line-item.is c.as_bytes.ensures
    c.loop-line.invariant.0 c.loop-line.invariant.1 c.in_err-put_line.ensures.stopped)

pub loop-line-preserved : goal.loop-line-preserved
loop-line-preserved g c = (
  lines_more c.args.lines.now c.loop-line.line-index c.line-item.result c.as_bytes.result.now _ _ _ (omega arith) c.line-item.is c.as_bytes.ensures c.loop-line.invariant.0
      c.in_ok-put_line.ensures.put,
  omega (arith, c.loop-line.invariant.1, c.put_line.ensures.later),
)
