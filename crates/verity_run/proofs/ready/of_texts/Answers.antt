use Rattle.std.proofs.lemmas.Result.{err_from_is_err_and}
use Rattle.verity_run.specs.Asked.{cell_word}
use Rattle.verity_run.specs.Given.{bytes_of, given, names_in}
use Rattle.verity_run.proofs.CellLaws.{asked_there}
use Rattle.verity_run.proofs.Written.{unnamed_told}
use Rattle.verity_run.proofs.ready.of_texts.Goals as goal

pub returns-in_err-cells-clause-err : goal.returns-in_err-cells-clause-err
returns-in_err-cells-clause-err c =
    let p = err_from_is_err_and c.from_residual-in_err-cells.result c.from_residual-in_err-cells.ensures.1 in
    let i = c.in_ok-inputs.inputs in
    rw (p.1, p.2)
    (unnamed_told c.args.request.now (given (names_in c.args.words.now) (bytes_of c.args.bytes.now)) _ i.design i.blif i.rules c.in_ok-inputs.ensures.ok c.in_ok-order.ensures.ok.0
    c.in_err-cells.ensures.err)

pub returns-clause-ok : goal.returns-clause-ok
returns-clause-ok c = record {
  fit = c.in_ok-inputs.ensures.fit;
  ordered = c.in_ok-order.ensures.ok.0;
  prepared = c.in_ok-prepared.ensures;
  there = asked_there c.in_ok-inputs.inputs.design (cell_word c.args.request.now) c.in_ok-cells.cells c.in_ok-cells.ensures.ok;
}

pub returns-clause-says : goal.returns-clause-says
returns-clause-says c = record { read = c.in_ok-inputs.ensures.ok; asked = c.in_ok-cells.ensures.ok }
