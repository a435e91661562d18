use Rattle.std.proofs.lemmas.Result.{err_from_is_err_and}
use Rattle.verity_run.specs.Given.{bytes_of, given, names_in}
use Rattle.verity_run.specs.Models.{language_of}
use Rattle.verity_run.proofs.ModelLaws.{do_as_said}
use Rattle.verity_run.proofs.RefusalLaws.{last_told, rules_told}
use Rattle.verity_run.proofs.refusals.read_texts.Goals as goal

pub returns-in_err-rules-clause-err : goal.returns-in_err-rules-clause-err
returns-in_err-rules-clause-err c =
    let p = err_from_is_err_and c.from_residual-in_err-rules.result c.from_residual-in_err-rules.ensures.1 in
    rw (p.1, p.2)
    (rules_told (given (names_in c.args.words.now) (bytes_of c.args.bytes.now)) c.in_ok-blif.blif _ c.in_ok-design.ensures.ok.0 c.in_ok-blif.ensures.ok c.in_err-rules.ensures.err)

pub returns-in_err-unroll-clause-err : goal.returns-in_err-unroll-clause-err
returns-in_err-unroll-clause-err c =
    let p = err_from_is_err_and c.from_residual-in_err-unroll.result c.from_residual-in_err-unroll.ensures.1 in
    rw (p.1, p.2)
    (last_told (given (names_in c.args.words.now) (bytes_of c.args.bytes.now)) c.in_ok-blif.blif _ c.in_ok-design.ensures.ok.0 c.in_ok-blif.ensures.ok c.in_ok-rules.ensures.ok.0
    c.in_err-unroll.ensures.err)

pub returns-clause-ok : goal.returns-clause-ok
returns-clause-ok c = record {
  netlist = c.in_ok-design.ensures.ok.0;
  models = c.in_ok-blif.ensures.ok;
  lines = c.in_ok-rules.ensures.ok.0;
  design_is = c.in_ok-design.ensures.ok.1;
  rules_are = c.in_ok-rules.ensures.ok.1;
  unrolled = c.in_ok-unroll.ensures.ok;
  said =
      do_as_said (language_of c.args.words.now.blif.now) c.args.bytes.now.blif.now c.in_ok-design.design c.in_ok-blif.blif c.in_ok-rules.rules c.in_ok-blif.ensures.ok
      (record { names = c.in_ok-blif.ensures.fit; models = c.in_ok-unroll.ensures.ok; valid = c.in_ok-rules.ensures.fit });
}
