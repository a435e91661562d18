use Rattle.std.proofs.Common.{inr}
use Rattle.std.proofs.lemmas.Result.{err_from_is_err_and}
use Rattle.spice_reader.proofs.CheckLaws.{ends_open, ends_same, ends_well, fault_of_text, reading_of_text}
use Rattle.spice_reader.proofs.check.take_netlist.Goals as goal

pub returns-in_err-take_all-clause-err : goal.returns-in_err-take_all-clause-err
returns-in_err-take_all-clause-err c =
    let p = err_from_is_err_and c.from_residual.result c.from_residual.ensures.1 in rw (p.1, p.2) (fault_of_text c.args.text.now _ c.in_err-take_all.ensures.err)

pub returns-in-Some-clause-err : goal.returns-in-Some-clause-err
returns-in-Some-clause-err c = inr (ends_open _ _ _ c.in-Some.cell (reading_of_text c.args.text.now _ _ c.in_ok-take_all.ensures.ok) c.in-Some.is)

pub returns-clause-ok : goal.returns-clause-ok
returns-clause-ok c = let r = reading_of_text c.args.text.now _ _ c.in_ok-take_all.ensures.ok in (ends_well _ _ _ r c.in-None.is, ends_same _ _ _ r)
