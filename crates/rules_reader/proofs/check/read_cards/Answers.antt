use Rattle.std.proofs.lemmas.Result.{err_from_is_err_and}
use Rattle.rules_reader.proofs.CheckLaws.{fault_of_text, reading_of_text}
use Rattle.rules_reader.proofs.check.read_cards.Goals as goal

pub returns-in_err-take_all-clause-err : goal.returns-in_err-take_all-clause-err
returns-in_err-take_all-clause-err c =
    let p = err_from_is_err_and c.from_residual.result c.from_residual.ensures.1 in rw (p.1, p.2) (fault_of_text c.args.text.now _ c.in_err-take_all.ensures.err)

pub returns-clause-ok : goal.returns-clause-ok
returns-clause-ok c = (reading_of_text c.args.text.now _ _ c.in_ok-take_all.ensures.ok).0

pub returns-clause-known : goal.returns-clause-known
returns-clause-known c = (reading_of_text c.args.text.now _ _ c.in_ok-take_all.ensures.ok).1

pub returns-clause-cards : goal.returns-clause-cards
returns-clause-cards c = (reading_of_text c.args.text.now _ _ c.in_ok-take_all.ensures.ok).2
