use Rattle.std.proofs.Common.{arith, inl, inr}
use Rattle.std.proofs.lemmas.Result.{err_from_is_err_and}
use Rattle.text_lines.proofs.ReadLaws.{some_first}
use Rattle.rules_reader.proofs.CheckLaws.{reads_card, reads_fault}
use Rattle.rules_reader.proofs.check.take_all.Goals as goal

pub cards-preserved : goal.cards-preserved
cards-preserved c = (
  reads_card _ _ _ _ _ _ _ c.in-Some.card c.cards.invariant.0 (some_first _ _ _ _ c.in-Some.is c.in-Ok.ensures.card) c.in_ok-take_card-in-Some.ensures.fault
      c.in_ok-take_card-in-Some.ensures.next c.in_ok-take_card-in-Some.ensures.cards,
  omega (arith, c.next_card.ensures.room, c.cards.invariant.1),
)

pub returns-in_err-take_card-in-Some-clause-err : goal.returns-in_err-take_card-in-Some-clause-err
returns-in_err-take_card-in-Some-clause-err c =
    let p = err_from_is_err_and c.from_residual.result c.from_residual.ensures.1 in
    rw (p.1, p.2) (elim c.in_err-take_card-in-Some.ensures.fault [
      | inl h ↦ inl h
      | inr h ↦ inr (reads_fault _ _ _ _ _ c.in-Some.card _ c.cards.invariant.0 (some_first _ _ _ _ c.in-Some.is c.in-Ok.ensures.card) h)
    ])
