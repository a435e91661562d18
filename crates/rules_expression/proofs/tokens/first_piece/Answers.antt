use Rattle.std.proofs.Common.{◌∙◌, sym}
use Rattle.vrt_model.proofs.Lists.{no_items}
use Rattle.rules_expression.proofs.PieceLaws.{cut_name, cut_sign, none_left}
use Rattle.rules_expression.proofs.tokens.first_piece.Goals.{in-Some-sign, in-None-sign}
use Rattle.rules_expression.proofs.tokens.first_piece.Goals as goal

pub returns-in-None-clause-none : goal.returns-in-None-clause-none
returns-in-None-clause-none c = none_left c.args.text.now (sym c.without_blanks-rest.ensures ∙ no_items _ c.in-None.ensures.cases)

pub returns-after-sign-clause-piece : goal.returns-after-sign-clause-piece
returns-after-sign-clause-piece c = elim c.match-sign.branch [
  | in-Some-sign w ↦ rw w.result-is (cut_sign c.args.text.now _ c.in-Some.b.now c.in-Some.behind.now _ c.without_blanks-rest.ensures c.in-Some.ensures.cases.0 (sym c.sign.ensures ∙ w.in-Some-sign.is))
  | in-None-sign w ↦ rw w.result-is (cut_name c.args.text.now _ c.in-Some.b.now c.in-Some.behind.now _ _ c.without_blanks-rest.ensures c.in-Some.ensures.cases.0 (sym c.sign.ensures ∙ w.in-None-sign.is) w.cut_name.ensures.0 w.cut_name.ensures.1)
]
