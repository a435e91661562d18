use Rattle.blif_reader.proofs.CardLaws.{front_on, last_on}
use Rattle.std.proofs.Common.{◌++◌, ◌∷◌, [], ap, sym, ◌∙◌}
use Rattle.std.specs.Prelude.{filter, option_to_list}
use Rattle.text_lines.specs.Words.{but_last}
use Rattle.blif_reader.specs.Cards.{card_of, ends_with_backslash, has_words}
use Rattle.blif_reader.specs.Opened.{cards_behind, numbered, with_line}
use Rattle.blif_reader.proofs.cards.take_line.Goals as goal

pub returns-in_ok-now-in-Some : goal.returns-in_ok-now-in-Some
returns-in_ok-now-in-Some c =
    front_on [] c.args.opened.now c.args.number c.args.line.now c.in-Some.front.now _ (ap ends_with_backslash (sym c.without_comment-bytes.ensures) ∙ c.in-Some.ensures.joins.0)
    (c.in-Some.ensures.joins.1 ∙ ap but_last c.without_comment-bytes.ensures)
    (c.in_ok-now-in-Some.ensures ∙ ap (λ o. with_line o c.args.number c.in-Some.front.now) c.take-so_far.ensures.value)

pub returns-in_ok-card-in-None : goal.returns-in_ok-card-in-None
returns-in_ok-card-in-None c = λ rest.
    ap (λ o. option_to_list c.in_ok-card-in-None.card ++ cards_behind o rest) c.take-so_far.ensures.after
    ∙ last_on [] _ c.args.opened.now c.args.number c.args.line.now c.without_comment-bytes.result.now (ap ends_with_backslash (sym c.without_comment-bytes.ensures) ∙ c.in-None.ensures.ends)
    c.without_comment-bytes.ensures
    (c.in_ok-card-in-None.ensures ∙ ap (λ o. filter has_words (card_of (numbered (with_line o c.args.number c.without_comment-bytes.result.now)) ∷ [])) c.take-so_far.ensures.value) rest
