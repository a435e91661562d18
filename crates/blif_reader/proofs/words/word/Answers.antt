use Rattle.std.proofs.Common.{ap, sym, ◌∙◌}
use Rattle.text_lines.specs.Words.{word_at}
use Rattle.blif_reader.proofs.WordLaws.{first_behind}
use Rattle.blif_reader.proofs.words.word.Goals as goal

pub returns-in-Some : goal.returns-in-Some
returns-in-Some c = ap (λ ws. word_at ws 0) (sym c.in-Some.ensures.word.1 ∙ c.words_behind.ensures) ∙ first_behind c.args.at _

pub returns-in-None : goal.returns-in-None
returns-in-None c = ap (λ ws. word_at ws 0) (sym c.in-None.ensures.none ∙ c.words_behind.ensures) ∙ first_behind c.args.at _
