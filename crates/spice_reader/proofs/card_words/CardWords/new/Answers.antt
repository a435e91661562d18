use Rattle.std.proofs.Common.{◌∙◌, ap, sym}
use Rattle.text_lines.specs.Bytes.{words_of}
use Rattle.text_lines.specs.Words.{word_at}
use Rattle.text_lines.proofs.Splits.{no_words}
use Rattle.spice_reader.proofs.card_words.CardWords.new.Goals as goal

pub invariant_of-result : goal.invariant_of-result
invariant_of-result c = c.new.ensures ∙ sym (ap (λ ws. word_at ws 0) (ap words_of c.new-2.ensures ∙ no_words))

pub returns : goal.returns
returns c = ap words_of c.new-2.ensures ∙ no_words
