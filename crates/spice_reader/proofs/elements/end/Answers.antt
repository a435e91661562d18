use Rattle.std.proofs.Common.{◌∙◌, ◌-◌, ap}
use Rattle.text_lines.specs.Bytes.{words_of}
use Rattle.text_lines.specs.Words.{word_at}
use Rattle.spice_reader.proofs.WordCounts.{last_place}
use Rattle.spice_reader.proofs.elements.end.Goals as goal

pub returns : goal.returns
returns c = c.nth_word.ensures ∙ ap (λ n. word_at (words_of c.args.line.now) n) (c.saturating_sub.ensures ∙ ap (λ n. n - 1) c.count_words.ensures) ∙ last_place (words_of c.args.line.now)
