use Rattle.std.proofs.Common.{◌∙◌, ◌-◌, ap, take}
use Rattle.text_lines.specs.Bytes.{words_of}
use Rattle.spice_reader.proofs.WordCounts.{all_but_last}
use Rattle.spice_reader.proofs.elements.front.Goals as goal

pub returns : goal.returns
returns c = c.first_words.ensures ∙ ap (λ n. take n (words_of c.args.line.now)) (c.saturating_sub.ensures ∙ ap (λ n. n - 1) c.count_words.ensures) ∙ all_but_last (words_of c.args.line.now)
