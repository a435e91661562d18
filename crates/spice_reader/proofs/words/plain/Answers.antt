use Rattle.std.proofs.Common.{◌∙◌, ap, take}
use Rattle.text_lines.specs.Bytes.{words_of}
use Rattle.spice_reader.proofs.WordCounts.{plain_taken}
use Rattle.spice_reader.proofs.words.plain.Goals as goal

pub returns : goal.returns
returns c = c.first_words.ensures ∙ ap (λ n. take n (words_of c.args.line.now)) c.plain_count.ensures ∙ plain_taken (words_of c.args.line.now)
