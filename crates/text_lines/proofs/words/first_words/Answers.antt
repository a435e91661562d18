use Rattle.std.proofs.Common.{◌∙◌, ap}
use Rattle.text_lines.specs.Bytes.{words_of}
use Rattle.text_lines.proofs.FrontLaws.{words_before}
use Rattle.text_lines.proofs.words.first_words.Goals as goal

pub returns : goal.returns
returns c = ap words_of c.front.ensures ∙ words_before c.args.count c.args.line.now
