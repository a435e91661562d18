use Rattle.std.proofs.Common.{◌∙◌, ap}
use Rattle.text_lines.specs.Bytes.{words_of}
use Rattle.text_lines.proofs.Lowered.{words_lowered}
use Rattle.text_lines.proofs.words.WordList.lowered.Goals as goal

pub returns : goal.returns
returns c = ap words_of c.in_ok-line.ensures ∙ words_lowered c.args.line.now
