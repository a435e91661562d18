use Rattle.std.proofs.Common.{arith, ap, length, ◌∙◌}
use Rattle.vrt_model.proofs.Lists.{no_items}
use Rattle.text_lines.specs.Bytes.{words_of}
use Rattle.text_lines.proofs.Splits.{no_words, one_word}
use Rattle.text_lines.proofs.words.only_word.Goals as goal

pub returns-in-Some-clause-word : goal.returns-in-Some-clause-word
returns-in-Some-clause-word c = (omega (arith, ap length c.in-Some.ensures.cases.0), one_word _ _ c.args.line.now c.in-Some.ensures.cases.0 c.requires)

pub returns-in-None-clause-none : goal.returns-in-None-clause-none
returns-in-None-clause-none c = ap words_of (no_items _ c.in-None.ensures.cases) ∙ no_words
