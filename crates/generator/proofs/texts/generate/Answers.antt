use Rattle.std.proofs.Common.{◌∙◌}
use Rattle.generator.proofs.TextLaws.{texts_short, texts_plain}
use Rattle.generator.proofs.texts.generate.Goals as goal

pub returns-clause-short : goal.returns-clause-short
returns-clause-short c =
    texts_short _ c.args.size c.requires
    (record { spice = c.in_ok-spice.ensures; blif = c.in_ok-blif.ensures; rules = c.in_ok-rules.ensures ∙ c.rule_lines.ensures })

pub returns-clause-plain : goal.returns-clause-plain
returns-clause-plain c =
    texts_plain _ c.args.size c.requires
    (record { spice = c.in_ok-spice.ensures; blif = c.in_ok-blif.ensures; rules = c.in_ok-rules.ensures ∙ c.rule_lines.ensures })
