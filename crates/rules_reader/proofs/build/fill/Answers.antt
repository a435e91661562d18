use Rattle.std.proofs.Common.{ap, ◌∙◌}
use Rattle.rules_reader.specs.Tables.{all_from}
use Rattle.rules_reader.proofs.BuildLaws.{whole}
use Rattle.rules_reader.proofs.build.fill.Goals as goal

pub returns : goal.returns
returns c =
    whole c.args.cards.now c.args.known.now c.tables.new.rules c.add_all.new.phases c.requires.known c.in_ok-tables.ensures
    (c.in_ok-add_all.ensures ∙ ap (λ names. all_from names c.tables.new.rules.phases) (c.as_slice-2.ensures ∙ c.in_ok-names.ensures))
