use Rattle.std.proofs.Common.{ap, ◌∙◌}
use Rattle.names.specs.Names.{with_names}
use Rattle.blif_checks.proofs.MentionLaws.{signals_are}
use Rattle.blif_checks.proofs.signals.signals_of.Goals as goal

pub returns : goal.returns
returns c =
    signals_are c.args.model.now c.new-names.result c.add_all.new.self c.add_all-2.new.self c.add_beside.new.names c.new-names.ensures
    (c.in_ok-add_all.ensures ∙ ap (with_names c.new-names.result) c.as_slice.ensures) (c.in_ok-add_all-2.ensures ∙ ap (with_names c.add_all.new.self) c.as_slice-2.ensures) c.in_ok-add_beside.ensures
