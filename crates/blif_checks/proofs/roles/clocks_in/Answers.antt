use Rattle.std.proofs.Common.{ap₂, ◌∙◌}
use Rattle.names.specs.Names.{with_names}
use Rattle.names.proofs.NameLaws.{names_once}
use Rattle.blif_checks.proofs.roles.clocks_in.Goals as goal

pub returns : goal.returns
returns c = c.in_ok-add_all.ensures ∙ ap₂ with_names c.new-names.ensures c.as_slice.ensures ∙ names_once c.args.model.now.clocks
