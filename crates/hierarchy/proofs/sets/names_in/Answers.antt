use Rattle.std.proofs.Common.{ap, ◌∙◌}
use Rattle.names.proofs.NameLaws.{names_once}
use Rattle.names.specs.Names.{with_names}
use Rattle.hierarchy.specs.Sets.{names_in}
use Rattle.hierarchy.proofs.sets.names_in.Goals as goal

pub returns : goal.returns
returns c = c.in_ok-add_names.ensures ∙ ap (λ ns. with_names ns (names_in c.args.kind c.args.cell.now)) c.new-names.ensures ∙ names_once (names_in c.args.kind c.args.cell.now)
