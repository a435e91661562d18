use Rattle.std.proofs.Common.{◌∙◌}
use Rattle.hold_groups.proofs.TableLaws.{has_same}
use Rattle.hold_groups.proofs.elements.ElementTable.contains.Goals as goal

pub returns : goal.returns
returns c = c.contains.ensures ∙ has_same c.args.self.now.list c.args.self.now.names c.args.name.now c.requires
