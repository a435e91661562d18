use Rattle.std.proofs.Common.{◌∙◌}
use Rattle.flat_sizes.proofs.NameLaws.{tied_named}
use Rattle.flat_sizes.proofs.mentions.is_tied.Goals as goal

pub returns : goal.returns
returns c = c.some_instance.ensures ∙ tied_named c.args.instances.now c.args.name.now
