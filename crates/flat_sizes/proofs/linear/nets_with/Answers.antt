use Rattle.std.proofs.Common.{◌∙◌, ap, sym, Bor, Option}
use Rattle.std.specs.Option.{option_copied}
use Rattle.flat_sizes.proofs.PlaceLaws.{no_nets}
use Rattle.vrt_model.specs.declared.design.Cell.{Cell}
use Rattle.flat_sizes.proofs.linear.nets_with.Goals as goal

pub returns-in-None : goal.returns-in-None
returns-in-None c = no_nets c.args.design.now c.args.rules.now c.args.cell (sym c.get.ensures ∙ ap (λ (o : Option (Bor Cell)). option_copied o) c.in-None.is)
