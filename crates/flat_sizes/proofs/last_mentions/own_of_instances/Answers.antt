use Rattle.flat_sizes.proofs.CardLaws.{all_counted}
use Rattle.vrt_model.specs.Unrolled.{is_own}
use Rattle.flat_sizes.proofs.last_mentions.own_of_instances.Goals as goal

pub returns : goal.returns
returns c = all_counted (is_own c.args.design.now c.args.rules.now c.args.cell.now) c.cards.left.now c.cards.count _ c.in_default.ensures.cases c.cards.invariant.small c.cards.invariant.so_far
