use Rattle.std.proofs.Common.{List, subst}
use Rattle.flat_sizes.specs.Totals.{Adds}
use Rattle.vrt_model.specs.declared.design.InstanceCard.{InstanceCard}
use Rattle.flat_sizes.proofs.stands.add_inner.Goals as goal

pub returns : goal.returns
returns c =
    subst (λ (cards : List InstanceCard). Adds c.args.design.now cards c.args.stand.count c.args.stands.now.items c.add_cards.new.stands.items) c.cards_of.ensures
    (c.in_ok-add_cards.ensures c.args.design.now c.requires)
