use Rattle.std.proofs.Common.{arith, ap, ◌∙◌}
use Rattle.flat_sizes.proofs.OwnLaws.{names_end, names_on}
use Rattle.names.specs.Names.{with_names}
use Rattle.vrt_model.specs.declared.design.InstanceCard.{InstanceCard}
use Rattle.flat_sizes.proofs.own.add_instances.Goals as goal

pub loop-card-preserved : goal.loop-card-preserved
loop-card-preserved c =
    names_on (λ (i : InstanceCard). i.nets) c.loop-card.card-index c.args.cards.now _ c.loop-card.names _ _ (omega arith) c.card-item.is
    (c.in_ok-add_all.ensures ∙ ap (with_names c.loop-card.names) c.as_slice.ensures) c.loop-card.invariant

pub returns : goal.returns
returns c = names_end (λ (i : InstanceCard). i.nets) c.loop-card.card-index c.args.cards.now c.loop-card.names _ (omega arith) c.loop-card.invariant
