use Rattle.std.proofs.Common.{arith, ap, ◌∙◌}
use Rattle.net_tables.proofs.OwnLaws.{owns_end, owns_on}
use Rattle.net_tables.specs.Names.{shared_in, with_owns}
use Rattle.vrt_model.specs.declared.design.InstanceCard.{InstanceCard}
use Rattle.net_tables.proofs.own.add_instances.Goals as goal

pub loop-card-preserved : goal.loop-card-preserved
loop-card-preserved c =
    owns_on (shared_in c.args.shared.now c.args.ports.now) (λ (i : InstanceCard). i.nets) c.loop-card.card-index c.args.cards.now _ c.loop-card.own c.add_names.new.own _ (omega arith)
    c.card-item.is (c.in_ok-add_names.ensures ∙ ap (with_owns (shared_in c.args.shared.now c.args.ports.now) c.loop-card.own) c.as_slice.ensures) c.loop-card.invariant

pub returns : goal.returns
returns c =
    owns_end (shared_in c.args.shared.now c.args.ports.now) (λ (i : InstanceCard). i.nets) c.loop-card.card-index c.args.cards.now c.loop-card.own _ (omega arith) c.loop-card.invariant
