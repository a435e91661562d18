use Rattle.std.proofs.Common.{arith}
use Rattle.vrt_model.specs.declared.design.InstanceCard.{InstanceCard}
use Rattle.hierarchy.proofs.SetLaws.{names_end}
use Rattle.hierarchy.proofs.sets.add_instances.Goals as goal

pub returns : goal.returns
returns c = names_end (λ (x : InstanceCard). x.name) c.loop-card.card-index c.args.cards.now c.loop-card.names _ (omega arith) c.loop-card.invariant
