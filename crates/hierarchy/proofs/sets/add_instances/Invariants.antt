use Rattle.std.proofs.Common.{◌≡◌, drop, map}
use Rattle.names.specs.Names.{with_names}
use Rattle.vrt_model.specs.declared.design.InstanceCard.{InstanceCard}
use Rattle.hierarchy.proofs.sets.add_instances.Given as goal

-- the names so far, with those of the rest
abbrev pub invariant-loop-card : goal.invariant-loop-card
invariant-loop-card l = with_names l.names (map (λ (x : InstanceCard). x.name) (drop l.card-index l.cards)) ≡ with_names l.initial.names (map (λ (x : InstanceCard). x.name) l.cards)
