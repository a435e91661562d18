use Rattle.std.proofs.Common.{◌≡◌, drop, flat_map}
use Rattle.names.specs.Names.{with_names}
use Rattle.vrt_model.specs.declared.design.InstanceCard.{InstanceCard}
use Rattle.hierarchy.proofs.sets.add_tied.Given as goal

-- the nets so far, with those of the rest
abbrev pub invariant-loop-card : goal.invariant-loop-card
invariant-loop-card l =
    with_names l.names (flat_map (λ (i : InstanceCard). i.nets) (drop l.card-index l.cards)) ≡ with_names l.initial.names (flat_map (λ (i : InstanceCard). i.nets) l.cards)
