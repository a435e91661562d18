use Rattle.std.proofs.Common.{◌≡◌, drop, flat_map}
use Rattle.net_tables.specs.Names.{shared_in, with_owns}
use Rattle.vrt_model.specs.declared.design.InstanceCard.{InstanceCard}
use Rattle.net_tables.proofs.own.add_instances.Given as goal

-- the own nets so far, with those of the rest
abbrev pub invariant-loop-card : goal.invariant-loop-card
invariant-loop-card l =
    with_owns (shared_in l.shared l.ports) l.own (flat_map (λ (i : InstanceCard). i.nets) (drop l.card-index l.cards))
    ≡ with_owns (shared_in l.shared l.ports) l.fn.own (flat_map (λ (i : InstanceCard). i.nets) l.cards)
