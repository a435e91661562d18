use Rattle.flatten.proofs.WalkLaws.{Left}
use Rattle.flatten.specs.Walks.{first_card, has_no_kind}
use Rattle.vrt_model.specs.Unrolled.{cell_named}
use Rattle.vrt_model.specs.declared.design.InstanceCard.{InstanceCard}
use Rattle.flatten.proofs.kinds.+first_without.Given as goal

abbrev pub decreases-first_without : goal.decreases-first_without
decreases-first_without l = l.depth

-- the instances that are left decide
abbrev pub invariant-loop-card : goal.invariant-loop-card
invariant-loop-card l = Left (λ (i : InstanceCard). first_card (has_no_kind l.models) l.design l.below (cell_named l.design i.cell)) l.card-items l.card-index
