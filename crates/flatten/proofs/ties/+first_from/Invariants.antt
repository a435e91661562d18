use Rattle.flatten.proofs.WalkLaws.{Left}
use Rattle.rule_index.specs.Tables.{supply_in}
use Rattle.flatten.specs.Walks.{first_tie, spot_in}
use Rattle.vrt_model.specs.declared.design.InstanceCard.{InstanceCard}
use Rattle.flatten.proofs.ties.+first_from.Given as goal

abbrev pub decreases-first_from : goal.decreases-first_from
decreases-first_from l = l.depth

-- the instances that are left decide
abbrev pub invariant-loop-card : goal.invariant-loop-card
invariant-loop-card l = Left (λ (i : InstanceCard). first_tie l.design (supply_in l.supplies) l.below (spot_in l.design (supply_in l.supplies) l.at i)) l.card-items l.card-index
