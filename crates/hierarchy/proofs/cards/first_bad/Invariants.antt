use Rattle.std.proofs.Common.{◌≡◌, drop, not}
use Rattle.std.specs.Prelude.{find}
use Rattle.vrt_model.specs.Hierarchy.{is_good_card}
use Rattle.vrt_model.specs.declared.design.InstanceCard.{InstanceCard}
use Rattle.hierarchy.proofs.cards.first_bad.Given as goal

-- none so far
abbrev pub invariant-loop-card : goal.invariant-loop-card
invariant-loop-card l = find (λ (i : InstanceCard). not (is_good_card l.design i)) (drop l.card-index l.cards) ≡ find (λ (i : InstanceCard). not (is_good_card l.design i)) l.cards
