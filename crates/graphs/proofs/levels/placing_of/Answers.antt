use Rattle.std.proofs.Common.{ℕ, List, length, ap, subst, sym, ◌∙◌}
use Rattle.std.proofs.lemmas.List.{length-replicate}
use Rattle.graphs.proofs.LevelLaws.{first_look}
use Rattle.graphs.proofs.OrderLaws.{placed_none}
use Rattle.graphs.specs.Orders.{IsPlacing}
use Rattle.graphs.proofs.levels.placing_of.Goals as goal

pub level_rest-requires-clause-so_far : goal.level_rest-requires-clause-so_far
level_rest-requires-clause-so_far c =
    first_look c.args.sources.now c.in_ok-levels.levels.items c.in_ok-waiting.waiting.items c.in_ok-queue.queue c.in_ok-levels.ensures
    (ap length c.in_ok-levels.ensures ∙ length-replicate {A = ℕ} (length c.args.sources.now) 0) c.in_ok-waiting.ensures.len c.in_ok-waiting.ensures.empty c.in_ok-queue.ensures.all c.in_ok-queue.ensures.each

pub level_rest-requires-clause-placing : goal.level_rest-requires-clause-placing
level_rest-requires-clause-placing c =
    subst (λ (xs : List ℕ). IsPlacing c.args.sources.now c.in_ok-levels.levels.items xs) (sym c.new-steps.ensures)
    (placed_none c.args.sources.now c.in_ok-levels.levels.items (length c.args.sources.now) c.in_ok-levels.ensures)
