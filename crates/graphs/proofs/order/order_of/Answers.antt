use Rattle.std.proofs.Common.{◌≡◌, ℕ, List, Option, true, false, ap, is_some, sym, ◌∙◌}
use Rattle.std.specs.Prelude.{nat_lt}
use Rattle.std.specs.List.{list_all}
use Rattle.graphs.proofs.OrderLaws.{order_is, stuck_around}
use Rattle.graphs.proofs.order.order_of.Goals as goal

pub returns-then-all_levelled : goal.returns-then-all_levelled
returns-then-all_levelled c =
    let placing = c.in_ok-placing.placing in
    let all : list_all (λ l. nat_lt 0 l) placing.levels.items ≡ true = ap (list_all (λ l. nat_lt 0 l)) (sym c.as_slice.ensures.value) ∙ (sym c.all_levelled.ensures ∙ c.if-all_levelled.true) in
    order_is c.args.sources.now placing.levels.items placing.steps c.in_ok-placing.ensures.size c.in_ok-placing.ensures.levels c.in_ok-placing.ensures.placing all

pub unreachable-requires : goal.unreachable-requires
unreachable-requires c =
    let placing = c.in_ok-placing.placing in
    let some : list_all (λ l. nat_lt 0 l) placing.levels.items ≡ false = ap (list_all (λ l. nat_lt 0 l)) (sym c.as_slice.ensures.value) ∙ (sym c.all_levelled.ensures ∙ c.if-all_levelled.false) in
    stuck_around c.args.sources.now placing.levels.items c.requires c.in_ok-placing.ensures.size c.in_ok-placing.ensures.stuck some
    (c.in_ok-around.ensures.none (ap (λ (o : Option (List ℕ)). is_some o) c.in-None.is))
