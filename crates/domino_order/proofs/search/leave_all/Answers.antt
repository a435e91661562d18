use Rattle.std.proofs.Common.{ℕ, ap, take, ◌∙◌}
use Rattle.bdd_core.specs.Store.{Diagrams}
use Rattle.domino_order.proofs.search.leave_all.Goals as goal

pub returns : goal.returns
returns c =
    let old : Diagrams = c.args.store.now in
    c.leave.ensures.left ∙ ap (λ (w : ℕ). record old { nodes = take 2 old.nodes; words = take w old.words }) c.own_words-words.ensures
