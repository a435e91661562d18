use Rattle.std.proofs.Common.{◌≡◌, ℕ, [], ◌∷◌, ◌++◌, length, ap, ◌∙◌, arith}
use Rattle.bdd_core.proofs.Opening.{two_ends, end_node, two_ends_reduced}
use Rattle.bdd_core.proofs.MemoLaws.{remembers_empty}
use Rattle.bdd_core.proofs.store.Store.with_budget.Goals as goal

pub invariant_of-result : goal.invariant_of-result
invariant_of-result c =
    let vars : ℕ = c.args.vars in
    let one = c.add_end.ensures in
    let two = c.add_end-2.ensures in
    let nodes_are : c.add_end-2.new.pool.nodes ≡ two_ends vars =
    ap (λ r. r.nodes) two ∙ ap (λ r. r.nodes ++ end_node vars 1 ∷ []) one ∙ ap (λ r. (r.nodes ++ end_node vars 0 ∷ []) ++ end_node vars 1 ∷ []) c.in-Ok.ensures in
    record {
      reduced = rw nodes_are (two_ends_reduced vars);
      room = ap (λ r. r.node_room) two ∙ ap (λ r. r.node_room) one ∙ ap (λ r. r.node_room) c.in-Ok.ensures;
      fits = omega (arith, ap length nodes_are, c.requires.budget);
      memo = remembers_empty _ _ c.in-Ok-open.ensures;
      budget_fits = c.requires.budget.1;
      vars_fit = c.requires.vars;
    }

pub returns-clause-sound : goal.returns-clause-sound
returns-clause-sound c =
    let vars : ℕ = c.args.vars in
    let nodes_are : c.add_end-2.new.pool.nodes ≡ two_ends vars =
    ap (λ r. r.nodes) c.add_end-2.ensures ∙ ap (λ r. r.nodes ++ end_node vars 1 ∷ []) c.add_end.ensures ∙ ap (λ r. (r.nodes ++ end_node vars 0 ∷ []) ++ end_node vars 1 ∷ []) c.in-Ok.ensures in
    rw nodes_are (two_ends_reduced vars)
