use Rattle.std.proofs.Common.{ℕ, ◌∷◌, List, subst}
use Rattle.step_roots.proofs.MovedLaws.{IsMoving, moving_more, moving_refused}
use Rattle.step_roots.proofs.moves.moved.Goals as goal

pub variables-preserved : goal.variables-preserved
variables-preserved c =
    let variables = c.args.variables.now in
    let behind : List ℕ = c.in-Some.behind.now in
    let moving : IsMoving variables c.args.bit c.args.f c.args.store.now (c.in-Some.variable.now ∷ behind) c.variables.reached c.variables.store =
    subst (λ (xs : List ℕ). IsMoving variables c.args.bit c.args.f c.args.store.now xs c.variables.reached c.variables.store) c.in-Some.ensures.cases.0 c.variables.invariant in
    moving_more variables c.args.bit c.args.f c.args.store.now c.in-Some.variable.now behind c.variables.reached c.in-Ok.next c.variables.store c.moved_one.new.store moving c.in-Ok.ensures.gives
    c.in-Ok.ensures.counts

pub returns-in-Err-clause-counts : goal.returns-in-Err-clause-counts
returns-in-Err-clause-counts c =
    moving_refused c.args.variables.now c.args.bit c.args.f c.args.store.now c.variables.left.now c.in-Some.variable.now c.in-Some.behind.now c.variables.reached c.variables.store c.moved_one.new.store
    c.in-Err.spent c.in-Some.ensures.cases.0 c.variables.invariant c.in-Err.ensures.counts
