use Rattle.std.proofs.Common.{◌≡◌, ℕ, ◌≤◌, length, take, ap, ◌∙◌, arith, length-take-le}
use Rattle.bdd_core.specs.Diagram.{meaning}
use Rattle.bdd_core.proofs.Meaning.{meaning-take}
use Rattle.bdd_core.proofs.Steps.{reduced_take}
use Rattle.bdd_core.proofs.MemoLaws.{remembers_empty}
use Rattle.bdd_core.proofs.store.Store.leave.Goals as goal

pub invariant_of-self : goal.invariant_of-self
invariant_of-self c =
    let ns = c.self.inside.pool.nodes in
    let m : ℕ = c.args.mark.nodes in
    let within : m ≤ length ns = omega (arith, ap (λ d. length d.nodes) c.self.view_is, c.requires.below.0) in
    let left : c.leave.new.self.nodes ≡ take m ns = ap (λ r. r.nodes) c.leave.ensures in
    record {
      reduced = rw left (reduced_take c.self.inside.vars ns m c.self.invariant.reduced c.requires.opening.0 within);
      room = ap (λ r. r.node_room) c.leave.ensures ∙ c.self.invariant.room;
      fits = omega (arith, ap length left, length-take-le m ns within, c.self.invariant.fits);
      memo = remembers_empty _ _ c.forget.ensures;
      budget_fits = c.self.invariant.budget_fits;
      vars_fit = c.self.invariant.vars_fit;
    }

pub returns-clause-sound : goal.returns-clause-sound
returns-clause-sound c =
    let ns = c.self.inside.pool.nodes in
    let m : ℕ = c.args.mark.nodes in
    let within : m ≤ length ns = omega (arith, ap (λ d. length d.nodes) c.self.view_is, c.requires.below.0) in
    let left : c.leave.new.self.nodes ≡ take m ns = ap (λ r. r.nodes) c.leave.ensures in
    rw left (reduced_take c.self.inside.vars ns m c.self.invariant.reduced c.requires.opening.0 within)

pub returns-clause-kept : goal.returns-clause-kept
returns-clause-kept c i below v =
    let ns = c.self.inside.pool.nodes in
    let m : ℕ = c.args.mark.nodes in
    let same : ns ≡ c.args.self.now.nodes = ap (λ d. d.nodes) c.self.view_is in
    let within : m ≤ length ns = omega (arith, ap (λ d. length d.nodes) c.self.view_is, c.requires.below.0) in
    let left : c.leave.new.self.nodes ≡ take m ns = ap (λ r. r.nodes) c.leave.ensures in
    ap (λ xs. meaning xs i v) left ∙ meaning-take ns m i v below within ∙ ap (λ xs. meaning xs i v) same
