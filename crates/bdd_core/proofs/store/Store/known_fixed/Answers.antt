use Rattle.std.proofs.Common.{ℕ, length, ap, subst, arith}
use Rattle.bdd_core.specs.Diagram.{meaning, fixed, IsSame}
use Rattle.bdd_core.proofs.MemoLaws.{recalled_fixed}
use Rattle.bdd_core.proofs.store.Store.known_fixed.Goals as goal

pub returns : goal.returns
returns c =
    let ns = c.self.inside.pool.nodes in
    let same = ap (λ d. d.nodes) c.self.view_is in
    let f : ℕ = c.args.f.0 in
    let x : ℕ = c.args.var in
    let r : ℕ = c.in-Some.r in
    let got = recalled_fixed ns c.self.inside.memo f x _ r c.args.value (omega (arith, c.self.invariant.fits, c.self.invariant.budget_fits)) c.self.invariant.memo c.requires.0 c.mark_of.ensures c.in-Some.ensures in
    record {
      live = omega (arith, ap length same, got.0);
      same = subst (λ xs. IsSame (meaning xs r) (fixed (meaning xs f) x c.args.value)) same got.1;
    }
