use Rattle.std.proofs.Common.{◌≡◌, ℕ, ◌<◌, length, sym, ap, subst, inl, inr, arith}
use Rattle.bdd_core.specs.declared.memo.Entry.{Entry}
use Rattle.bdd_core.specs.Diagram.{meaning, choice, IsSame}
use Rattle.bdd_core.specs.Memo.{Recalls}
use Rattle.bdd_core.proofs.MemoLaws.{remembers_also}
use Rattle.bdd_core.proofs.store.Store.remember.Goals as goal

pub invariant_of-self : goal.invariant_of-self
invariant_of-self c =
    let ns = c.self.inside.pool.nodes in
    let same : ns ≡ c.args.self.now.nodes = ap (λ d. d.nodes) c.self.view_is in
    let f : ℕ = c.args.f.0 in
    let g : ℕ = c.args.g.0 in
    let h : ℕ = c.args.h.0 in
    let r : ℕ = c.args.r.0 in
    let f_in : f < length ns = omega (arith, ap length same, c.requires.live.0) in
    let g_in : g < length ns = omega (arith, ap length same, c.requires.live.1) in
    let h_in : h < length ns = omega (arith, ap length same, c.requires.live.2) in
    let is : IsSame (meaning ns r) (choice (meaning ns f) (meaning ns g) (meaning ns h)) =
    subst (λ xs. IsSame (meaning xs r) (choice (meaning xs f) (meaning xs g) (meaning xs h))) (sym same) c.requires.is.same in
    let entry : Entry = record { f = f; g = g; h = h; r = r } in
    let right : Recalls ns entry = record {
      f_in = f_in;
      g_in = g_in;
      h_in = h_in;
      r_in = omega (arith, ap length same, c.requires.is.live);
      is = is;
    } in
    record {
      reduced = c.self.invariant.reduced;
      room = c.self.invariant.room;
      fits = c.self.invariant.fits;
      memo = remembers_also ns entry c.self.inside.memo c.keep.new.self (inr (inl right)) c.keep.ensures c.self.invariant.memo;
      budget_fits = c.self.invariant.budget_fits;
      vars_fit = c.self.invariant.vars_fit;
    }
