use Rattle.std.proofs.Common.{◌≡◌, ℕ, List, length, get_or, arith, ap, refl, sym, subst, ◌∙◌, below_more}
use Rattle.std.proofs.lemmas.Option.{same_Some, slice_get-get_or, slice_get_within}
use Rattle.vrt_model.specs.Lists.{At}
use Rattle.vrt_model.specs.declared.ids.Net.{Net}
use Rattle.path_fixpoint.specs.Openings.{IsGivenAt, mark_of}
use Rattle.path_fixpoint.specs.Parts.{IsGiven}
use Rattle.bdd_core.proofs.Frames.{writes_then}
use Rattle.path_fixpoint.proofs.Opened.{one_stays, only_then}
use Rattle.path_fixpoint.proofs.SpendingLaws.{rewrites_then}
use Rattle.path_fixpoint.proofs.opening.mark_given.Goals as goal

pub loop-net-preserved : goal.loop-net-preserved
loop-net-preserved c =
    let out = c.args.out in
    let level = c.args.level in
    let circuit = c.args.circuit.now in
    let part = c.args.part.now in
    let at = c.loop-net.net-index in
    let old = c.loop-net.store in
    let new = c.mark.new.store in
    let i = c.loop-net.invariant in
    let blank : Net = record { 0 = 0 } in
    let net : Net = get_or c.as_slice-net-items.result.now at blank in
    let there : At part.nets at net = subst (λ (xs : List Net). At xs at net) c.as_slice-net-items.ensures (slice_get-get_or c.as_slice-net-items.result.now at blank c.loop-net-test.true) in
    let P : ℕ → Type 0 = λ k. (x : Net) → At part.nets k x → IsGiven circuit x.0 → mark_of new out level k ≡ 1 in
    record {
      writes = writes_then out.span c.args.store.now old new i.writes c.mark.ensures.writes;
      apart = λ k away. c.mark.ensures.apart k away ∙ i.apart k away;
      marked = below_more P at
          (λ k lt x e g. one_stays out level _ old new k c.mark.ensures.only (i.marked k lt x e g))
          (λ x e g. c.mark.ensures.marked (c.is_given-fits.ensures.1 (subst (λ (y : Net). IsGiven circuit y.0) (same_Some x net (sym e ∙ there)) g)) at (net, there, refl));
      only = only_then out level (IsGivenAt circuit part) _ c.args.store.now old new (λ k q. (net.0, q.1, c.is_given-fits.ensures.0 q.0)) i.only c.mark.ensures.only;
      few = λ u all. let r = i.few u all in rewrites_then u out.span c.args.store.now old new r (c.mark.ensures.few u r.within);
    }

pub returns-clause-marked : goal.returns-clause-marked
returns-clause-marked c k g =
    let inside = slice_get_within c.args.part.now.nets k g.1.0 g.1.1 in
    let shown : length c.as_slice-net-items.result.now ≡ length c.args.part.now.nets = ap (λ (xs : List Net). length xs) c.as_slice-net-items.ensures in
    c.loop-net.invariant.marked k (omega (arith, inside, shown, c.loop-net-test.false)) g.1.0 g.1.1 (subst (IsGiven c.args.circuit.now) (sym g.1.2) g.2)
