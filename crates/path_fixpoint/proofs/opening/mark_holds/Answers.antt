use Rattle.std.proofs.Common.{◌≡◌, ℕ, ◌≤◌, List, length, arith, ap, sym, subst, ◌∙◌, below_more}
use Rattle.std.proofs.lemmas.Option.{same_Some, slice_get_within}
use Rattle.vrt_model.proofs.Lists.{item_at}
use Rattle.vrt_model.specs.Lists.{At}
use Rattle.vrt_model.specs.declared.circuit.Hold.{Hold}
use Rattle.path_fixpoint.specs.Openings.{IsHoldAt, mark_of}
use Rattle.path_fixpoint.specs.Parts.{IsPlace}
use Rattle.bdd_core.proofs.Frames.{writes_then}
use Rattle.path_fixpoint.proofs.Opened.{one_stays, only_then}
use Rattle.path_fixpoint.proofs.SpendingLaws.{rewrites_then}
use Rattle.path_fixpoint.proofs.opening.mark_holds.Goals as goal

pub loop-hold-preserved : goal.loop-hold-preserved
loop-hold-preserved c =
    let out = c.args.out in
    let level = c.args.level in
    let circuit = c.args.circuit.now in
    let part = c.args.part.now in
    let at = c.loop-hold.hold-index in
    let old = c.loop-hold.store in
    let new = c.mark.new.store in
    let i = c.loop-hold.invariant in
    let hold : Hold = c.hold-item.result in
    let there : At circuit.holds at hold = item_at circuit.holds c.as_slice-hold-items.result.now at hold c.as_slice-hold-items.ensures c.loop-hold-test.true c.hold-item.is in
    let P : ℕ → Type 0 = λ k. (h : Hold) → At circuit.holds k h → level ≤ h.size → (j : ℕ) → IsPlace part j h.net.0 → mark_of new out level j ≡ 1 in
    record {
      writes = writes_then out.span c.args.store.now old new i.writes c.mark.ensures.writes;
      apart = λ k away. c.mark.ensures.apart k away ∙ i.apart k away;
      marked = below_more P at
          (λ k lt h e le j p. one_stays out level _ old new j c.mark.ensures.only (i.marked k lt h e le j p))
          (λ h e le j p.
          let same : h ≡ hold = same_Some h hold (sym e ∙ there) in
          c.mark.ensures.marked (c.has_level-fits.ensures.1 (subst (λ (x : Hold). level ≤ x.size) same le)) j (subst (λ (x : Hold). IsPlace part j x.net.0) same p));
      only = only_then out level (IsHoldAt circuit part level) _ c.args.store.now old new (λ k q. (at, hold, there, c.has_level-fits.ensures.0 q.0, q.1)) i.only c.mark.ensures.only;
      few = λ u all. let r = i.few u all in rewrites_then u out.span c.args.store.now old new r (c.mark.ensures.few u r.within);
    }

pub returns-clause-marked : goal.returns-clause-marked
returns-clause-marked c k h =
    let inside = slice_get_within c.args.circuit.now.holds h.0 h.1 h.2 in
    let shown : length c.as_slice-hold-items.result.now ≡ length c.args.circuit.now.holds = ap (λ (xs : List Hold). length xs) c.as_slice-hold-items.ensures in
    c.loop-hold.invariant.marked h.0 (omega (arith, inside, shown, c.loop-hold-test.false)) h.1 h.2 h.3 k h.4
