use Rattle.std.proofs.Common.{◌≡◌, ℕ, length, true, arith, inl, inr, subst, sym, ◌∙◌, below_more}
use Rattle.std.proofs.lemmas.Option.{same_Some, slice_get_within}
use Rattle.vrt_model.proofs.Lists.{item_at}
use Rattle.vrt_model.proofs.Members.{all_among}
use Rattle.vrt_model.specs.Circuits.{IsHold}
use Rattle.vrt_model.specs.Lists.{At, mark_at}
use Rattle.vrt_model.specs.declared.circuit.Hold.{Hold}
use Rattle.known_nets.proofs.incidence.mark_holds.Goals as goal

pub mark-requires : goal.mark-requires
mark-requires c =
    let circuit = c.args.circuit.now in
    let at = c.loop-hold.hold-index in
    let hold = c.hold-item.result in
    let there : At circuit.holds at hold = item_at circuit.holds c.as_slice-hold-items.result.now at hold c.as_slice-hold-items.ensures c.loop-hold-test.true c.hold-item.is in
    let inside = (all_among (IsHold circuit) circuit.holds hold c.requires.wired.ranges.holds (at, there)).net in
    let len = c.requires.len in
    let size = c.loop-hold.invariant.size in
    omega (arith, inside, len, size)

pub loop-hold-preserved : goal.loop-hold-preserved
loop-hold-preserved c =
    let circuit = c.args.circuit.now in
    let at = c.loop-hold.hold-index in
    let u = c.mark.new.marks.items in
    let hold = c.hold-item.result in
    let there : At circuit.holds at hold = item_at circuit.holds c.as_slice-hold-items.result.now at hold c.as_slice-hold-items.ensures c.loop-hold-test.true c.hold-item.is in
    let P : ℕ → Type 0 = λ k. (x : Hold) → At circuit.holds k x → mark_at u x.net.0 ≡ true in
    record {
      size = c.mark.ensures.size ∙ c.loop-hold.invariant.size;
      holds = below_more P at
          (λ k lt x e. c.mark.ensures.grown x.net.0 (c.loop-hold.invariant.holds k lt x e))
          (λ x e. subst (λ (y : Hold). mark_at u y.net.0 ≡ true) (same_Some hold x (sym there ∙ e)) c.mark.ensures.marked);
      only = λ n e. elim (c.mark.ensures.only n e) [
        | inl before ↦ c.loop-hold.invariant.only n before
        | inr here ↦ inr (hold, (at, there), sym here)
      ];
    }

pub returns-clause-holds : goal.returns-clause-holds
returns-clause-holds c at hold there =
    let shown : length c.as_slice-hold-items.result.now ≡ length c.args.circuit.now.holds = cc (c.as_slice-hold-items.ensures) in
    let inside = slice_get_within c.args.circuit.now.holds at hold there in
    c.loop-hold.invariant.holds at (omega (arith, inside, shown)) hold there
