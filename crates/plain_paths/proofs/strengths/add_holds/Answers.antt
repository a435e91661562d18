use Rattle.std.proofs.Common.{◌≡◌, ℕ, ◌≤◌, List, length, slice_index, arith, subst, sym, ◌∙◌, below_more}
use Rattle.std.proofs.lemmas.Option.{same_Some, slice_get_within}
use Rattle.vrt_model.proofs.Lists.{item_at}
use Rattle.plain_paths.proofs.Rounds.{raise_attained}
use Rattle.vrt_model.specs.Lists.{At}
use Rattle.vrt_model.specs.declared.circuit.Hold.{Hold}
use Rattle.plain_paths.proofs.strengths.add_holds.Goals as goal

pub loop-hold-preserved : goal.loop-hold-preserved
loop-hold-preserved c =
    let holds = c.args.circuit.now.holds in
    let at = c.loop-hold.hold-index in
    let u = c.raise.new.table in
    let hold = c.hold-item.result in
    let there : At holds at hold = item_at holds c.as_slice-hold-items.result.now at hold c.as_slice-hold-items.ensures c.loop-hold-test.true c.hold-item.is in
    let P : ℕ → Type 0 = λ k. (h : Hold) → At holds k h → h.size ≤ slice_index u h.net.0 in
    record {
      grown = λ n. omega (arith, c.loop-hold.invariant.grown n, c.raise.ensures.grown n);
      holds = below_more P at
          (λ k lt h e. omega (arith, c.loop-hold.invariant.holds k lt h e, c.raise.ensures.grown h.net.0))
          (λ h e. subst (λ (x : Hold). x.size ≤ slice_index u x.net.0) (same_Some hold h (sym there ∙ e)) c.raise.ensures.raised);
      attained = λ w s a. raise_attained w at hold c.loop-hold.table u (subst (λ (hs : List Hold). At hs at hold) (sym s) there) c.raise.ensures.only (c.loop-hold.invariant.attained w s a);
    }

pub returns-clause-holds : goal.returns-clause-holds
returns-clause-holds c at hold e =
    let shown : length c.as_slice-hold-items.result.now ≡ length c.args.circuit.now.holds = cc (c.as_slice-hold-items.ensures) in
    let inside = slice_get_within c.args.circuit.now.holds at hold e in
    c.loop-hold.invariant.holds at (omega (arith, inside, shown)) hold e
