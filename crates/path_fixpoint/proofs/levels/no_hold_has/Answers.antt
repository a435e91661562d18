use Rattle.std.proofs.Common.{◌≡◌, ◌≢◌, ℕ, List, length, arith, ap, sym, ◌∙◌, below_more}
use Rattle.std.proofs.lemmas.Option.{same_Some, slice_get_within}
use Rattle.vrt_model.proofs.Lists.{item_at}
use Rattle.vrt_model.specs.Lists.{At}
use Rattle.vrt_model.specs.declared.circuit.Hold.{Hold}
use Rattle.path_fixpoint.proofs.levels.no_hold_has.Goals as goal

pub loop-hold-preserved : goal.loop-hold-preserved
loop-hold-preserved c =
    let holds = c.args.circuit.now.holds in
    let at = c.loop-hold.hold-index in
    let hold : Hold = c.hold-item.result in
    let there : At holds at hold = item_at holds c.as_slice-hold-items.result.now at hold c.as_slice-hold-items.ensures c.loop-hold-test.true c.hold-item.is in
    let P : ℕ → Type 0 = λ k. (h : Hold) → At holds k h → h.size ≢ c.args.level in
    below_more P at c.loop-hold.invariant
    (λ h e same. let size : h.size ≡ hold.size = ap (λ (x : Hold). x.size) (same_Some h hold (sym e ∙ there)) in omega (arith, size, same, c.if-hold-level.false))

pub returns : goal.returns
returns c e at hold is =
    let inside = slice_get_within c.args.circuit.now.holds at hold is in
    let shown : length c.as_slice-hold-items.result.now ≡ length c.args.circuit.now.holds = ap (λ (xs : List Hold). length xs) c.as_slice-hold-items.ensures in
    c.loop-hold.invariant at (omega (arith, inside, shown, c.loop-hold-test.false)) hold is
