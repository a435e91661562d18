use Rattle.std.proofs.Common.{◌≡◌, ℕ, List, length, arith, ap, sym, subst, ◌∙◌, below_more}
use Rattle.std.proofs.lemmas.Option.{same_Some, slice_get_within}
use Rattle.part_functions.specs.Small.{IsInside}
use Rattle.path_fixpoint.specs.Parts.{IsPlace}
use Rattle.vrt_model.proofs.Lists.{item_at}
use Rattle.vrt_model.specs.Lists.{At}
use Rattle.vrt_model.specs.declared.circuit.Hold.{Hold}
use Rattle.part_functions.proofs.suits.no_hold.Goals as goal

pub loop-hold-preserved : goal.loop-hold-preserved
loop-hold-preserved c =
    let holds = c.args.circuit.now.holds in
    let part = c.args.part.now in
    let at = c.loop-hold.hold-index in
    let hold : Hold = c.hold-item.result in
    let there : At holds at hold = item_at holds c.as_slice-hold-items.result.now at hold c.as_slice-hold-items.ensures c.loop-hold-test.true c.hold-item.is in
    let P : ℕ → Type 0 = λ k. (h : Hold) → At holds k h → ¬ IsInside part h.net.0 in
    below_more P at c.loop-hold.invariant
    (λ h e inside. c.has_net.ensures c.if-has_net.false inside.0 (subst (λ (x : Hold). IsPlace part inside.0 x.net.0) (same_Some h hold (sym e ∙ there)) inside.1))

pub returns : goal.returns
returns c e hold m =
    let inside = slice_get_within c.args.circuit.now.holds m.0 hold m.1 in
    let shown : length c.as_slice-hold-items.result.now ≡ length c.args.circuit.now.holds = ap (λ (xs : List Hold). length xs) c.as_slice-hold-items.ensures in
    c.loop-hold.invariant m.0 (omega (arith, inside, shown, c.loop-hold-test.false)) hold m.1
