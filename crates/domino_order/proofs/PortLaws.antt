-- Port by port: where each step of each net holds, each step holds.
use Rattle.std.proofs.Common.{◌≡◌, ℕ, ◌<◌, arith, eqb, length, subst, sym, ◌∙◌}
use Rattle.std.proofs.lemmas.Option.{same_Some, slice_get-get_or, slice_get_within}
use Rattle.std.proofs.lemmas.Bool.{eqb-true}
use Rattle.domino_order.specs.Ports.{HoldsFor, net_at}
use Rattle.domino_order.specs.Runs.{of_asked}
use Rattle.domino_order.specs.StepBits.{AllHoldAt}
use Rattle.domino_order.specs.declared.prepared.Asked.{Asked}
use Rattle.vrt_model.proofs.Members.{any_among}

-- all of them: what rises at a step is one of the nets
pub all_ports : (s : Asked) (upto : ℕ) → length s.rising.nets.now ≡ upto → ((i : ℕ) → i < upto → HoldsFor s i) → (n : ℕ) → AllHoldAt (of_asked s) s.rising.phase s.rising.nets.now n
all_ports s upto len holds n bits step =
    let nets = s.rising.nets.now in
    let there = any_among (λ (x : ℕ). eqb x n) nets step.step.rises.0 in
    let at = there.1.0 in
    let lt = slice_get_within nets at there.0 there.1.1 in
    let same : net_at s at ≡ n = same_Some (net_at s at) there.0 (sym (slice_get-get_or nets at 0 lt) ∙ there.1.1) ∙ eqb-true there.0 n there.2 in
    subst (AllHoldAt (of_asked s) s.rising.phase nets) same (holds at (omega (arith, lt, len))) bits step
