use Rattle.std.proofs.Common.{ℕ, ◌≡◌, get_or, length, arith, ap, subst, sym, ◌∙◌, below_more}
use Rattle.std.proofs.lemmas.Option.{same_Some, slice_get-get_or, slice_get_within}
use Rattle.vrt_model.proofs.Lists.{item_at}
use Rattle.known_nets.proofs.region.all_keep_shut.Goals.{then-number-devices+else-not-shut, else-number-devices}
use Rattle.known_nets.specs.Regions.{KeepsShut}
use Rattle.vrt_model.specs.Lists.{At}
use Rattle.vrt_model.specs.declared.circuit.Device.{Device}
use Rattle.known_nets.proofs.region.all_keep_shut.Goals as goal

pub loop-number-preserved : goal.loop-number-preserved
loop-number-preserved c =
    let circuit = c.args.circuit.now in
    let known = c.args.known.now in
    let numbers = c.args.numbers.now in
    let i = c.loop-number.number-index in
    let k : ℕ = get_or numbers i 0 in
    let at : At numbers i k = slice_get-get_or numbers i 0 c.loop-number-test.true in
    let P : ℕ → Type 0 = λ i. (k : ℕ) (d : Device) → At numbers i k → At circuit.devices k d → KeepsShut circuit known c.args.net d in
    let here : P i =
    elim c.if-number-devices.branch [
      | then-number-devices+else-not-shut w ↦
          let d = w.index-devices-number.result in
          let there : At circuit.devices k d = item_at circuit.devices c.as_slice-devices.result.now k d c.as_slice-devices.ensures w.if-number-devices.true w.index-devices-number.is in
          λ l e at_l at_e.
          let same : k ≡ l = same_Some k l (sym at ∙ at_l) in
          subst (KeepsShut circuit known c.args.net) (same_Some d e (sym there ∙ subst (λ (x : ℕ). At circuit.devices x e) (sym same) at_e)) (w.keeps_shut-shut.ensures.yes w.if-not-shut.false)
      | else-number-devices w ↦
          let len : length c.as_slice-devices.result.now ≡ length circuit.devices = ap length c.as_slice-devices.ensures in
          let past = w.if-number-devices.false in
          λ l e at_l at_e.
          let same : k ≡ l = same_Some k l (sym at ∙ at_l) in
          let inside = slice_get_within circuit.devices l e at_e in
          absurd (omega (arith, past, len, same, inside))
    ] in
    below_more P i c.loop-number.invariant here

pub returns-clause-yes : goal.returns-clause-yes
returns-clause-yes c e k d m =
    let inside = slice_get_within c.args.numbers.now m.0 k m.1 in
    c.loop-number.invariant m.0 (omega (arith, inside, c.loop-number-test.false)) k d m.1
