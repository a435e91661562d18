use Rattle.std.proofs.Common.{◌≡◌, ℕ, length, true, arith, subst, sym, ◌∙◌, below_more}
use Rattle.std.proofs.lemmas.Option.{same_Some, slice_get_within}
use Rattle.channel_parts.specs.Labels.{joins_plain_nets}
use Rattle.channel_parts.specs.Unions.{Respects}
use Rattle.vrt_model.proofs.Lists.{item_at}
use Rattle.vrt_model.proofs.Members.{all_among}
use Rattle.vrt_model.specs.Circuits.{IsDevice}
use Rattle.vrt_model.specs.Lists.{At}
use Rattle.vrt_model.specs.declared.circuit.Device.{Device}
use Rattle.channel_parts.proofs.least.join_all.Goals as goal

pub join_ends-requires-clause-left : goal.join_ends-requires-clause-left
join_ends-requires-clause-left c =
    let circuit = c.args.circuit.now in
    let at = c.loop-device.device-index in
    let d = c.device-item.result in
    let there : At circuit.devices at d = item_at circuit.devices c.as_slice-device-items.result.now at d c.as_slice-device-items.ensures c.loop-device-test.true c.device-item.is in
    let inside = (all_among (IsDevice circuit) circuit.devices d c.requires.wired.ranges.devices (at, there)).left in
    let len = c.requires.len in
    let same = c.loop-device.auto.parents in
    omega (arith, inside, len, same)

pub join_ends-requires-clause-right : goal.join_ends-requires-clause-right
join_ends-requires-clause-right c =
    let circuit = c.args.circuit.now in
    let at = c.loop-device.device-index in
    let d = c.device-item.result in
    let there : At circuit.devices at d = item_at circuit.devices c.as_slice-device-items.result.now at d c.as_slice-device-items.ensures c.loop-device-test.true c.device-item.is in
    let inside = (all_among (IsDevice circuit) circuit.devices d c.requires.wired.ranges.devices (at, there)).right in
    let len = c.requires.len in
    let same = c.loop-device.auto.parents in
    omega (arith, inside, len, same)

pub loop-device-preserved : goal.loop-device-preserved
loop-device-preserved c =
    let circuit = c.args.circuit.now in
    let known = c.args.known.now in
    let bare = c.args.bare in
    let at = c.loop-device.device-index in
    let u = c.join_ends.new.parents in
    let d = c.device-item.result in
    let there : At circuit.devices at d = item_at circuit.devices c.as_slice-device-items.result.now at d c.as_slice-device-items.ensures c.loop-device-test.true c.device-item.is in
    let P : ℕ → Type 0 = λ k. (x : Device) → At circuit.devices k x → joins_plain_nets circuit known bare x ≡ true → (f : ℕ → ℕ) → Respects u f → f x.left.0 ≡ f x.right.0 in
    record {
      below = c.join_ends.ensures.below;
      joined = below_more P at
          (λ k lt x e j f r. c.loop-device.invariant.joined k lt x e j f (c.join_ends.ensures.same f r))
          (λ x e. subst (λ (y : Device). joins_plain_nets circuit known bare y ≡ true → (f : ℕ → ℕ) → Respects u f → f y.left.0 ≡ f y.right.0) (same_Some d x (sym there ∙ e)) c.join_ends.ensures.joined);
      sound = λ phase table of. c.join_ends.ensures.sound phase table (at, there) (c.loop-device.invariant.sound phase table of);
    }

pub returns-clause-joined : goal.returns-clause-joined
returns-clause-joined c d m =
    let shown : length c.as_slice-device-items.result.now ≡ length c.args.circuit.now.devices = cc (c.as_slice-device-items.ensures) in
    let inside = slice_get_within c.args.circuit.now.devices m.0 d m.1 in
    c.loop-device.invariant.joined m.0 (omega (arith, inside, shown)) d m.1
