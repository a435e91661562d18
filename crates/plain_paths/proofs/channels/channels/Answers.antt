use Rattle.std.proofs.Common.{◌≡◌, ◌≤◌, List, [], ◌∷◌, ◌++◌, length, take, arith, ap, sym, ◌∙◌}
use Rattle.std.proofs.lemmas.List.{take_all}
use Rattle.plain_paths.proofs.Passing.{channels_last}
use Rattle.plain_paths.specs.Channels.{channels_over}
use Rattle.plain_paths.specs.declared.channels.Channel.{Channel}
use Rattle.vrt_model.proofs.Lists.{item_at, take_one}
use Rattle.vrt_model.specs.Lists.{At, bit_at}
use Rattle.vrt_model.specs.declared.circuit.Device.{Device}
use Rattle.plain_paths.proofs.channels.channels.Goals as goal

pub loop-device-preserved : goal.loop-device-preserved
loop-device-preserved c =
    let devices = c.args.circuit.now.devices in
    let at = c.loop-device.device-index in
    let device = c.device-item.result in
    let there : At devices at device = item_at devices c.as_slice-device-items.result.now at device c.as_slice-device-items.ensures c.loop-device-test.true c.device-item.is in
    let over : List Device → List Channel = channels_over c.args.bare (bit_at c.args.reading.now) in
    c.in_ok-add.ensures
    ∙ (ap (λ (channels : List Channel). channels ++ over (device ∷ [])) c.loop-device.invariant
    ∙ (channels_last c.args.bare (bit_at c.args.reading.now) (take at devices) device ∙ ap over (sym (take_one devices at device there))))

pub returns : goal.returns
returns c =
    let devices = c.args.circuit.now.devices in
    let same : length c.as_slice-device-items.result.now ≡ length devices = ap length c.as_slice-device-items.ensures in
    let all : length devices ≤ c.loop-device.device-index = omega (arith, c.loop-device-test.false, same) in
    c.loop-device.invariant ∙ ap (channels_over c.args.bare (bit_at c.args.reading.now)) (take_all c.loop-device.device-index devices all)
