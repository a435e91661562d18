use Rattle.std.proofs.Common.{◌≤◌, ◌++◌, ◌∷◌, [], List, false, get_or, length, take, arith, ap, sym, ◌∙◌}
use Rattle.std.proofs.lemmas.List.{take_all, take_more}
use Rattle.plain_paths.proofs.LocalLaws.{local_last}
use Rattle.plain_paths.specs.Channels.{channels_over}
use Rattle.plain_paths.specs.Local.{devices_at, filled_at}
use Rattle.plain_paths.specs.declared.channels.Channel.{Channel}
use Rattle.vrt_model.specs.declared.ids.Dev.{Dev}
use Rattle.plain_paths.proofs.local.channels_at.Goals as goal

pub loop-number-preserved : goal.loop-number-preserved
loop-number-preserved c =
    let circuit = c.args.circuit.now in
    let devices = c.args.devices.now in
    let reading = filled_at c.args.bits.now in
    let at = c.loop-number.number-index in
    let blank : Dev = record { 0 = 0 } in
    let over : List Dev → List Channel = λ ks. channels_over false reading (devices_at circuit ks) in
    c.in_ok-add_at.ensures
    ∙ (ap (λ (channels : List Channel). channels ++ over (get_or devices at blank ∷ [])) c.loop-number.invariant
    ∙ (local_last circuit reading (take at devices) (get_or devices at blank) ∙ ap over (sym (take_more devices at blank c.loop-number-test.true))))

pub returns : goal.returns
returns c =
    let devices = c.args.devices.now in
    let all : length devices ≤ c.loop-number.number-index = omega (arith, c.loop-number-test.false) in
    c.loop-number.invariant ∙ ap (λ (ks : List Dev). channels_over false (filled_at c.args.bits.now) (devices_at c.args.circuit.now ks)) (take_all c.loop-number.number-index devices all)
