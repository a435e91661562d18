use Rattle.std.proofs.Common.{◌≡◌, Bool, List, [], ◌∷◌, ◌++◌, cond, map, ap, sym, ◌∙◌}
use Rattle.std.proofs.lemmas.List.{append-nil}
use Rattle.std.proofs.lemmas.Result.{on_ok_weaker}
use Rattle.plain_paths.specs.Channels.{channel_of, channels_over}
use Rattle.plain_paths.specs.declared.channels.Channel.{Channel}
use Rattle.vrt_model.specs.Lists.{bit_at}
use Rattle.vrt_model.specs.declared.circuit.Device.{Device}
use Rattle.plain_paths.proofs.channels.add.Goals as goal

-- what a device adds, by whether it conducts
abbrev added : Device → Bool → List Channel
added d on = map channel_of (cond on (d ∷ []) [])

pub returns-then-not-is_on : goal.returns-then-not-is_on
returns-then-not-is_on c =
    let old = c.args.channels.now.items in
    sym (ap (λ (on : Bool). old ++ added c.args.device.now on) (sym c.is_on.ensures ∙ c.if-not-is_on.true) ∙ append-nil old)

pub returns : goal.returns
returns c =
    let old = c.args.channels.now.items in
    let device = c.args.device.now in
    let over : c.append.new.channels.items ≡ old ++ c.through.result ∷ [] → c.append.new.channels.items ≡ old ++ channels_over c.args.bare (bit_at c.args.reading.now) (device ∷ []) =
    λ e. e ∙ (ap (λ (channel : Channel). old ++ channel ∷ []) c.through.ensures ∙ ap (λ (on : Bool). old ++ added device on) (sym (sym c.is_on.ensures ∙ c.if-not-is_on.false))) in
    on_ok_weaker c.append.result over c.append.ensures
