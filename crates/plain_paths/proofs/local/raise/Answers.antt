use Rattle.std.proofs.Common.{ℕ, false, subst, sym, ◌∙◌}
use Rattle.std.specs.Prelude.{All, vec_len}
use Rattle.plain_paths.proofs.LocalLaws.{local_device, local_within, with_bound, with_channels}
use Rattle.plain_paths.specs.Channels.{HasChannels, IsInRange, channels_over}
use Rattle.plain_paths.specs.Local.{devices_at, filled_at, network_with}
use Rattle.vrt_model.specs.Networks.{HasBound}
use Rattle.vrt_model.specs.Path.{Network}
use Rattle.plain_paths.proofs.local.raise.Goals as goal

pub raise_over-requires-clause-fits : goal.raise_over-requires-clause-fits
raise_over-requires-clause-fits c =
    let circuit = c.args.circuit.now in
    let reading = filled_at c.args.bits.now in
    subst (All (IsInRange (vec_len c.args.tables.now.strengths))) (sym (c.as_slice.ensures.value ∙ c.in_ok-channels.ensures))
    (subst (λ (k : ℕ). All (IsInRange k) (channels_over false reading (devices_at circuit c.args.devices.now))) (sym c.requires.places.strengths) (local_within circuit c.requires.circuit reading c.args.devices.now))

pub returns-clause-signals : goal.returns-clause-signals
returns-clause-signals c given held roots tables =
    let circuit = c.args.circuit.now in
    let flat = c.requires.circuit in
    let reading = filled_at c.args.bits.now in
    let devices = devices_at circuit c.args.devices.now in
    let w : Network = network_with circuit reading given held devices in
    c.raise_over.ensures.signals w (subst (HasBound w) (sym c.requires.places.strengths) (with_bound circuit flat reading given held devices (local_device circuit flat c.args.devices.now)))
    (subst (HasChannels w) (sym (c.as_slice.ensures.value ∙ c.in_ok-channels.ensures)) (with_channels circuit flat reading given held devices)) (roots reading) (tables reading)
