use Rattle.std.proofs.Common.{length, refl, subst, sym, ◌∙◌}
use Rattle.std.specs.Prelude.{All}
use Rattle.plain_paths.proofs.Passing.{channels_within, network_channels, network_over}
use Rattle.plain_paths.specs.Channels.{HasChannels, IsInRange}
use Rattle.vrt_model.proofs.Networks.{network_bound, flat_ranges}
use Rattle.vrt_model.specs.Lists.{bit_at}
use Rattle.vrt_model.specs.Path.{Network}
use Rattle.vrt_model.specs.State.{State, network_of}
use Rattle.plain_paths.proofs.signals.signals_at.Goals as goal

pub signals_over-requires-clause-fits : goal.signals_over-requires-clause-fits
signals_over-requires-clause-fits c =
    let circuit = c.args.circuit.now in
    subst (All (IsInRange (length circuit.nets))) (sym (c.as_slice.ensures.value ∙ c.in_ok-passing.ensures)) (channels_within circuit c.args.bare (bit_at c.args.reading.now) c.requires)

pub returns-clause-signals : goal.returns-clause-signals
returns-clause-signals c driven =
    let circuit = c.args.circuit.now in
    let held = bit_at c.args.held.now in
    let state : State = record { reading = bit_at c.args.reading.now; driven = driven } in
    let w : Network = network_of circuit c.args.bare held state in
    c.in_ok-signals.ensures.signals w (network_over circuit c.args.bare held state c.requires.wholes) refl refl (network_bound circuit c.args.bare held state (flat_ranges circuit c.requires))
    (subst (HasChannels w) (sym (c.as_slice.ensures.value ∙ c.in_ok-passing.ensures)) (network_channels circuit c.args.bare held state))
