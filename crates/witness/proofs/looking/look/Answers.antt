use Rattle.std.proofs.Common.{◌≡◌, Bool, List, ap, subst, sym, ◌∙◌}
use Rattle.vrt_model.specs.declared.ids.Dev.{Dev}
use Rattle.witness.proofs.LookLaws.{look_is}
use Rattle.witness.specs.Looks.{look}
use Rattle.witness.specs.Replays.{HasSeen}
use Rattle.known_nets.specs.KnownTables.{known_at}
use Rattle.witness.proofs.looking.look.Goals as goal

pub returns : goal.returns
returns c phase setting which rank driven part there given known signals =
    let circuit = c.args.circuit.now in
    let bits = c.args.bits.now in
    let net = c.args.net in
    let shown = c.args.signals.now in
    let same : c.look_at.result ≡ look circuit bits c.args.part.now.devices shown.zeros.items shown.ones.items net =
    c.look_at.ensures
    ∙ ap (λ (ds : List Dev). look circuit bits ds c.as_slice-2.result.now c.as_slice-3.result.now net) c.as_slice.ensures
    ∙ ap (λ (zs : List Bool). look circuit bits c.args.part.now.devices zs c.as_slice-3.result.now net) c.as_slice-2.ensures.value
    ∙ ap (λ (os : List Bool). look circuit bits c.args.part.now.devices shown.zeros.items os net) c.as_slice-3.ensures.value in
    subst (HasSeen circuit phase setting (known_at bits) which net) (sym same)
    (look_is circuit phase c.requires setting which bits given known c.args.part.now rank part net there driven shown.strengths.items shown.zeros.items shown.ones.items signals)
