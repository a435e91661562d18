use Rattle.std.proofs.Common.{ℕ, Option, subst}
use Rattle.std.proofs.lemmas.Result.{on_ok_weaker}
use Rattle.channel_parts.specs.Sources.{IsFromTo, device_source}
use Rattle.known_nets.specs.Placed.{Adds}
use Rattle.channel_parts.proofs.sources.join_device.Goals as goal

pub returns : goal.returns
returns c =
    let circuit = c.args.circuit.now in
    let known = c.args.known.now in
    let least = c.args.least.now in
    let old = c.args.sources.now.items in
    let new = c.join.new.sources.items in
    on_ok_weaker c.join.result
    (λ adds.
    subst (λ (o : Option ℕ). Adds (IsFromTo (device_source circuit known least c.args.device.now) o) old new) c.device_owner-owner.ensures
    (subst (λ (s : Option ℕ). Adds (IsFromTo s c.device_owner-owner.result) old new) c.device_source-source.ensures adds))
    c.join.ensures
