use Rattle.std.proofs.Common.{◌≡◌, slice_index, true}
use Rattle.channel_parts.proofs.Labels.{labels_least, own_below, own_of_parts}
use Rattle.channel_parts.specs.Labels.{joins_plain_nets}
use Rattle.vrt_model.specs.Lists.{Among}
use Rattle.vrt_model.specs.declared.circuit.Device.{Device}
use Rattle.channel_parts.proofs.least.label_parts.Goals as goal

pub join_all-requires-clause-below : goal.join_all-requires-clause-below
join_all-requires-clause-below c = own_below c.args.labels.now c.requires.own

pub returns-clause-least : goal.returns-clause-least
returns-clause-least c phase table =
    let circuit = c.args.circuit.now in
    let known = c.args.known.now in
    let bare = c.args.bare in
    let t = c.join_all.new.parents in
    let u = c.flatten.new.parents in
    let joined : (d : Device) → Among circuit.devices d → joins_plain_nets circuit known bare d ≡ true → slice_index u d.left.0 ≡ slice_index u d.right.0 =
    λ d m j. c.join_all.ensures.joined d m j (slice_index u) (c.flatten.ensures.same (slice_index u) c.flatten.ensures.own) in
    let of = c.flatten.ensures.sound circuit phase bare (c.join_all.ensures.sound phase table (own_of_parts circuit phase bare c.args.labels.now c.requires.len c.requires.own)) in
    labels_least circuit phase known bare u table joined c.flatten.ensures.below of
