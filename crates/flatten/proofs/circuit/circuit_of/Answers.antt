-- Each list is that of the flat circuit.
use Rattle.std.proofs.Common.{◌≡◌, List, [], ap, length, arith}
use Rattle.flatten.proofs.CircuitLaws.{assembled, same_nets}
use Rattle.net_places.proofs.CallerLaws.{are_small}
use Rattle.net_places.specs.Whole.{whole_of}
use Rattle.vrt_model.specs.FlatCircuit.{flat_nets}
use Rattle.vrt_model.specs.Unsupported.{top_before}
use Rattle.vrt_model.specs.declared.circuit.FlatNet.{FlatNet}
use Rattle.flatten.proofs.circuit.circuit_of.Goals as goal

pub flat_devices-requires-clause-unrolled : goal.flat_devices-requires-clause-unrolled
flat_devices-requires-clause-unrolled c = record { cell = c.args.cell; unrolled_is = c.requires.unrolled []; small = c.requires.small }

pub flat_instances-requires : goal.flat_instances-requires
flat_instances-requires c =
    are_small (top_before c.args.design.now c.args.rules.now c.args.cell) c.args.unrolled.now c.requires.netlist (c.requires.unrolled [])

pub returns : goal.returns
returns c =
    let roles = c.args.pairing.now.ports in
    let t = whole_of c.args.design.now c.args.rules.now c.args.cell roles in
    let size : length c.in_ok-nets.nets ≡ length (flat_nets t) = ap (λ (nets : List FlatNet). length nets) c.in_ok-nets.ensures in
    assembled t _ _ _ _ _ _ c.in_ok-nets.ensures (c.in_ok-devices.ensures c.args.cell roles (c.requires.unrolled roles))
    (c.in_ok-holds.ensures roles (omega (arith, size))) (c.in_ok-instances.ensures t (c.requires.unrolled roles)) c.new.ensures c.source_level.ensures

pub overflow_cast-count : goal.overflow_cast-count
overflow_cast-count c =
    let roles = c.args.pairing.now.ports in
    let t = whole_of c.args.design.now c.args.rules.now c.args.cell roles in
    let size : length c.in_ok-nets.nets ≡ length (flat_nets t) = ap (λ (nets : List FlatNet). length nets) c.in_ok-nets.ensures in
    let same : length (flat_nets t) ≡ length (flat_nets (top_before c.args.design.now c.args.rules.now c.args.cell)) = same_nets c.args.design.now c.args.rules.now c.args.cell roles in
    omega (arith, size, same, c.len-count.ensures, c.requires.small)
