-- The nets of the flat circuit, one list behind the other.
use Rattle.std.proofs.Common.{refl, ◌∙◌, ap}
use Rattle.flatten.proofs.NetLaws.{nets_are}
use Rattle.net_places.specs.Whole.{whole_of}
use Rattle.vrt_model.specs.declared.design.Cell.{Cell}
use Rattle.flatten.proofs.nets.add_nets.Goals as goal

pub returns : goal.returns
returns c =
    let t = whole_of c.args.design.now c.args.rules.now c.args.cell c.args.pairing.now.ports in
    nets_are t c.args.index.now.supplies c.as_slice-ports.result.now c.as_slice-roles.result.now _ _ _ _ _ c.requires.indexed.rules_are.supplies_are
    (c.as_slice-ports.ensures ∙ ap (λ (x : Cell). x.ports) c.cell_of.ensures) c.as_slice-roles.ensures c.requires.empty
    c.in_ok-add_supply.ensures c.in_ok-add_supply-2.ensures c.in_ok-add_ports.ensures
    (c.in_ok-add_inner_nets.ensures t refl c.requires.tables (c.requires.unrolled c.args.pairing.now.ports))
