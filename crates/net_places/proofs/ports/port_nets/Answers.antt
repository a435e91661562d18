use Rattle.std.proofs.Common.{◌∙◌, ap, arith}
use Rattle.net_places.proofs.PortLaws.{begun, behind_small, done, step}
use Rattle.net_places.specs.Ports.{net_behind, net_by}
use Rattle.vrt_model.specs.CellRules.{supply_of}
use Rattle.net_places.proofs.ports.port_nets.Goals as goal
use Rattle.vrt_model.proofs.Lists.{no_items}

pub names-init : goal.names-init
names-init c = record {
  room = omega arith;
  numbered = λ design rules are there. begun rules c.args.names.now c.new-nets.result c.new-nets.ensures;
}

pub next_net-next-requires : goal.next_net-next-requires
next_net-next-requires c = let room = c.names.invariant.room in let few = c.requires in omega (arith, room, few)

pub names-preserved : goal.names-preserved
names-preserved c = record {
  room = behind_small c.supply_at-supply.result c.names.next c.next_net-next.result c.names.left.now c.in-Some.behind.now c.in-Some.name.now _ c.in-Some.ensures.cases.0 c.next_net-next.ensures c.names.invariant.room;
  numbered = λ design rules are there.
      let supply = c.supply_at-supply.ensures design rules are there ∙ ap (supply_of rules) c.as_bytes.ensures in
      step rules c.args.names.now c.names.left.now c.in-Some.behind.now c.in-Some.name.now c.names.nets c.append.new.self c.names.next c.next_net-next.result c.port_net.result c.in-Some.ensures.cases.0
      c.in_ok-append.ensures (c.port_net.ensures ∙ ap (λ s. net_by s c.names.next) supply) (c.next_net-next.ensures ∙ ap (λ s. net_behind s c.names.next) supply)
      (c.names.invariant.numbered design rules are there);
}

pub returns : goal.returns
returns c design rules are there = done rules c.args.names.now c.names.left.now c.names.nets c.names.next (no_items _ c.in_default.ensures.cases) (c.names.invariant.numbered design rules are there)
