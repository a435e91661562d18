use Rattle.std.proofs.Common.{◌∙◌, arith, length, ap, sym}
use Rattle.vrt_model.specs.CellRules.{supply_of}
use Rattle.constraints.proofs.PortLaws.{behind_low, port_found, port_missing, port_passed}
use Rattle.mode_lines.proofs.port_nets.net_among.Goals as goal
use Rattle.vrt_model.proofs.Lists.{no_items}

pub ports-preserved : goal.ports-preserved
ports-preserved c =
    let is = ap length c.in-Some.ensures.cases.0 in
    let low = c.ports.invariant.low in
    let later = c.net_behind-next.ensures in
    let left = behind_low c.supply_of-supply.result c.ports.next (length c.in-Some.behind.now) in
    record {
      from = port_passed c.args.rules.now c.args.name.now c.args.names.now c.ports.rest.now c.in-Some.behind.now c.in-Some.port.now c.ports.next c.supply_of-supply.result c.in-Some.ensures.cases.0
          (c.supply_of-supply.ensures ∙ ap (supply_of c.args.rules.now) c.as_bytes.ensures) c.ports.invariant.from c.net_behind-next.result (sym c.is_named.ensures ∙ c.if-is_named.false) later;
      low = omega (arith, is, low, later, left);
    }

pub returns-then-is_named : goal.returns-then-is_named
returns-then-is_named c =
    port_found c.args.rules.now c.args.name.now c.args.names.now c.ports.rest.now c.in-Some.behind.now c.in-Some.port.now c.ports.next c.supply_of-supply.result c.in-Some.ensures.cases.0
    (c.supply_of-supply.ensures ∙ ap (supply_of c.args.rules.now) c.as_bytes.ensures) c.ports.invariant.from c.net_by.result (sym c.is_named.ensures ∙ c.if-is_named.true) c.net_by.ensures

pub returns : goal.returns
returns c =
    port_missing c.args.rules.now c.args.name.now c.args.names.now c.ports.rest.now c.ports.next (no_items c.ports.rest.now c.in_default.ensures.cases) c.ports.invariant.from
