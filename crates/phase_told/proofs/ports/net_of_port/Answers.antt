use Rattle.std.proofs.Common.{◌∙◌, ℕ, List, ap, sym}
use Rattle.phase_told.proofs.NetLaws.{here_low, later_low, net_here, net_later}
use Rattle.phase_told.specs.Nets.{net_at}
use Rattle.vrt_model.proofs.Lists.{no_items}
use Rattle.vrt_model.specs.declared.pairing.PortRole.{PortRole}
use Rattle.phase_told.proofs.ports.net_of_port.Goals as goal

pub next_by-next-requires : goal.next_by-next-requires
next_by-next-requires c =
    here_low c.ports.next c.supply_bit-supply.result c.in-Some.role.now c.in-Some.behind.now c.ports.rest.now c.in-Some.ensures.cases.0 c.supply_bit-supply.ensures c.ports.invariant.low

pub ports-preserved : goal.ports-preserved
ports-preserved c =
    let next = c.ports.next in
    let supply = c.supply_bit-supply.result in
    let first = c.in-Some.ensures.cases.0 in
    let same = c.supply_bit-supply.ensures in
    record {
      is = net_later next supply c.in-Some.role.now c.in-Some.behind.now c.ports.rest.now first same c.next_by-next.result c.ports.left c.next_by-next.ensures c.if-left-eq0.false ∙ c.ports.invariant.is;
      low = later_low next supply c.in-Some.role.now c.in-Some.behind.now c.ports.rest.now first same c.ports.invariant.low c.next_by-next.result c.next_by-next.ensures;
    }

pub returns-then-left-eq0 : goal.returns-then-left-eq0
returns-then-left-eq0 c =
    c.net_by.ensures
    ∙ net_here c.ports.next c.supply_bit-supply.result c.in-Some.role.now c.in-Some.behind.now c.ports.rest.now c.in-Some.ensures.cases.0 c.supply_bit-supply.ensures
    ∙ ap (λ (n : ℕ). net_at c.ports.next c.ports.rest.now n) (sym c.if-left-eq0.true)
    ∙ c.ports.invariant.is

pub returns : goal.returns
returns c =
    ap (λ (roles : List PortRole). net_at c.ports.next roles c.ports.left) (sym (no_items c.ports.rest.now c.in_default.ensures.cases)) ∙ c.ports.invariant.is
