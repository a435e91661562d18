use Rattle.std.proofs.Common.{◌≤◌, ◌<◌, ◌+◌, length}
use Rattle.net_places.proofs.PortLaws.{IsNumbering}
use Rattle.net_tables.specs.Tables.{AreNetTables}
use Rattle.vrt_model.specs.declared.design.Design.{Design}
use Rattle.vrt_model.specs.declared.rules.Rules.{Rules}
use Rattle.net_places.proofs.ports.port_nets.Given as goal

abbrev pub decreases-names : goal.decreases-names
decreases-names l = length l.left

abbrev pub invariant-names : goal.invariant-names
invariant-names l = record {
  room : l.next + length l.left ≤ 2 + length l.fn.names;
  numbered : (design : Design) (rules : Rules) → AreNetTables design rules l.tables → l.cell < length design.cells → IsNumbering rules l.fn.names l.nets l.next l.left;
}
