-- the phases so far are equal, the cell is the same, and the ports have the levels of those so far
use Rattle.std.proofs.Common.{◌≡◌, ◌<◌, length}
use Rattle.cell_compare.specs.Workspace.{KeepsCell, compared_in}
use Rattle.drive_levels.specs.PortLevels.{AreAsked, ArePortLevels}
use Rattle.vrt_model.specs.Verdicts.{EqualBefore}
use Rattle.cell_compare.proofs.phases.search.Given as goal

abbrev pub invariant-loop-phase : goal.invariant-loop-phase
invariant-loop-phase l = record {
  equal : EqualBefore (compared_in l.fn.workspace) l.phase;
  rest : KeepsCell l.fn.workspace l.workspace;
  asked : AreAsked l.fn.workspace.made.outputs l.workspace.levels;
  nets : l.ports.nets ≡ l.fn.ports.nets;
  len : length l.ports.levels.items ≡ length l.ports.nets;
  joined : 0 < l.phase → ArePortLevels (compared_in l.fn.workspace) l.phase l.fn.ports.nets l.ports.levels.items;
}
