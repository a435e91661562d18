use Rattle.std.proofs.Common.{take}
use Rattle.channel_parts.specs.PhaseTables.{AreTables}
use Rattle.channel_parts.proofs.switching.tables_of.Given as goal

-- the tables of the phases so far
abbrev pub invariant-loop-phase : goal.invariant-loop-phase
invariant-loop-phase l = AreTables l.circuit (take l.phase-index l.phases) l.tables
