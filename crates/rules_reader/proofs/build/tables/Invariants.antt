use Rattle.std.proofs.Common.{take}
use Rattle.rules_reader.specs.Built.{AreSoFar}
use Rattle.rules_reader.proofs.build.tables.Given as goal

-- the tables of the lines so far
abbrev pub invariant-loop-card : goal.invariant-loop-card
invariant-loop-card l = AreSoFar l.known.clocks l.known.phases l.known.clocks l.known.scale (take l.card-index l.cards) l.rules
