use Rattle.std.proofs.Common.{◌≡◌, map, take}
use Rattle.blif_eval.specs.Learning.{awaited_by}
use Rattle.blif_eval.proofs.learning.awaiting.Given as goal

-- the lists so far
abbrev pub invariant-loop-driver : goal.invariant-loop-driver
invariant-loop-driver l = l.graph ≡ map (awaited_by l.flat l.known) (take l.driver-index l.drivers)
