use Rattle.std.proofs.Common.{◌≡◌, map, take}
use Rattle.blif_eval.specs.Sources.{sources_by}
use Rattle.blif_eval.proofs.graph.graph_of.Given as goal

-- the lists so far
abbrev pub invariant-loop-driver : goal.invariant-loop-driver
invariant-loop-driver l = l.graph ≡ map (sources_by l.flat l.bits) (take l.driver-index l.drivers)
