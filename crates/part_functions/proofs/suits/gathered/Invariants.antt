use Rattle.part_functions.proofs.GatherLaws.{HasGathered}
use Rattle.part_functions.proofs.suits.gathered.Given as goal

abbrev pub invariant-loop-place : goal.invariant-loop-place
invariant-loop-place l = HasGathered l.functions l.circuit l.part l.gates l.roots l.store l.place
