use Rattle.blif_eval.specs.Learning.{IsLearning}
use Rattle.blif_eval.proofs.learning.learn_all.Given as goal

abbrev pub invariant-loop-number : goal.invariant-loop-number
invariant-loop-number l = IsLearning l.flat l.fn.bits.items l.steps l.number-index l.bits.items
