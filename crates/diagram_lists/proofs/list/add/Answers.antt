use Rattle.std.proofs.Common.{arith}
use Rattle.diagram_lists.proofs.Numbering.{few_nodes}
use Rattle.diagram_lists.proofs.list.add.Goals as goal

pub overflow_cast-len : goal.overflow_cast-len
overflow_cast-len c = omega (arith, c.len.ensures, few_nodes _ _ c.requires.numbered, c.requires.numbered.few)

pub overflow_add-len : goal.overflow_add-len
overflow_add-len c = omega (arith, c.len.ensures, few_nodes _ _ c.requires.numbered, c.requires.numbered.few)
