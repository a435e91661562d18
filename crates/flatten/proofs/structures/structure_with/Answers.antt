use Rattle.flatten.proofs.structures.structure_with.Goals as goal

pub returns-then-is_leaf : goal.returns-then-is_leaf
returns-then-is_leaf c = c.structure_by.ensures c.args.rules.now c.requires.indexed
