use Rattle.cell_compare.proofs.not_compared.paired_number.Goals as goal

pub model_of_with-requires : goal.model_of_with-requires
model_of_with-requires c = c.requires.index_is.rules_are

pub returns : goal.returns
returns c = c.model_of_with.ensures c.args.blif.now c.requires.names_are
