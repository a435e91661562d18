use Rattle.cell_compare.proofs.not_compared.planned_cell.Goals as goal

pub is_skipped_with-requires : goal.is_skipped_with-requires
is_skipped_with-requires c = c.requires.prepared.index_is.rules_are
