use Rattle.prepared_tables.proofs.prepared.prepare.Goals as goal

pub returns : goal.returns
returns c = record { index_is = c.in_ok-index.ensures; nets_are = c.in_ok-nets.ensures; models_are = c.in_ok-models.ensures; names_are = c.in_ok-names.ensures }
