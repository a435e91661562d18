-- The tables of a netlist, its models and its rules.
use Rattle.blif_flat.specs.Counts.{AreModelTables}
use Rattle.net_tables.specs.Tables.{AreNetTables}
use Rattle.prepared_tables.specs.ModelNames.{AreModelNames}
use Rattle.prepared_tables.specs.declared.prepared.Prepared.{Prepared}
use Rattle.rule_index.specs.Tables.{AreIndexed}
use Rattle.vrt_model.specs.declared.blif.Blif.{Blif}
use Rattle.vrt_model.specs.declared.design.Design.{Design}
use Rattle.vrt_model.specs.declared.rules.Rules.{Rules}

-- what the netlist and the rules say by names, the nets of the cells, what is looked up of the models to unroll one, and the
-- models by their names
pub record ArePrepared (design : Design) (blif : Blif) (rules : Rules) (p : Prepared) : Type 0 where
  pub index_is : AreIndexed design rules p.index
  pub nets_are : AreNetTables design rules p.nets
  pub models_are : AreModelTables blif p.models
  pub names_are : AreModelNames blif.models p.names
