-- What equal cells do where the models are written as modules.
use Rattle.std.proofs.Common.{ℕ, List}
use Rattle.formed_cells.specs.Formed.{AreRead}
use Rattle.module_cells.proofs.ModuleLaws.{equal_cells_do}
use Rattle.verity_run.specs.Models.{AreModelsIn, DoAsSaidIn}
use Rattle.verity_run.specs.declared.models.Language.{Language}
use Rattle.verity_run.specs.declared.models.Language.TheVariants as language
use Rattle.vrt_model.specs.declared.blif.Blif.{Blif}
use Rattle.vrt_model.specs.declared.design.Design.{Design}
use Rattle.vrt_model.specs.declared.rules.Rules.{Rules}

pub do_as_said : (l : Language) (bytes : List ℕ) (design : Design) (blif : Blif) (rules : Rules) → AreModelsIn l bytes blif → AreRead blif rules → DoAsSaidIn l bytes design blif rules
do_as_said language.Blif bytes design blif rules models read = tt
do_as_said language.Verilog bytes design blif rules models read = λ r. equal_cells_do design blif rules r.modules r.models read (λ k top at. models.means r read.models k top at)
