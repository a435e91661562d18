-- When arrival orders are asked of a cell.
use Rattle.std.specs.Prelude.{ℕ}
use Rattle.vrt_model.specs.Equal.{IsEqual}
use Rattle.vrt_model.specs.Unsupported.{IsSupported, comparison_of}
use Rattle.vrt_model.specs.declared.blif.Blif.{Blif}
use Rattle.vrt_model.specs.declared.design.Design.{Design}
use Rattle.vrt_model.specs.declared.rules.Rules.{Rules}

-- nothing stands in the way of the cell, and it is equal to this model
pub record IsEqualIn (design : Design) (blif : Blif) (rules : Rules) (cell m : ℕ) : Type 0 where
  pub supported : IsSupported design blif rules cell m
  pub equal : IsEqual (comparison_of design blif rules cell m)
