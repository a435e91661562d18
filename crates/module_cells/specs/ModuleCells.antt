-- Cells whose models are the modules of a text.
use Rattle.std.specs.Prelude.{ℕ, List}
use Rattle.verilog_meaning.specs.Cells.{DoesAsSaid}
use Rattle.verilog_meaning.specs.FlatBits.{IsExact}
use Rattle.verilog_source.specs.Modules.{Module}
use Rattle.vrt_model.specs.Comparison.{Comparison}
use Rattle.vrt_model.specs.Equal.{IsEqual}
use Rattle.vrt_model.specs.Lists.{At}
use Rattle.vrt_model.specs.Unsupported.{IsSupported, comparison_of}
use Rattle.vrt_model.specs.declared.blif.Blif.{Blif}
use Rattle.vrt_model.specs.declared.design.Design.{Design}
use Rattle.vrt_model.specs.declared.rules.Rules.{Rules}

-- the flat model of each module says exactly what the module means
abbrev pub AreExact : List Module → Type 0
AreExact modules = (k : ℕ) (top : Module) → At modules k top → IsExact modules k top

-- the module of this number is there, and what is compared with its model does as it says
pub record DoesAsModule (c : Comparison) (modules : List Module) (k : ℕ) : Type 0 where
  pub top : Module
  pub there : At modules k top
  pub does : DoesAsSaid c modules k top

-- each supported cell that is equal to its model does as the module says of which the model is made
abbrev pub EqualCellsDo : Design → Blif → Rules → List Module → Type 0
EqualCellsDo design blif rules modules =
    (cell m : ℕ) → IsSupported design blif rules cell m → IsEqual (comparison_of design blif rules cell m) → DoesAsModule (comparison_of design blif rules cell m) modules m
