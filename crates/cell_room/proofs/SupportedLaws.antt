-- What is flattened and planned of a cell is supported.
use Rattle.std.proofs.Common.{◌≡◌, ℕ, length, ap, subst, ◌∙◌}
use Rattle.cell_room.proofs.Causes.{by_variables, comparison_is}
use Rattle.cell_room.specs.Compared.{AreInputs, IsFlattened, comparison}
use Rattle.cell_room.specs.Works.{IsPlanned}
use Rattle.cell_room.specs.Flat.{Flattened}
use Rattle.checked_cells.specs.Given.{IsReadCell}
use Rattle.vrt_model.specs.Comparison.{Comparison}
use Rattle.vrt_model.specs.Unsupported.{AcyclicBefore, IsSupported, comparison_of, why_of}
use Rattle.vrt_model.specs.declared.blif.Blif.{Blif}
use Rattle.vrt_model.specs.declared.design.Design.{Design}
use Rattle.vrt_model.specs.declared.rules.Rules.{Rules}
use Rattle.vrt_model.specs.declared.verdict.Why.TheVariants.{TooManyVars}

-- what is given of a cell, as a reader gives it
pub read_cell : (design : Design) (blif : Blif) (rules : Rules) (cell : ℕ) → AreInputs design blif rules cell → IsReadCell design blif rules cell
read_cell design blif rules cell inputs = record {
  netlist = inputs.netlist;
  read = record { names = inputs.names; models = inputs.models; valid = inputs.valid };
  ordered = inputs.ordered;
  there = inputs.there;
}

module _ (design : Design) (blif : Blif) (rules : Rules) (cell m : ℕ) (f : Flattened) (is : IsFlattened design blif rules cell m f) where
  -- what is compared, by the steps and by the definitions
  pub same_comparison : comparison design rules cell f ≡ comparison_of design blif rules cell m
  same_comparison = comparison_is design blif rules cell m f is

  -- what is planned is supported
  pub supported : IsPlanned (comparison design rules cell f) → IsSupported design blif rules cell m
  supported planned = record {
    paired = is.paired;
    early = by_variables design blif rules cell m f is ∙ ap (why_of (λ count. TooManyVars count)) planned.few;
    acyclic = subst (λ (x : Comparison). AcyclicBefore x (length rules.phases)) same_comparison planned.acyclic;
  }
