-- A cell within reach is equal or has a fault.
use Rattle.std.proofs.Common.{◌≡◌, ◌⊎◌, ℕ, ◌<◌, ◌≤◌, List, length, arith, ap, subst, sym, ◌∙◌, inl, inr}
use Rattle.std.proofs.lemmas.Option.{none-some}
use Rattle.cell_compare.specs.Cells.{IsComplete, IsWithinReach}
use Rattle.vrt_model.specs.Budget.{enough_nodes}
use Rattle.vrt_model.specs.Comparison.{Comparison}
use Rattle.vrt_model.specs.Equal.{IsVacuous}
use Rattle.vrt_model.specs.Held.{sources_of}
use Rattle.vrt_model.specs.PairedPorts.{Model, Skipped, paired_model}
use Rattle.vrt_model.specs.Unsupported.{AcyclicBefore, IsCycleWhy, IsUnsupportedBy, comparison_of, why_early}
use Rattle.vrt_model.specs.CheckedVerdicts.{IsCheckedVerdict}
use Rattle.vrt_model.specs.Verdicts.{MayPassBudget}
use Rattle.vrt_model.specs.declared.blif.Blif.{Blif}
use Rattle.vrt_model.specs.declared.design.Design.{Design}
use Rattle.vrt_model.specs.declared.rules.Rules.{Rules}
use Rattle.vrt_model.specs.declared.verdict.Verdict.{Verdict}
use Rattle.vrt_model.specs.declared.verdict.Verdict.TheVariants.{Equal, Skipped as IsSkipped, Fault, Vacuous, Budget, Unsupported}
use Rattle.vrt_model.specs.declared.verdict.Why.{Why}
use Rattle.vrt_model.specs.declared.verdict.Why.TheVariants.{Ports, Cycle, ModelCycle, Unmatched, DeviceModel, SupplyTie, OutputIsInput, TooManyVars, TooLarge, NoModel, NoClock}
use Rattle.vrt_model.specs.declared.whole.CellFacts.{CellFacts}

-- without cycles none is the first
no_cycle : (k : Comparison) (why : Why) → AcyclicBefore k (length k.rules.phases) → IsCycleWhy k why → ⊥
no_cycle k (Cycle phase nets) acyclic is = (acyclic phase is.0).0 _ is.2.0
no_cycle k (ModelCycle phase signals) acyclic is = (acyclic phase is.0).1 signals is.3.0
no_cycle k (Ports name) acyclic is = is
no_cycle k (Unmatched name) acyclic is = is
no_cycle k (DeviceModel model) acyclic is = is
no_cycle k (SupplyTie path) acyclic is = is
no_cycle k (OutputIsInput signal) acyclic is = is
no_cycle k (TooManyVars count) acyclic is = is
no_cycle k (TooLarge count) acyclic is = is
no_cycle k NoModel acyclic is = is
no_cycle k (NoClock latch) acyclic is = is

module _ (design : Design) (blif : Blif) (rules : Rules) (budget cell m : ℕ) (reach : IsWithinReach design blif rules budget cell m) where
  -- the model of the cell is this one
  one_model : (n : ℕ) → paired_model design blif rules cell ≡ Model n → n ≡ m
  one_model n paired = let both : Model n ≡ Model m = sym paired ∙ reach.supported.paired in cc

  not_skipped : paired_model design blif rules cell ≡ Skipped → ⊥
  not_skipped skipped = let both : Skipped ≡ Model m = sym skipped ∙ reach.supported.paired in cc

  not_hindered : (why : Why) → IsUnsupportedBy design blif rules cell why → ⊥
  not_hindered why (inl e) = none-some why (sym reach.supported.early ∙ (sym (ap (why_early design blif rules cell) reach.supported.paired) ∙ e))
  not_hindered why (inr h) =
      no_cycle (comparison_of design blif rules cell m) why reach.supported.acyclic
      (subst (λ (n : ℕ). IsCycleWhy (comparison_of design blif rules cell n) why) (one_model h.0 h.1) h.3)

  not_passed : (phase : ℕ) → phase < length rules.phases → MayPassBudget (comparison_of design blif rules cell m) blif budget phase → ⊥
  not_passed phase lt may = by_reach (reach.enough phase lt)
    where
      by_reach : (length (sources_of (comparison_of design blif rules cell m) phase) ≤ 4) ⊎ (enough_nodes (comparison_of design blif rules cell m) blif phase ≤ budget) → ⊥
      by_reach (inl few) = let many = may.0 in omega (arith, few, many)
      by_reach (inr enough) = let passed = may.1 in omega (arith, enough, passed)

pub complete : (design : Design) (blif : Blif) (rules : Rules) (facts : List CellFacts) (budget cell : ℕ) (verdict : Verdict) → IsCheckedVerdict design blif rules facts budget cell verdict → IsComplete design blif rules budget cell verdict
complete design blif rules facts budget cell Equal v m reach = tt
complete design blif rules facts budget cell (Fault fault) v m reach = tt
complete design blif rules facts budget cell IsSkipped v m reach = not_skipped design blif rules budget cell m reach v
complete design blif rules facts budget cell (Unsupported why) v m reach = not_hindered design blif rules budget cell m reach why v
complete design blif rules facts budget cell (Vacuous phase) v m reach =
    reach.met phase v.2.0 (subst (λ (n : ℕ). IsVacuous (comparison_of design blif rules cell n) phase) (one_model design blif rules budget cell m reach v.0 v.1.paired) v.2.1)
complete design blif rules facts budget cell (Budget nodes phase) v m reach =
    not_passed design blif rules budget cell m reach phase v.2.0
    (subst (λ (n : ℕ). MayPassBudget (comparison_of design blif rules cell n) blif budget phase) (one_model design blif rules budget cell m reach v.0 v.1.paired) v.2.2)
