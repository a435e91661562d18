-- The verdict on a cell, its line, what is known of the cell then and its runs, by what the steps of the comparison give.
use Rattle.std.proofs.Common.{true≢false, ◌≡◌, ◌⊎◌, ℕ, Bool, true, false, List, [], Some, ap, subst, sym, refl, ◌∙◌, inl, inr}
use Rattle.std.specs.Prelude.{◌↔◌, option_map}
use Rattle.std.proofs.lemmas.Bool.{cases_Bool}
use Rattle.std.proofs.lemmas.Option.{none-some}
use Rattle.cell_room.proofs.Causes.{by_variables, comparison_is}
use Rattle.cell_room.proofs.ReadyLaws.{well_formed}
use Rattle.cell_compare.specs.Cells.{HasFacts, HasLine, HasRuns}
use Rattle.cell_room.specs.Compared.{AreInputs, IsFlattened, comparison}
use Rattle.cell_compare.specs.Phases.{AreTold}
use Rattle.cell_compare.specs.Ports.{HasDrives}
use Rattle.cell_room.specs.Works.{IsPlanned, IsToldWhy}
use Rattle.cell_room.specs.Flat.{Flattened}
use Rattle.checked_cells.proofs.ToldFactLaws.{told_facts_are_true}
use Rattle.checked_cells.specs.Given.{AreTrueFacts}
use Rattle.run_laws.proofs.WellFormed.{equal_runs}
use Rattle.vrt_model.specs.Comparison.{Comparison, cell_at}
use Rattle.vrt_model.specs.Equal.{IsEqual}
use Rattle.vrt_model.specs.Facts.{AreFacts, IsTrueOf}
use Rattle.vrt_model.specs.Lists.{At}
use Rattle.vrt_model.specs.PairedPorts.{Paired, Model, model_of_paired, paired_model}
use Rattle.vrt_model.specs.Runs.{RunsMatch}
use Rattle.vrt_model.specs.Unsupported.{IsCycleWhy, IsUnsupportedBy, comparison_of, why_early, why_of}
use Rattle.vrt_model.specs.VerdictText.{verdict_line}
use Rattle.vrt_model.specs.CheckedVerdicts.{HasCheckedVerdict, IsCheckedVerdict}
use Rattle.vrt_model.specs.declared.blif.Blif.{Blif}
use Rattle.vrt_model.specs.declared.design.Design.{Design}
use Rattle.vrt_model.specs.declared.rules.Rules.{Rules}
use Rattle.vrt_model.specs.declared.verdict.Verdict.{Verdict}
use Rattle.vrt_model.specs.declared.verdict.Verdict.TheVariants.{Equal, Skipped as IsSkipped, Fault, Vacuous, Budget, Unsupported}
use Rattle.vrt_model.specs.declared.verdict.Why.{Why}
use Rattle.vrt_model.specs.declared.verdict.Why.TheVariants.{TooManyVars}
use Rattle.vrt_model.specs.declared.whole.CellFacts.{CellFacts}
use Rattle.vrt_model.specs.declared.whole.Drive.{Drive}
use Rattle.cell_room.proofs.SupportedLaws.{read_cell, supported}

-- where nothing is known of a cell, all that is known is true
pub true_of_none : (design : Design) (blif : Blif) (rules : Rules) (cell : ℕ) (f : CellFacts) → f.equal ≡ false → f.stateless ≡ false → f.drives ≡ [] → IsTrueOf design blif rules cell f
true_of_none design blif rules cell f equal stateless drives = record {
  supported = λ e. absurd (true≢false (sym e ∙ equal));
  compared = λ n paired. record {
    equal = λ e. absurd (true≢false (sym e ∙ equal));
    stateless = λ e. absurd (true≢false (sym e ∙ stateless));
    drives = λ j port drive on at. absurd (none-some drive (subst (λ (ds : List Drive). At ds j drive) drives at));
  };
}

module _ (design : Design) (blif : Blif) (rules : Rules) (cell m : ℕ) (f : Flattened) (inputs : AreInputs design blif rules cell) (is : IsFlattened design blif rules cell m f) where
  same : comparison design rules cell f ≡ comparison_of design blif rules cell m
  same = comparison_is design blif rules cell m f is

  -- what is found phase by phase is the verdict
  pub checked : (facts : List CellFacts) (budget : ℕ) (verdict : Verdict) → IsPlanned (comparison design rules cell f) → HasCheckedVerdict (comparison design rules cell f) blif facts budget verdict
      → IsCheckedVerdict design blif rules facts budget cell verdict
  checked facts budget Equal planned found = (m, supported design blif rules cell m f is planned, subst (λ (x : Comparison). HasCheckedVerdict x blif facts budget Equal) same found)
  checked facts budget (Fault fault) planned found = (m, supported design blif rules cell m f is planned, subst (λ (x : Comparison). HasCheckedVerdict x blif facts budget (Fault fault)) same found)
  checked facts budget (Vacuous phase) planned found = (m, supported design blif rules cell m f is planned, subst (λ (x : Comparison). HasCheckedVerdict x blif facts budget (Vacuous phase)) same found)
  checked facts budget (Budget nodes phase) planned found = (m, supported design blif rules cell m f is planned, subst (λ (x : Comparison). HasCheckedVerdict x blif facts budget (Budget nodes phase)) same found)
  checked facts budget IsSkipped planned found = absurd found
  checked facts budget (Unsupported why) planned found = absurd found

  -- too many variables, and the first cycle where they are few, are causes
  pub told_why : (why : Why) → IsToldWhy (comparison design rules cell f) why → IsUnsupportedBy design blif rules cell why
  told_why why (inl many) =
      inl (
      ap (why_early design blif rules cell) is.paired
      ∙ (by_variables design blif rules cell m f is ∙ (ap (why_of (λ count. TooManyVars count)) many.1 ∙ ap Some (sym many.2)))
      )
  told_why why (inr cycle) =
      inr (
        m,
        is.paired,
        by_variables design blif rules cell m f is ∙ ap (why_of (λ count. TooManyVars count)) cycle.0,
        subst (λ (x : Comparison). IsCycleWhy x why) same cycle.1,
      )

  -- its line is that of the definitions
  pub line_with : (verdict : Verdict) → HasLine design blif rules cell verdict (Some f)
  line_with verdict =
      let name = (cell_at design cell).name in
      ap (λ (x : Comparison). verdict_line name verdict rules (Some x.circuit) (Some x.model)) same
      ∙ sym (ap (λ (p : Paired). verdict_line name verdict rules
      (option_map (λ (x : Comparison). x.circuit) (option_map (comparison_of design blif rules cell) (model_of_paired p)))
      (option_map (λ (x : Comparison). x.model) (option_map (comparison_of design blif rules cell) (model_of_paired p)))) is.paired)

  -- the model of the cell is this one
  one_model : (n : ℕ) → paired_model design blif rules cell ≡ Model n → m ≡ n
  one_model n paired = let both : Model m ≡ Model n = sym is.paired ∙ paired in cc

  -- what holds of what is compared holds of each comparison of the cell
  of_cell : (holds : Comparison → Type 0) → holds (comparison design rules cell f) → (n : ℕ) → paired_model design blif rules cell ≡ Model n → holds (comparison_of design blif rules cell n)
  of_cell holds here n paired = subst (λ (x : ℕ). holds (comparison_of design blif rules cell x)) (one_model n paired) (subst holds same here)

  -- each run of an equal cell shows the bits of its model
  pub runs_with : (below : List CellFacts) (budget : ℕ) (verdict : Verdict) → HasCheckedVerdict (comparison design rules cell f) blif below budget verdict → HasRuns design blif rules cell verdict
  runs_with below budget verdict t equal =
      of_cell RunsMatch
      (equal_runs (comparison design rules cell f) (well_formed design blif rules cell m f inputs is) (subst (HasCheckedVerdict (comparison design rules cell f) blif below budget) equal t))

  -- what is noted of the cell is what its facts say, and it is true
  pub facts_with : (below : List CellFacts) (budget : ℕ) (verdict : Verdict) (bare : Bool) (drives : List Drive) (facts : CellFacts) → AreTrueFacts design blif rules below
      → (bare ≡ true) ↔ ((f.circuit.holds ≡ []) × (f.model.latches ≡ [])) → IsPlanned (comparison design rules cell f) → HasCheckedVerdict (comparison design rules cell f) blif below budget verdict
      → (verdict ≡ Equal → HasDrives (comparison design rules cell f) blif below drives) → AreTold drives bare verdict facts → HasFacts design blif rules below cell verdict facts
  facts_with below budget verdict bare drives facts true_below is_bare planned t has_drives tells = record {
    is_true = by_fact (cases_Bool facts.equal);
    are = are_facts;
    equal = tells.equal;
    no_state = no_state;
    no_drives = tells.no_drives;
  }
    where
      equal_told : facts.equal ≡ true → IsEqual (comparison design rules cell f)
      equal_told e = subst (HasCheckedVerdict (comparison design rules cell f) blif below budget) (tells.equal.0 e) t

      state_here : (facts.stateless ≡ true) ↔ ((verdict ≡ Equal) × (f.circuit.holds ≡ []) × (f.model.latches ≡ []))
      state_here = (
        λ e. (let both = tells.stateless.0 e in let none = is_bare.0 both.1 in (both.0, none.0, none.1)),
        λ all. tells.stateless.1 (all.0, is_bare.1 (all.1, all.2)),
      )

      by_state : (b : Bool) → facts.stateless ≡ b → facts.equal ≡ false → facts.stateless ≡ false
      by_state false e none = e
      by_state true e none = absurd (true≢false (sym (tells.equal.1 (tells.stateless.0 e).0) ∙ none))

      no_state : facts.equal ≡ false → facts.stateless ≡ false
      no_state = by_state facts.stateless refl

      facts_here : AreFacts (comparison design rules cell f) blif below verdict facts
      facts_here = record {
        equal = tells.equal;
        stateless = state_here;
        drives = λ e. subst (HasDrives (comparison design rules cell f) blif below) (sym (tells.drives_are (tells.equal.1 e))) (has_drives e);
        no_drives = tells.no_drives;
      }

      are_facts : (n : ℕ) → paired_model design blif rules cell ≡ Model n → AreFacts (comparison_of design blif rules cell n) blif below verdict facts
      are_facts = of_cell (λ (x : Comparison). AreFacts x blif below verdict facts) facts_here

      by_fact : (facts.equal ≡ true) ⊎ (facts.equal ≡ false) → IsTrueOf design blif rules cell facts
      by_fact (inl e) =
          let here = supported design blif rules cell m f is planned in
          told_facts_are_true design blif rules cell m below verdict facts (read_cell design blif rules cell inputs) here true_below
          (λ verdict_is. of_cell IsEqual (equal_told e) m here.paired) (are_facts m here.paired)
      by_fact (inr none) = true_of_none design blif rules cell facts none (no_state none) (tells.no_drives none)
