-- What is answered over the checked circuit of a cell is the answer for the cell.
use Rattle.cell_compare.proofs.FoundLaws.{passed_over, whole_found}
use Rattle.cell_compare.specs.Phases.{IsChecked, MayUseUp}
use Rattle.cell_compare.specs.Workspace.{AreLast, IsAnswer, IsPhaseAnswer, IsSiteOf, IsWorkspace, View, bits_in, bits_of_last, told_of}
use Rattle.cell_compare.specs.declared.answers.PhaseVerdict.{PhaseVerdict}
use Rattle.cell_compare.specs.declared.answers.PhaseVerdict.TheVariants.{Clear, Fault, Vacuous, Budget}
use Rattle.cell_room.proofs.Causes.{comparison_is}
use Rattle.cell_room.proofs.CheckedLaws.{checkable, over_is}
use Rattle.cell_room.proofs.ReadyLaws.{ready}
use Rattle.cell_room.proofs.SupportedLaws.{supported}
use Rattle.cell_room.specs.Compared.{AreInputs, comparison}
use Rattle.cell_room.specs.Made.{IsMade, circuit_in, searched}
use Rattle.cell_room.specs.declared.made.Made.{Made}
use Rattle.checked_cells.specs.Given.{AreTrueFacts, IsCheckedOf}
use Rattle.drive_levels.specs.PhaseLevels.{ArePhaseLevels}
use Rattle.drive_levels.specs.declared.table.NetLevels.{NetLevels}
use Rattle.phase_terms.specs.Ready.{IsReady}
use Rattle.phase_told.specs.declared.site.Site.{Site}
use Rattle.std.proofs.lemmas.List.{get_or_past}
use Rattle.std.proofs.Common.{Bool, List, None, Option, Some, ap, arith, false, length, refl, subst, sym, ℕ, ◌+◌, ◌<◌, ◌∙◌, ◌≡◌, ◌≤◌}
use Rattle.std.specs.Prelude.{eqb, option_map, slice_index}
use Rattle.std.proofs.lemmas.List.FromFn.{length-map-range_with_len}
use Rattle.bdd_core.specs.Store.{Diagrams, IsSpan}
use Rattle.bdd_ops.specs.Ops.{bits_in as bits_in_words, bits_of}
use Rattle.cell_compare.specs.Looked.{HasWords, IsFound, IsLast}
use Rattle.phase_told.specs.Sites.{bits_at}
use Rattle.vrt_model.specs.Held.{sources_of}
use Rattle.cell_compare.specs.declared.looked.Last.{Last}
use Rattle.phase_terms.specs.declared.found.PhaseFault.{PhaseFault}
use Rattle.phase_told.proofs.LeastLaws.{bit_read}
use Rattle.phase_told.specs.Valuations.{valuation_in}
use Rattle.substitution_laws.proofs.SubstitutionLaws.{substitution_holds}
use Rattle.substitution_laws.proofs.VerdictLaws.{phase_equal}
use Rattle.substitution_laws.specs.Agreement.{IsCheckedByFacts}
use Rattle.vrt_model.specs.CheckedVerdicts.{HasCheckedVerdict}
use Rattle.vrt_model.specs.Comparison.{Comparison}
use Rattle.vrt_model.specs.Cut.{Cut}
use Rattle.vrt_model.specs.Equal.{IsPhaseEqual, IsVacuous}
use Rattle.vrt_model.specs.Checked.{with_circuit}
use Rattle.vrt_model.specs.Faults.{place_name}
use Rattle.vrt_model.specs.Held.{variable_names}
use Rattle.vrt_model.specs.PairedPorts.{Model, paired_model}
use Rattle.vrt_model.specs.Unsupported.{comparison_of}
use Rattle.vrt_model.specs.Places.{Finding, IsFirstInPhase}
use Rattle.vrt_model.specs.Verdicts.{Describes}
use Rattle.vrt_model.specs.declared.blif.Blif.{Blif}
use Rattle.vrt_model.specs.declared.design.Design.{Design}
use Rattle.vrt_model.specs.declared.rules.Rules.{Rules}
use Rattle.vrt_model.specs.declared.verdict.FaultAt.{FaultAt}
use Rattle.vrt_model.specs.declared.verdict.Verdict.{Verdict}
use Rattle.vrt_model.specs.declared.whole.CellFacts.{CellFacts}
use Rattle.cell_room.specs.Flat.{Flattened}

-- the fault of a site, with the names of a comparison
abbrev named_fault : Comparison → Site → Finding → FaultAt
named_fault k site f = record {
  kind = site.kind;
  phase = f.phase;
  place = place_name k f.kind f.at;
  circuit = site.circuit;
  wanted = site.wanted;
  names = variable_names k f.phase;
  valuation = record { bits = f.bits };
}

described : (k : Comparison) (site : Site) (f : Finding) → IsSiteOf k f site → Describes k (named_fault k site f) f
described k site f is = record { kind = is.kind; phase = refl; place = refl; values = is.values; names = refl; bits = refl }

module _ (design : Design) (blif : Blif) (rules : Rules) (cell : ℕ) (made : Made) (facts : List CellFacts) (inputs : AreInputs design blif rules cell) (is : IsMade design blif rules cell made)
    (true_facts : AreTrueFacts design blif rules facts) (of : IsCheckedOf (comparison design rules cell made.flattened) blif facts (circuit_in made)) where
  -- the flat comparison, and the one with the checked circuit
  abbrev flat : Comparison
  flat = comparison design rules cell made.flattened

  abbrev whole : Comparison
  whole = with_circuit (comparison design rules cell made.flattened) (circuit_in made)

  abbrev cut : Cut
  cut = of.0

  flat_ready : IsReady (comparison design rules cell made.flattened)
  flat_ready = ready design blif rules cell is.flattened.0 made.flattened inputs is.flattened.1

  pub by_true_facts : IsCheckedByFacts (comparison design rules cell made.flattened) of.0 blif facts (circuit_in made)
  by_true_facts = (checkable design blif rules cell is.flattened.0 made.flattened inputs is.flattened.1 facts true_facts).by_facts (circuit_in made) is.planned of

  -- it is the one that is looked through
  pub whole_is : with_circuit (comparison design rules cell made.flattened) (circuit_in made) ≡ searched design rules cell made
  whole_is = over_is (comparison design rules cell made.flattened) of.0 blif facts (circuit_in made) by_true_facts

  -- what is found phase by phase is the verdict
  pub verdict_of : (budget : ℕ) (verdict : Verdict) → budget ≤ 64000000 → IsChecked (searched design rules cell made) budget verdict
      → HasCheckedVerdict (comparison design rules cell made.flattened) blif facts budget verdict
  verdict_of budget verdict small found =
      whole_found flat cut blif facts (circuit_in made) budget verdict by_true_facts flat_ready small is.few (subst (λ (x : Comparison). IsChecked x budget verdict) (sym whole_is) found)

  -- what is answered of a phase is the answer for the cell
  pub answer_of : (budget phase : ℕ) (levels : NetLevels) (count : ℕ) (bits : List Bool) (answer : PhaseVerdict) → budget ≤ 64000000 → phase < length rules.phases
      → IsAnswer (searched design rules cell made) budget phase levels count bits answer
      → IsPhaseAnswer (comparison design rules cell made.flattened) blif facts (circuit_in made) budget phase levels count bits answer
  answer_of budget phase levels count bits Clear small lt (equal, told) = (
    phase_equal flat whole (substitution_holds flat cut blif facts (circuit_in made) by_true_facts).0 phase lt (subst (λ (x : Comparison). IsPhaseEqual x phase) (sym whole_is) equal),
    subst (λ (x : Comparison). ArePhaseLevels x phase levels) (sym whole_is) told,
  )
  answer_of budget phase levels count bits Vacuous small lt none =
      let agrees = (substitution_holds flat cut blif facts (circuit_in made) by_true_facts).0 in
      let none_there : IsVacuous whole phase = subst (λ (x : Comparison). IsVacuous x phase) (sym whole_is) none in
      λ own meets. none_there own ((agrees.meets phase own).0 meets)
  answer_of budget phase levels count bits (Fault site) small lt (f, phase_is, bits_are, first, told) =
      let first_there : IsFirstInPhase whole f = subst (λ (x : Comparison). IsFirstInPhase x f) (sym whole_is) first in
      let told_there : IsSiteOf whole f site = subst (λ (x : Comparison). IsSiteOf x f site) (sym whole_is) told in
      let there = (substitution_holds flat cut blif facts (circuit_in made) by_true_facts).1 (named_fault whole site f) f (described whole site f told_there) first_there in (
        cut,
        there.0,
        f,
        of.1,
        of.2,
        record {
          finding = there.2;
          phase_is = sym there.1.phase ∙ phase_is;
          kind = sym there.1.kind;
          bits_are = sym there.1.bits ∙ bits_are;
          values = there.1.values;
          first = first_there;
          checked_phase = phase_is;
          checked_bits = bits_are;
          site_is = told_there;
          place = there.3;
        },
      )
  answer_of budget phase levels count bits (Budget nodes) small lt (given, full, may) = (
    given,
    full,
    passed_over flat cut blif facts (circuit_in made) budget phase by_true_facts flat_ready small is.few (subst (λ (x : Comparison). MayUseUp x budget phase) (sym whole_is) may),
  )

-- it is the comparison of the definitions
same_comparison : (design : Design) (blif : Blif) (rules : Rules) (cell m : ℕ) (made : Made) → IsMade design blif rules cell made → paired_model design blif rules cell ≡ Model m
    → comparison design rules cell made.flattened ≡ comparison_of design blif rules cell m
same_comparison design blif rules cell m made is paired =
    let one : Model is.flattened.0 ≡ Model m = sym is.flattened.1.paired ∙ paired in
    let same_model : is.flattened.0 ≡ m = cc in
    comparison_is design blif rules cell is.flattened.0 made.flattened is.flattened.1 ∙ ap (comparison_of design blif rules cell) same_model

-- so the answer is that of the definitions
pub answer_for : (design : Design) (blif : Blif) (rules : Rules) (cell m : ℕ) (made : Made) (facts : List CellFacts) → AreInputs design blif rules cell → IsMade design blif rules cell made
    → AreTrueFacts design blif rules facts → paired_model design blif rules cell ≡ Model m → IsCheckedOf (comparison_of design blif rules cell m) blif facts (circuit_in made)
    → (budget phase : ℕ) (levels : NetLevels) (count : ℕ) (bits : List Bool) (answer : PhaseVerdict) → budget ≤ 64000000 → phase < length rules.phases
    → IsAnswer (searched design rules cell made) budget phase levels count bits answer
    → IsPhaseAnswer (comparison_of design blif rules cell m) blif facts (circuit_in made) budget phase levels count bits answer
answer_for design blif rules cell m made facts inputs is true_facts paired of budget phase levels count bits answer small lt found =
    let same = same_comparison design blif rules cell m made is paired in
    subst (λ (k : Comparison). IsPhaseAnswer k blif facts (circuit_in made) budget phase levels count bits answer) same
    (answer_of design blif rules cell made facts inputs is true_facts (subst (λ (k : Comparison). IsCheckedOf k blif facts (circuit_in made)) (sym same) of) budget phase levels count bits answer small lt found)

-- the workspace of a cell for which all is made
pub workspace_of : (design : Design) (blif : Blif) (rules : Rules) (facts : List CellFacts) (budget cell : ℕ) (made : Made) (levels : NetLevels) → IsMade design blif rules cell made
    → IsCheckedOf (comparison design rules cell made.flattened) blif facts (circuit_in made)
    → IsWorkspace design blif rules facts budget cell (record { design = design; blif = blif; rules = rules; cell = cell; budget = budget; made = made; count = 2; levels = levels; last = None })
workspace_of design blif rules facts budget cell made levels is of = record {
  design_is = refl;
  blif_is = refl;
  rules_are = refl;
  cell_is = refl;
  budget_is = refl;
  supported = (is.flattened.0, supported design blif rules cell is.flattened.0 made.flattened is.flattened.1 is.planned);
  checked = λ m paired. subst (λ (k : Comparison). IsCheckedOf k blif facts (circuit_in made)) (same_comparison design blif rules cell m made is paired) of;
  none = refl;
}

-- what is said of what a workspace holds is said of its cell
pub for_cell : (said : Design → Blif → Rules → ℕ → ℕ → Flattened → Type 0) (w : View) (design : Design) (blif : Blif) (rules : Rules) (facts : List CellFacts) (budget cell : ℕ) (f : Flattened)
    → IsWorkspace design blif rules facts budget cell w → w.made.flattened ≡ f → said w.design w.blif w.rules w.cell w.budget w.made.flattened → said design blif rules cell budget f
for_cell said w design blif rules facts budget cell f is same here =
    subst (λ (x : Design). said x blif rules cell budget f) is.design_is
    (subst (λ (x : Blif). said w.design x rules cell budget f) is.blif_is
    (subst (λ (x : Rules). said w.design w.blif x cell budget f) is.rules_are
    (subst (λ (x : ℕ). said w.design w.blif w.rules x budget f) is.cell_is
    (subst (λ (x : ℕ). said w.design w.blif w.rules w.cell x f) is.budget_is (subst (said w.design w.blif w.rules w.cell w.budget) same here)))))

-- ---- what is read of the last answer

-- the bits of a fault stand in its words
pub bits_are : (d : Diagrams) (last : Option Last) (l : Last) (fault : PhaseFault) → last ≡ Some l → l.fault ≡ Some fault
    → bits_of_last (option_map (told_of d) last) ≡ valuation_in d fault.least l.variables
bits_are d last l fault is of = ap (λ (o : Option Last). bits_of_last (option_map (told_of d) o)) is ∙ ap (bits_in d l.variables) of

-- and so each is read
pub bit_is_read : (d : Diagrams) (last : Option Last) (l : Last) (fault : PhaseFault) (var : ℕ) → last ≡ Some l → l.fault ≡ Some fault → var < l.variables
    → bits_of (bits_of_last (option_map (told_of d) last)) var ≡ eqb (slice_index d.words (fault.least.start + var)) 1
bit_is_read d last l fault var is of lt = ap (λ (bits : List Bool). bits_of bits var) (bits_are d last l fault is of) ∙ bit_read d fault.least l.variables var lt

-- behind them there is none
pub no_bit : (d : Diagrams) (last : Option Last) (l : Last) (fault : PhaseFault) (var : ℕ) → last ≡ Some l → l.fault ≡ Some fault → l.variables ≤ var
    → bits_of (bits_of_last (option_map (told_of d) last)) var ≡ false
no_bit d last l fault var is of past =
    let len : length (valuation_in d fault.least l.variables) ≡ l.variables = length-map-range_with_len (bits_in_words d.words fault.least.start) 0 l.variables in
    ap (λ (bits : List Bool). bits_of bits var) (bits_are d last l fault is of) ∙ get_or_past (valuation_in d fault.least l.variables) var false (omega (arith, past, len))

-- the words of a fault are there
pub words_there : (k : Comparison) (budget : ℕ) (levels : NetLevels) (d : Diagrams) (last : Option Last) (l : Last) (fault : PhaseFault) → last ≡ Some l → l.fault ≡ Some fault → AreLast k budget levels d last
    → IsSpan d fault.least × (l.variables ≤ fault.least.len)
words_there k budget levels d last l fault is of are =
    let here : IsLast k budget l.phase levels d l = subst (AreLast k budget levels d) is are in
    subst (HasWords d l.variables) of here.words

-- ---- what is found in a phase is its answer

found_by : (k : Comparison) (budget phase : ℕ) (levels : NetLevels) (d : Diagrams) (variables : ℕ) (fault : Option PhaseFault) (answer : PhaseVerdict) → variables ≡ length (sources_of k phase)
    → IsFound k budget phase levels d fault answer → IsAnswer k budget phase levels (length d.nodes) (bits_in d variables fault) answer
found_by k budget phase levels d variables fault Clear count found = found
found_by k budget phase levels d variables fault Vacuous count found = found
found_by k budget phase levels d variables fault (Budget nodes) count found = found
found_by k budget phase levels d variables None (Fault site) count found = absurd found
found_by k budget phase levels d variables (Some fault) (Fault site) count found = (
  record { phase = phase; kind = fault.kind; at = fault.place; bits = bits_at k phase fault d },
  refl,
  ap (valuation_in d fault.least) (sym count),
  found.first,
  record { kind = found.kind; at = found.at; values = found.values },
)

pub found_answer : (k : Comparison) (budget phase : ℕ) (levels : NetLevels) (d : Diagrams) (l : Last) → IsLast k budget phase levels d l
    → IsAnswer k budget phase levels (length d.nodes) (bits_in d l.variables l.fault) l.answer
found_answer k budget phase levels d l last = found_by k budget phase levels d l.variables l.fault l.answer last.variables last.found

-- the phase is the one that was looked through last
pub last_there : (k : Comparison) (budget phase : ℕ) (levels : NetLevels) (d : Diagrams) (l : Last) → IsLast k budget phase levels d l → IsLast k budget l.phase levels d l
last_there k budget phase levels d l last = subst (λ (p : ℕ). IsLast k budget p levels d l) (sym last.is) last
