-- Settings, solutions and faults of a cell without state do not depend on its model, but for the bits of its outputs.
use Rattle.std.proofs.Common.{◌≡◌, ℕ, ◌<◌, ◌++◌, Bool, List, [], Some, None, length, arith, ap, ap₂, refl, sym, subst, ◌∙◌}
use Rattle.std.specs.Prelude.{cond, filter_map, flat_map, map}
use Rattle.std.specs.List.{enumerate_from}
use Rattle.std.proofs.lemmas.Option.{none-some}
use Rattle.same_phases.proofs.SettingLaws.{no_groups}
use Rattle.vrt_model.specs.Assignment.{Assignment}
use Rattle.vrt_model.specs.Comparison.{Comparison, is_observed, tied_inputs}
use Rattle.vrt_model.specs.Constraints.{Meets, meets}
use Rattle.vrt_model.specs.Elements.{element_names, names_by_kind, signal_name}
use Rattle.vrt_model.specs.Equal.{Agree, IsEqual}
use Rattle.vrt_model.specs.Faults.{Assigns, Solves, Stands, surroundings_of}
use Rattle.vrt_model.specs.Held.{bit_of, held_bit, is_element, is_input_of, setting_of, sources_of}
use Rattle.vrt_model.specs.Lists.{At}
use Rattle.vrt_model.specs.Reading.{Partial}
use Rattle.vrt_model.specs.State.{Setting}
use Rattle.vrt_model.specs.Variables.{is_free, is_input, places, variables_of}
use Rattle.vrt_model.specs.declared.circuit.Circuit.{Circuit}
use Rattle.vrt_model.specs.declared.circuit.FlatNet.{FlatNet}
use Rattle.vrt_model.specs.declared.circuit.Hold.{Hold}
use Rattle.vrt_model.specs.declared.flat_model.FlatLatch.{FlatLatch}
use Rattle.vrt_model.specs.declared.flat_model.FlatModel.{FlatModel}
use Rattle.vrt_model.specs.declared.groups.Group.{Group as HoldGroup}
use Rattle.vrt_model.specs.declared.groups.Source.{Source}
use Rattle.vrt_model.specs.declared.groups.Source.TheVariants.{Input, Element, Group}
use Rattle.vrt_model.specs.declared.ids.Net.{Net}
use Rattle.vrt_model.specs.declared.verdict.FaultKind.{FaultKind}
use Rattle.vrt_model.specs.declared.verdict.FaultKind.TheVariants.{Fight, FightKept, Float, Unsettled, Constraint, Differs, Next, Apart, Enter}
use Rattle.whole_ranks.proofs.CoverLaws.{signals_follow_covers}
use Rattle.whole_ranks.proofs.LogicLaws.{logic_has_assignments}
use Rattle.whole_ranks.specs.Logic.{IsLogicModel}
use Rattle.written_cells.specs.Exchanged.{GivesOutputs, HasNoState, exchanged}

-- ---- settings

-- variables depend on the model by its elements alone
variables_same : (c : Circuit) (one two : FlatModel) (groups : List HoldGroup) (phase : ℕ) → element_names one ≡ element_names two → variables_of c one groups phase ≡ variables_of c two groups phase
unfolding variables_of
variables_same c one two groups phase e =
    ap (λ (names : List (List ℕ)). filter_map (λ (p : ℕ × FlatNet). cond (is_input p.1.kind) (let net : Net = record { 0 = p.0 } in Some (Input net)) None) (enumerate_from 0 c.nets)
    ++ map (λ (e : ℕ). Element e) (places 0 names)
    ++ filter_map (λ (p : ℕ × HoldGroup). cond (is_free c phase p.1) (Some (Group p.0)) None) (enumerate_from 0 groups)) e

-- a model without latches has no elements
pub no_elements : (flat : FlatModel) → flat.latches ≡ [] → element_names flat ≡ []
no_elements flat none = ap (λ (ls : List FlatLatch). flat_map (λ (l : FlatLatch). names_by_kind l.kind (signal_name flat l.output)) ls) none

abbrev setting_by : Comparison → ℕ → List Bool → List Source → List HoldGroup → Setting
setting_by k phase bits sources groups = record {
  inputs = λ n. bit_of (is_input_of n) sources bits;
  held = λ hold. held_bit k.circuit groups phase sources bits hold;
  elements = λ e. bit_of (is_element e) sources bits;
}

setting_is : (k : Comparison) (phase : ℕ) (bits : List Bool) → setting_of k phase bits ≡ setting_by k phase bits (sources_of k phase) k.groups
unfolding setting_of
setting_is k phase bits = refl

module _ (k : Comparison) (flat : FlatModel) (number : ℕ) (none : HasNoState k) (plain : flat.latches ≡ []) where
  abbrev other : Comparison
  other = exchanged k flat number

  pub groups_same : other.groups ≡ k.groups
  groups_same = no_groups k.circuit flat none.holds ∙ sym (none.groups ∙ no_groups k.circuit k.model none.holds)

  pub sources_same : (phase : ℕ) → sources_of other phase ≡ sources_of k phase
  sources_same phase =
      ap (λ (gs : List HoldGroup). variables_of k.circuit flat gs phase) groups_same
      ∙ variables_same k.circuit flat k.model k.groups phase (no_elements flat plain ∙ sym none.elements)

  pub setting_same : (phase : ℕ) (bits : List Bool) → setting_of other phase bits ≡ setting_of k phase bits
  setting_same phase bits =
      setting_is other phase bits
      ∙ ap₂ (λ (sources : List Source) (groups : List HoldGroup). setting_by k phase bits sources groups) (sources_same phase) groups_same
      ∙ sym (setting_is k phase bits)

  pub meets_own : (phase : ℕ) (bits : List Bool) → Meets other phase bits → Meets k phase bits
  meets_own phase bits m = record {
    valuation = m.valuation ∙ ap (λ (sources : List Source). length sources) (sources_same phase);
    constraints = ap (meets k phase) (sym (setting_same phase bits)) ∙ m.constraints;
  }

  meets_other : (phase : ℕ) (bits : List Bool) → Meets k phase bits → Meets other phase bits
  meets_other phase bits m = record {
    valuation = m.valuation ∙ ap (λ (sources : List Source). length sources) (sym (sources_same phase));
    constraints = ap (meets k phase) (setting_same phase bits) ∙ m.constraints;
  }

  -- a solution with the other model is one
  pub solves_own : (phase : ℕ) (bits : List Bool) (a : Partial) → Solves other phase (setting_of other phase bits) a → Solves k phase (setting_of k phase bits) a
  unfolding is_observed
  solves_own phase bits a solves = subst (λ (s : Setting). Solves k phase s a) (setting_same phase bits) solves

  -- ---- agreement

  module _ (logic : IsLogicModel flat k.pairing.clocked (tied_inputs k)) (gives : GivesOutputs other)
      (phase : ℕ) (within : phase < length k.rules.phases) (bits : List Bool) (met : Meets other phase bits) (old : Agree k phase (setting_of other phase bits)) where
    abbrev here : Setting
    here = setting_of other phase bits

    not_held : (place : ℕ) (h : Hold) → At k.circuit.holds place h → ⊥
    not_held place h there = none-some h (subst (λ (hs : List Hold). At hs place h) none.holds there)

    no_fault : (a : Partial) (g : Assignment) → Solves other phase here a → Assigns other phase here g → (kind : FaultKind) (at : ℕ) → Stands other phase here a g kind at → ⊥
    unfolding is_observed
    no_fault a g solves assigns Fight at stands = old.no_fault a old.assignment.0 solves old.assignment.1 Fight at stands
    no_fault a g solves assigns FightKept at stands = old.no_fault a old.assignment.0 solves old.assignment.1 FightKept at stands
    no_fault a g solves assigns Float at stands = old.no_fault a old.assignment.0 solves old.assignment.1 Float at stands
    no_fault a g solves assigns Unsettled at stands = old.no_fault a old.assignment.0 solves old.assignment.1 Unsettled at stands
    no_fault a g solves assigns Constraint at stands = old.no_fault a old.assignment.0 solves old.assignment.1 Constraint at stands
    no_fault a g solves assigns Differs at (n, w, (port, signal, there, out, seen, free, net, wanted), misses) =
        misses (ap a net ∙ gives phase bits a g port signal within met solves assigns (record { there = (at, there); output = out; observed = seen }) ∙ sym wanted)
    no_fault a g solves assigns Next at (n, w, (same, wants), misses) = not_held wants.0 wants.4.stands.0 wants.4.stands.1
    no_fault a g solves assigns Apart at (n, w, (same, wants), misses) = not_held wants.0 wants.5.stands.0 wants.5.stands.1
    no_fault a g solves assigns Enter at (n, w, (same, wants), misses) = not_held wants.0 wants.1 wants.2

    agrees : Agree other phase here
    unfolding is_observed
    agrees = record {
      solution = old.solution;
      one_solution = old.one_solution;
      assignment = logic_has_assignments flat (surroundings_of other phase here) logic;
      one_assignment = λ g h one two. record {
        signals = λ s lt. signals_follow_covers flat (surroundings_of other phase here) here.inputs g h s logic one two lt (λ t m leads. refl);
        elements = λ e lt. absurd (omega (arith, lt, ap (λ (names : List (List ℕ)). length names) (no_elements flat plain)));
      };
      defined = old.defined;
      no_fault = no_fault;
    }

pub models_are_exchanged : (k : Comparison) (flat : FlatModel) (number : ℕ)
    → HasNoState k → IsLogicModel flat k.pairing.clocked (tied_inputs k) → IsEqual k → GivesOutputs (exchanged k flat number) → IsEqual (exchanged k flat number)
models_are_exchanged k flat number none logic equal gives phase within =
    let old = equal phase within in
    record {
      met = (old.met.0, meets_other k flat number none logic.latches phase old.met.0 old.met.1);
      agree = λ bits met.
          agrees k flat number none logic.latches logic gives phase within bits met
          (subst (λ (s : Setting). Agree k phase s) (sym (setting_same k flat number none logic.latches phase bits)) (old.agree bits (meets_own k flat number none logic.latches phase bits met)));
    }
