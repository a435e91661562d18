-- The whole instances of a checked circuit stand for their cells.
use Rattle.std.proofs.Common.{◌≡◌, ℕ, ◌<◌, ◌++◌, Bool, List, [], Option, length, refl, ap, sym, subst, ◌∙◌, inl, inr}
use Rattle.std.specs.Prelude.{flat_map}
use Rattle.std.proofs.lemmas.Option.{none-some}
use Rattle.checked_chain.proofs.LinkLaws.{circuits_are_acyclic}
use Rattle.checked_cells.specs.Outputs.{CheckedCircuitsAreAcyclic, CheckedCircuitsAreWired, CheckedModelsAreAcyclic, CheckedWholesAreDetermined, CheckedWholesAreLogic}
use Rattle.channel_parts.specs.OneSolution.{AreDetermined}
use Rattle.formed_cells.specs.Formed.{IsFormed}
use Rattle.graphs.proofs.Walks.{cycle_over}
use Rattle.placed_cells.proofs.ListLaws.{zip_right}
use Rattle.placed_cells.specs.Above.{net_above}
use Rattle.replaced_instances.proofs.StepPorts.{told}
use Rattle.replaced_instances.specs.Steps.{IsStep, compared_at}
use Rattle.substitution_laws.proofs.ChainLaws.{at_last, outputs_apart}
use Rattle.substitution_laws.proofs.ChosenLaws.{chosen_instances_are_steps}
use Rattle.substitution_laws.proofs.EndsLaws.{chosen_ends_are_shown}
use Rattle.substitution_laws.proofs.FormedCells.{formed_cell}
use Rattle.substitution_laws.proofs.ToldLaws.{ends_before}
use Rattle.substitution_laws.proofs.WholeCells.{IsChosenAt, whole_chosen, wholes_are_determined, wholes_stand_for_cells}
use Rattle.substitution_laws.proofs.WholeRanges.{circuits_have_ranges}
use Rattle.substitution_laws.specs.Agreement.{IsCheckedByFacts}
use Rattle.vrt_model.proofs.Lists.{map_among}
use Rattle.vrt_model.proofs.Members.{among_map}
use Rattle.vrt_model.specs.Assignment.{Tied}
use Rattle.vrt_model.specs.Checked.{IsCircuitWith, before, with_circuit}
use Rattle.vrt_model.specs.Comparison.{Comparison, is_observed, phase_at, tied_inputs}
use Rattle.vrt_model.specs.Cut.{Cut, NumberedPlace, whole_places}
use Rattle.vrt_model.specs.Elements.{Numbered, numbered_from}
use Rattle.vrt_model.specs.FlatCircuit.{net_id}
use Rattle.vrt_model.specs.FlatModels.{IsFlatModel}
use Rattle.vrt_model.specs.Known.{HasArc, IsCycle}
use Rattle.vrt_model.specs.Lists.{Among}
use Rattle.vrt_model.specs.ModelArcs.{HasModelArc, Part, parts_by, parts_of}
use Rattle.vrt_model.specs.Networks.{HasRanges}
use Rattle.vrt_model.specs.Unrolled.{Top, all_places}
use Rattle.vrt_model.specs.Unsupported.{IsAcyclic, IsSupported, ModelArc}
use Rattle.vrt_model.specs.WholeInstances.{IsWholeAt}
use Rattle.vrt_model.specs.declared.blif.Blif.{Blif}
use Rattle.vrt_model.specs.declared.circuit.Circuit.{Circuit}
use Rattle.vrt_model.specs.declared.flat_model.FlatLatch.{FlatLatch}
use Rattle.vrt_model.specs.declared.flat_model.FlatModel.{FlatModel}
use Rattle.vrt_model.specs.declared.pairing.ClockedSignal.{ClockedSignal}
use Rattle.vrt_model.specs.declared.whole.CellFacts.{CellFacts}
use Rattle.vrt_model.specs.declared.whole.Whole.{Whole}
use Rattle.vrt_model.specs.declared.whole.WholePin.{WholePin}
use Rattle.whole_ranks.specs.WholeCells.{StandsFor, moved_tie}
use Rattle.whole_steps.specs.Logic.{IsLogicWhole}

-- ---- a model without latches has arcs by its covers alone, whatever is known of its signals

no_parts : (flat : FlatModel) → flat.latches ≡ [] → parts_of flat ≡ []
no_parts flat none = ap (λ (ls : List FlatLatch). flat_map (λ (l : Numbered). parts_by (length flat.signals) l l.latch.kind) (numbered_from 0 ls)) none

no_part : (flat : FlatModel) (part : Part) → flat.latches ≡ [] → Among (parts_of flat) part → ⊥
no_part flat part none among = let there = subst (λ (ps : List Part). Among ps part) (no_parts flat none) among in none-some part there.1

arc_by_cover : (flat : FlatModel) → flat.latches ≡ [] → (given other : ℕ → Option Bool) (clock hand : Option Bool) (from to : ℕ) → HasModelArc flat given clock from to → HasModelArc flat other hand from to
arc_by_cover flat none given other clock hand from to (inl a) = inl a
arc_by_cover flat none given other clock hand from to (inr (inl a)) = absurd (no_part flat a.0 none a.1)
arc_by_cover flat none given other clock hand from to (inr (inr (inl a))) = absurd (no_part flat a.0 none a.1)
arc_by_cover flat none given other clock hand from to (inr (inr (inr a))) =
    let there = subst (λ (ls : List FlatLatch). Among (numbered_from 0 ls) a.0) none a.1 in absurd (none-some a.0 there.1)

-- a whole instance of a checked circuit, the chosen instance that it is, and the model with which its cell pairs
pub record IsChosenWhole (cut : Cut) (blif : Blif) (facts : List CellFacts) (n : ℕ) (w : Whole) : Type 0 where
  pub number : ℕ
  pub place : NumberedPlace
  pub model : ℕ
  pub listed : Among (whole_places (before cut n)) place
  pub chosen : IsChosenAt cut number place
  pub step : IsStep cut blif facts number place model
  pub supported : IsSupported cut.top.design blif cut.top.rules place.at.cell model
  pub is : IsWholeAt (before cut n) blif facts place w

module _ (k : Comparison) (cut : Cut) (blif : Blif) (facts : List CellFacts) (c : Circuit) (h : IsCheckedByFacts k cut blif facts c) where
  -- the checked circuit as the last of its chain
  abbrev pub last : (n : ℕ) × (n < length (all_places cut.top)) × IsCircuitWith (before cut n) blif facts c
  last = at_last k cut blif facts c h

  pub ranges : HasRanges c
  ranges = circuits_have_ranges cut blif facts last.0 c h.choice h.formed (ends_before cut last.0 (chosen_ends_are_shown cut blif facts h.choice)) last.2

  pub chosen_whole : (w : Whole) → Among c.wholes w → IsChosenWhole cut blif facts last.0 w
  chosen_whole w on =
      let from = zip_right (IsWholeAt (before cut last.0) blif facts) (whole_places (before cut last.0)) c.wholes w last.2.wholes on in
      let is = whole_chosen cut last.0 from.0 from.1 in
      let step = chosen_instances_are_steps cut blif facts is.0 from.0 h.choice is.1.place is.1.chosen in
      record { number = is.0; place = from.0; model = step.0; listed = from.1; chosen = is.1; step = step.1; supported = step.2; is = from.2 }

  pub determined : (phase : ℕ) → phase < length cut.top.rules.phases → AreDetermined c (phase_at cut.top.rules phase) (is_observed (with_circuit k c) phase)
  determined phase lt = wholes_are_determined k cut blif facts phase last.0 c h.top h.choice lt last.2

  pub some_phase : 0 < length cut.top.rules.phases
  some_phase = h.choice.read.valid.some_phase

  -- ---- the model of a whole instance

  module _ (w : Whole) (on : Among c.wholes w) where
    one : IsChosenWhole cut blif facts last.0 w
    one = chosen_whole w on

    abbrev q : Comparison
    q = compared_at cut.top blif one.place one.model

    abbrev at : ℕ → ℕ
    at n = net_above cut.top one.place.at n

    formed : IsFormed q
    formed = formed_cell cut blif facts one.place.at.cell one.model h.choice one.supported

    stands : StandsFor q 0 c (is_observed (with_circuit k c) 0) at w
    stands = wholes_stand_for_cells k cut blif facts one.number one.place one.model 0 last.0 c w h.top h.choice one.step one.supported some_phase last.2 on one.is

    -- an input of the cell's model is one of the instance's
    input_there : (s : ℕ) → Among (q.model.inputs ++ q.model.clocks) s → Among (w.model.inputs ++ w.model.clocks) s
    input_there s = subst (λ (f : FlatModel). Among (f.inputs ++ f.clocks) s) (sym stands.model)

    carried : (x : ClockedSignal) → Among w.clocked x → Among q.pairing.clocked x
    carried x = subst (λ (xs : List ClockedSignal). Among xs x) stands.clocked

    -- an input pin is at the net and the signal of an input's tie
    tie_of_pin : (pin : WholePin) → Among w.inputs pin → (t : Tied) × Among (tied_inputs q) t × (t.signal ≡ pin.signal) × (at t.net ≡ pin.net.0)
    tie_of_pin pin there =
        let tie : WholePin → Tied = λ x. record { net = x.net.0; signal = x.signal } in
        let from = among_map (moved_tie at) (tied_inputs q) (tie pin) (subst (λ (ts : List Tied). Among ts (tie pin)) stands.tied (map_among tie w.inputs pin there)) in
        (from.0, from.1, ap (λ (t : Tied). t.signal) from.2, ap (λ (t : Tied). t.net) from.2)

    no_latches : q.model.latches ≡ []
    no_latches = (let f = told cut blif facts one.number one.place one.model one.step in (f.2.stateless f.3).1)

    -- its model has no cycle, whatever is known of its signals
    pub acyclic_whole : (given : ℕ → Option Bool) (clock : Option Bool) → IsAcyclic (HasModelArc w.model given clock)
    acyclic_whole given clock nodes cycle =
        let own = subst (λ (f : FlatModel). IsCycle (HasModelArc f given clock) nodes) stands.model cycle in
        (one.supported.acyclic 0 some_phase).1 nodes
        (cycle_over (HasModelArc q.model given clock) (ModelArc q 0) (λ from to arc. arc_by_cover q.model no_latches given _ clock _ from to arc) nodes own)

    pub logic_whole : IsLogicWhole w
    logic_whole = record {
      model = subst IsFlatModel (sym stands.model) formed.model;
      latches = subst (λ (f : FlatModel). f.latches ≡ []) (sym stands.model) no_latches;
      clocked = λ x there. input_there x.signal (formed.signals.clocked x.signal (x, carried x there, refl));
      tied = λ pin there. (let t = tie_of_pin pin there in input_there pin.signal (subst (λ (s : ℕ). Among (q.model.inputs ++ q.model.clocks) s) t.2 (formed.signals.tied t.0.signal (t.0, t.1, refl))));
      apart = λ x pin clock there same. (let t = tie_of_pin pin there in formed.signals.apart x.signal (x, carried x clock, refl) (t.0, t.1, t.2 ∙ sym same));
      one_clock = λ x y a b same. formed.signals.one_clock x y (carried x a) (carried y b) same;
      one_net = λ pin other a b same.
          (let t = tie_of_pin pin a in
          let u = tie_of_pin other b in
          let net = formed.signals.one_net t.0 u.0 t.1 u.1 (t.2 ∙ same ∙ sym u.2) in
          ap net_id (sym t.3 ∙ ap at net ∙ u.3));
    }

pub checked_circuits_are_wired : CheckedCircuitsAreWired
checked_circuits_are_wired k cut blif facts c h = record {
  ranges = ranges k cut blif facts c h;
  outputs = λ w pin on there. (determined k cut blif facts c h 0 (some_phase k cut blif facts c h) w on).plain pin there;
}

pub checked_wholes_are_determined : CheckedWholesAreDetermined
checked_wholes_are_determined k cut blif facts c phase h lt =
    subst (λ (u : Top). AreDetermined c (phase_at u.rules phase) (is_observed (with_circuit k c) phase)) h.top
    (determined k cut blif facts c h phase (subst (λ (u : Top). phase < length u.rules.phases) (sym h.top) lt))

pub checked_wholes_are_logic : CheckedWholesAreLogic
checked_wholes_are_logic k cut blif facts c w h on = logic_whole k cut blif facts c h w on

pub checked_models_are_acyclic : CheckedModelsAreAcyclic
checked_models_are_acyclic k cut blif facts c w h on = acyclic_whole k cut blif facts c h w on

pub checked_circuits_are_acyclic : CheckedCircuitsAreAcyclic
checked_circuits_are_acyclic k cut blif facts c phase h lt =
    let there = last k cut blif facts c h in
    let low = subst (λ (u : Top). phase < length u.rules.phases) (sym h.top) lt in
    subst (λ (u : Top). IsAcyclic (HasArc c (phase_at u.rules phase))) h.top
    (circuits_are_acyclic cut blif facts c there.0 phase h.choice.read.valid (outputs_apart k cut blif facts c h there.0 c there.2) h.choice.tried there.2 low there.1 (h.acyclic phase low))
