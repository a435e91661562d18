-- The check of a cell without instances and holds whose gates are nets with given values: which faults can stand at a
-- valuation, and when circuit and model agree there, by the responses of the nets in one state.
use Rattle.std.proofs.Common.{◌≡◌, ℕ, ◌<◌, ◌≤◌, ◌⊎◌, Bool, true, false, List, [], ◌∷◌, Option, Some, None, length, arith, ap, subst, sym, refl, ◌∙◌, inl, inr}
use Rattle.std.specs.Prelude.{◌↔◌, IsSome}
use Rattle.std.proofs.lemmas.Option.{none-some, slice_get_cases}
use Rattle.model_laws.specs.OneCell.{IsOneCell}
use Rattle.vrt_model.proofs.Observed.{output_observed}
use Rattle.model_laws.proofs.Assignments.{one_element, one_signal, the_assignment, the_assignment_is}
use Rattle.vrt_model.proofs.GatesGiven.{IsGiven, always_responds, filled_is, filled_state, given_shows, kept_response, one_solution, shown, shown_is_solution, solution_agrees, solution_defined, solution_shows}
use Rattle.vrt_model.proofs.Laws.{one_response}
use Rattle.vrt_model.proofs.Members.{at_none}
use Rattle.vrt_model.proofs.Networks.{network_bound}
use Rattle.vrt_model.specs.Networks.{HasBound}
use Rattle.vrt_model.specs.Assignment.{Assignment}
use Rattle.vrt_model.specs.CellRules.{is_observed_port}
use Rattle.vrt_model.specs.Comparison.{CellPort, Comparison, cell_at, is_observed, output_signal, phase_at, ports_of}
use Rattle.vrt_model.specs.Equal.{Agree}
use Rattle.vrt_model.specs.Faults.{Assigns, Solves, Stands, surroundings_of}
use Rattle.vrt_model.specs.Known.{IsPlain}
use Rattle.vrt_model.specs.Lists.{At}
use Rattle.vrt_model.specs.Path.{Hop, IsPath, Network, Root, end_of}
use Rattle.vrt_model.specs.Reading.{is_given}
use Rattle.vrt_model.specs.Response.{Fight, Float, IsResponse, Shows}
use Rattle.vrt_model.specs.Solution.{Agrees}
use Rattle.vrt_model.specs.State.{IsState, Setting, State, network_of}
use Rattle.vrt_model.specs.declared.circuit.Circuit.{Circuit}
use Rattle.vrt_model.specs.declared.circuit.FlatInstance.{FlatInstance}
use Rattle.vrt_model.specs.declared.circuit.Hold.{Hold}
use Rattle.vrt_model.specs.declared.circuit.NetKind.{NetKind}
use Rattle.vrt_model.specs.declared.circuit.NetKind.TheVariants.{Supply, Clock, Input, Plain}
use Rattle.vrt_model.specs.declared.verdict.FaultKind.{FaultKind}
use Rattle.vrt_model.specs.declared.verdict.FaultKind.TheVariants.{Fight as FightFault, FightKept, Float as FloatFault, Unsettled, Constraint, Differs, Next, Apart, Enter}

-- ---- nets

plain_by_kind : (kind : NetKind) → (kind ≡ Plain) ⊎ (is_given kind ≡ true)
plain_by_kind (Supply value) = inr refl
plain_by_kind (Clock clock) = inr refl
plain_by_kind Input = inr refl
plain_by_kind Plain = inl refl

pub plain_or_given : (c : Circuit) (n : ℕ) → n < length c.nets → IsPlain c n ⊎ IsGiven c n
plain_or_given c n lt =
    elim (slice_get_cases c.nets n).1 [
      | inl h ↦ elim (plain_by_kind h.0.kind) [ inl p ↦ inl (h.0, h.2, p) | inr g ↦ inr (h.0, h.2, g) ]
      | inr h ↦ absurd (apart n (length c.nets) lt h.0)
    ]
  where
    apart : (m l : ℕ) → m < l → l ≤ m → ⊥
    apart m l lt le = omega (arith, lt, le)

end_below : (w : Network) (bound : ℕ) → HasBound w bound → (root : Root) (hops : List Hop) → IsPath w root hops → end_of root hops < bound
end_below w bound bounded root [] p = bounded.roots root p
end_below w bound bounded root (hop ∷ hops) p = bounded.hops (end_of root hops) hop.to hop.device p.1 p.2

module _ (k : Comparison) (phase : ℕ) (cell : IsOneCell k phase) (setting : Setting) (s : State)
    (is : IsState k.circuit (phase_at k.rules phase) setting.inputs s) where
  abbrev pub view : Bool → Network
  view bare = network_of k.circuit bare setting.held s

  -- a net that fights is plain
  pub fight_plain : (bare : Bool) (n : ℕ) → IsResponse (view bare) n Fight → IsPlain k.circuit n
  fight_plain bare n fight =
      let r = fight.0 in
      let below : n < length k.circuit.nets =
      subst (λ (m : ℕ). m < length k.circuit.nets) r.4 (end_below (view bare) (length k.circuit.nets) (network_bound k.circuit bare setting.held s cell.gates.ranges) r.0 r.1 r.2) in
      elim (plain_or_given k.circuit n below) [
        | inl p ↦ p
        | inr g ↦ absurd (apart (s.reading n) (one_response (view bare) n Fight (Shows (s.reading n)) fight (given_shows k.circuit (phase_at k.rules phase) cell.gates setting bare s n g)))
      ]
    where
      apart : (v : Bool) → Fight ≡ Shows v → ⊥
      apart v e = cc

  module _ (a : ℕ → Option Bool) (g : Assignment) (solves : Solves k phase setting a) where
    pub fight_stands : (n : ℕ) → Stands k phase setting a g FightFault n ↔ (IsPlain k.circuit n × IsResponse (view true) n Fight)
    fight_stands n =
        let h = always_responds k.circuit (phase_at k.rules phase) cell.gates setting (is_observed k phase) a solves s is true n Fight in
        (λ st. (st.0, h.0 st.1), λ p. (p.0, h.1 p.1))

    pub float_stands : (n : ℕ) → Stands k phase setting a g FloatFault n ↔ ((is_observed k phase n ≡ true) × IsResponse (view true) n Float)
    float_stands n =
        let h = always_responds k.circuit (phase_at k.rules phase) cell.gates setting (is_observed k phase) a solves s is true n Float in
        (λ st. (st.0, h.0 st.1), λ p. (p.0, h.1 p.1))

    -- without keepers a fight of the kept circuit is one of the bare circuit
    pub kept_fight_stands : (n : ℕ) → Stands k phase setting a g FightKept n → Stands k phase setting a g FightFault n
    kept_fight_stands n st =
        let h = always_responds k.circuit (phase_at k.rules phase) cell.gates setting (is_observed k phase) a solves s is false n Fight in
        (fight_stands n).1 (st.0, kept_response k.circuit setting.held s cell.keepers false true n Fight (h.0 st.1))

    -- an observed net that is not kept fights or floats
    pub unsettled_stands : (n : ℕ) → Stands k phase setting a g Unsettled n → Stands k phase setting a g FightFault n ⊎ Stands k phase setting a g FloatFault n
    unsettled_stands n st =
        elim (solution_defined k.circuit (phase_at k.rules phase) cell.gates setting (is_observed k phase) a solves s is n st.0) [
          | inl shows ↦
              let kept = kept_response k.circuit setting.held s cell.keepers true false n (Shows shows.0) shows.2 in
              let always = (always_responds k.circuit (phase_at k.rules phase) cell.gates setting (is_observed k phase) a solves s is false n (Shows shows.0)).1 kept in
              absurd (never shows.0 shows.1 always)
          | inr none ↦ elim none.1 [
            | inl fight ↦ inl ((fight_stands n).1 (fight_plain true n fight, fight))
            | inr float ↦ inr ((float_stands n).1 (st.0, float))
          ]
        ]
      where
        -- some state agrees with the solution
        never : (v : Bool) → a n ≡ Some v
            → ((t : State) → IsState k.circuit (phase_at k.rules phase) setting.inputs t → Agrees (is_observed k phase) a t.reading → IsResponse (network_of k.circuit false setting.held t) n (Shows v))
            → ⊥
        never v e always =
            let t = filled_state k.circuit (phase_at k.rules phase) cell.gates setting a in
            let good = filled_is k.circuit (phase_at k.rules phase) cell.gates setting a in
            let agrees = solution_agrees k.circuit (phase_at k.rules phase) cell.gates setting (is_observed k phase) a solves in
            st.1 t good agrees v e (always t good agrees)

    -- no fault of another kind stands but the difference of an output
    pub no_constraint : (at : ℕ) → ¬ Stands k phase setting a g Constraint at
    no_constraint at st = at_none at st.0 (subst (λ (is : List FlatInstance). At is at st.0) cell.instances st.1)

    no_hold : (place : ℕ) (h : Hold) → At k.circuit.holds place h → ⊥
    no_hold place h e = at_none place h (subst (λ (hs : List Hold). At hs place h) cell.holds e)

    pub no_next : (at : ℕ) → ¬ Stands k phase setting a g Next at
    no_next at st = let h = st.2.1.4.stands in no_hold st.2.1.0 h.0 h.1

    pub no_apart : (at : ℕ) → ¬ Stands k phase setting a g Apart at
    no_apart at st = let h = st.2.1.5.stands in no_hold st.2.1.0 h.0 h.1

    pub no_enter : (at : ℕ) → ¬ Stands k phase setting a g Enter at
    no_enter at st = no_hold st.2.1.0 st.2.1.1 st.2.1.2

    -- an output shows its signal's bit, or differs
    pub output_shows : (port : CellPort) (signal at : ℕ) → At (ports_of k) at port → output_signal port.role ≡ Some signal
        → is_observed_port k.rules (cell_at k.design k.cell).name port.name phase ≡ true
        → IsResponse (view true) port.net (Shows (g.signal signal)) → a port.net ≡ Some (g.signal signal)
    output_shows port signal at there out seen shows =
        (solution_shows k.circuit (phase_at k.rules phase) cell.gates setting (is_observed k phase) a solves s is port.net (g.signal signal) (output_observed k phase at port signal there out seen)).1 shows

  -- circuit and model agree where no plain net fights, no observed net floats, and each observed output shows its signal's bit
  pub agree_from : ((n : ℕ) → IsPlain k.circuit n → ¬ IsResponse (view true) n Fight)
      → ((n : ℕ) → is_observed k phase n ≡ true → ¬ IsResponse (view true) n Float)
      → ((g : Assignment) (at : ℕ) (port : CellPort) (signal : ℕ) → Assigns k phase setting g → At (ports_of k) at port → output_signal port.role ≡ Some signal
      → is_observed_port k.rules (cell_at k.design k.cell).name port.name phase ≡ true → IsResponse (view true) port.net (Shows (g.signal signal)))
      → Agree k phase setting
  agree_from fights floats outputs = record {
    solution = (
      shown k.circuit (phase_at k.rules phase) cell.gates setting (is_observed k phase),
      shown_is_solution k.circuit (phase_at k.rules phase) cell.gates setting (is_observed k phase),
    );
    one_solution = one_solution k.circuit (phase_at k.rules phase) cell.gates setting (is_observed k phase);
    assignment = (
      the_assignment k.model (surroundings_of k phase setting) (cell.logic setting),
      the_assignment_is k.model (surroundings_of k phase setting) (cell.logic setting),
    );
    one_assignment = λ g h one two. record {
      signals = one_signal k.model (surroundings_of k phase setting) (cell.logic setting) g h one two;
      elements = one_element k.model (surroundings_of k phase setting) (cell.logic setting) g h;
    };
    defined = λ a solves n seen.
        elim (solution_defined k.circuit (phase_at k.rules phase) cell.gates setting (is_observed k phase) a solves s is n seen) [
          | inl shows ↦ some_bit (a n) shows.0 shows.1
          | inr none ↦ elim none.1 [ inl fight ↦ absurd (fights n (fight_plain true n fight) fight) | inr float ↦ absurd (floats n seen float) ]
        ];
    no_fault = λ a g solves assigns kind at. none a g solves assigns kind at;
  }
    where
      some_bit : (o : Option Bool) (v : Bool) → o ≡ Some v → IsSome o
      some_bit None v e = absurd (none-some v e)
      some_bit (Some u) v e = refl

      none : (a : ℕ → Option Bool) (g : Assignment) → Solves k phase setting a → Assigns k phase setting g → (kind : FaultKind) (at : ℕ) → Stands k phase setting a g kind at → ⊥
      none a g solves assigns FightFault at st = let h = (fight_stands a g solves at).0 st in fights at h.0 h.1
      none a g solves assigns FloatFault at st = let h = (float_stands a g solves at).0 st in floats at h.0 h.1
      none a g solves assigns FightKept at st = let h = (fight_stands a g solves at).0 (kept_fight_stands a g solves at st) in fights at h.0 h.1
      none a g solves assigns Unsettled at st =
          elim (unsettled_stands a g solves at st) [
            | inl f ↦ let h = (fight_stands a g solves at).0 f in fights at h.0 h.1
            | inr f ↦ let h = (float_stands a g solves at).0 f in floats at h.0 h.1
          ]
      none a g solves assigns Constraint at st = no_constraint a g solves at st
      none a g solves assigns Next at st = no_next a g solves at st
      none a g solves assigns Apart at st = no_apart a g solves at st
      none a g solves assigns Enter at st = no_enter a g solves at st
      none a g solves assigns Differs at st =
          let w = st.2 in
          let same : a w.0.net ≡ Some (g.signal w.1) = output_shows a g solves w.0 w.1 at w.2 w.3 w.4 (outputs g at w.0 w.1 assigns w.2 w.3 w.4) in
          st.3 (ap a w.6 ∙ (same ∙ sym w.7))
