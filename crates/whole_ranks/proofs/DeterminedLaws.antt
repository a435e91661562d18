-- A whole instance that stands for an equal cell is determined. Between two readings stands a third, with the bits of the first at observed nets
-- and of the second at all others: an output has the same bit at the first two since the cell is equal and does not look at the nets that are
-- not observed, and at the last two by the covers of the model.
use Rattle.std.proofs.Common.{◌≡◌, ℕ, ◌<◌, ◌⊎◌, ◌||◌, ◌&&◌, Bool, true, false, not, cond, List, Option, Some, None, eqb, length, map, ap, subst, sym, refl, ◌∙◌, inl, inr}
use Rattle.std.specs.Prelude.{is_some, ◌==◌}
use Rattle.std.specs.List.{list_any}
use Rattle.std.proofs.lemmas.Bool.{cases_Bool, cond-false, cond-true, eq-eqb, false≢true, or_left}
use Rattle.std.proofs.lemmas.Option.{none-some, same_Some}
use Rattle.vrt_model.proofs.Filtered.{device_among}
use Rattle.vrt_model.proofs.Lists.{map_among}
use Rattle.vrt_model.proofs.Members.{among_any, among_map, any_among, at_none}
use Rattle.vrt_model.specs.Assignment.{Assignment, IsAssignment, Tied}
use Rattle.vrt_model.specs.CellRules.{is_constrained, is_observed_port}
use Rattle.vrt_model.specs.Comparison.{CellPort, Comparison, cell_at, is_observed, output_signal, phase_at, ports_of, tied_inputs}
use Rattle.vrt_model.specs.Constraints.{Meets}
use Rattle.vrt_model.specs.Determined.{IsDetermined, IsLinkedTo}
use Rattle.vrt_model.specs.Elements.{Numbered, numbered_from}
use Rattle.vrt_model.specs.Faults.{Assigns, Solves, is_free}
use Rattle.vrt_model.specs.Held.{setting_of}
use Rattle.vrt_model.specs.Lists.{Among, At}
use Rattle.vrt_model.specs.State.{Setting, surroundings_of_whole}
use Rattle.vrt_model.specs.WholeInstances.{CoverArc, IsChain}
use Rattle.vrt_model.specs.declared.circuit.Circuit.{Circuit}
use Rattle.vrt_model.specs.declared.circuit.Device.{Device}
use Rattle.vrt_model.specs.declared.circuit.FlatInstance.{FlatInstance}
use Rattle.vrt_model.specs.declared.circuit.Hold.{Hold}
use Rattle.vrt_model.specs.declared.flat_model.DontCare.{DontCare}
use Rattle.vrt_model.specs.declared.flat_model.FlatLatch.{FlatLatch}
use Rattle.vrt_model.specs.declared.flat_model.FlatModel.{FlatModel}
use Rattle.vrt_model.specs.declared.ids.Net.{Net}
use Rattle.vrt_model.specs.declared.pairing.ClockedSignal.{ClockedSignal}
use Rattle.vrt_model.specs.declared.rules.Phase.{Phase}
use Rattle.vrt_model.specs.declared.verdict.FaultKind.TheVariants.{Differs}
use Rattle.vrt_model.specs.declared.whole.Whole.{Whole}
use Rattle.vrt_model.specs.declared.whole.WholePin.{WholePin}
use Rattle.whole_ranks.proofs.CoverLaws.{signals_follow_covers}
use Rattle.whole_ranks.proofs.IdleLaws.{idle_inputs_change_nothing}
use Rattle.whole_ranks.proofs.LogicLaws.{logic_has_assignments}
use Rattle.whole_ranks.specs.Idle.{SameButIdle}
use Rattle.whole_ranks.specs.Logic.{IsLogicModel, IsTied, LeadsTo}
use Rattle.whole_ranks.specs.WholeCells.{IsInputNet, IsLogicCell, IsOutputAt, MeetsAllInputs, StandsFor, WholeCellsAreDetermined, moved_tie}

-- ---- plain facts

-- two options of bits that are not different are the same
same_options : (o p : Option Bool) → ((o ≡ p → ⊥) → ⊥) → o ≡ p
same_options None None h = refl
same_options None (Some v) h = absurd (h (none-some v))
same_options (Some u) None h = absurd (h (λ e. none-some u (sym e)))
same_options (Some true) (Some true) h = refl
same_options (Some true) (Some false) h = absurd (h (λ e. false≢true (sym (same_Some true false e))))
same_options (Some false) (Some true) h = absurd (h (λ e. false≢true (same_Some false true e)))
same_options (Some false) (Some false) h = refl

-- the gate of a device is observed
gate_observed : (k : Comparison) (phase : ℕ) (d : Device) → Among k.circuit.devices d → is_observed k phase d.gate.0 ≡ true
unfolding is_observed
gate_observed k phase d m =
    let n = d.gate.0 in
    let gates = list_any (λ (x : Device). eqb x.gate.0 n) k.circuit.devices in
    let holds = list_any (λ (h : Hold). eqb h.net.0 n) k.circuit.holds in
    let outputs = list_any (λ (p : CellPort). eqb p.net n && is_some (output_signal p.role) && is_observed_port k.rules (cell_at k.design k.cell).name p.name phase) (ports_of k) in
    let instances = list_any (λ (i : FlatInstance). is_constrained k.rules (cell_at k.design i.cell).name && list_any (λ (x : Net). eqb x.0 n) i.ports) k.circuit.instances in
    let wholes = list_any (λ (w : Whole). list_any (λ (p : WholePin). p.observed && eqb p.net.0 n) w.inputs) k.circuit.wholes in
    or_left (((gates || holds) || outputs) || instances) wholes
    (or_left ((gates || holds) || outputs) instances
    (or_left (gates || holds) outputs (or_left gates holds (among_any (λ (x : Device). eqb x.gate.0 n) k.circuit.devices d m (eq-eqb n n refl)))))

-- a logic model with its ties at other nets
moved_logic : (flat : FlatModel) (clocked : List ClockedSignal) (ties : List Tied) (at : ℕ → ℕ) → IsLogicModel flat clocked ties → IsLogicModel flat clocked (map (moved_tie at) ties)
moved_logic flat clocked ties at logic = record {
  latches = logic.latches;
  acyclic = logic.acyclic;
  outputs = logic.outputs;
  inputs = logic.inputs;
  driven = λ s lt. elim (logic.driven s lt) [
    | inl c ↦ inl c
    | inr other ↦ elim other [ inl t ↦ inr (inl (there s t)) | inr c ↦ inr (inr c) ]
  ];
  one_cover = logic.one_cover;
  one_clock = logic.one_clock;
  one_tie = λ a b m n e.
      let one = among_map (moved_tie at) ties a m in
      let two = among_map (moved_tie at) ties b n in
      sym (ap (λ (t : Tied). t.net) one.2)
      ∙ ap at (logic.one_tie one.0 two.0 one.1 two.1 (ap (λ (t : Tied). t.signal) one.2 ∙ e ∙ sym (ap (λ (t : Tied). t.signal) two.2)))
      ∙ ap (λ (t : Tied). t.net) two.2;
  clocks_apart = λ s c other. logic.clocks_apart s c (elim other [ inl t ↦ inl (back s t) | inr cover ↦ inr cover ]);
  ties_apart = λ s t. logic.ties_apart s (back s t);
}
  where
    there : (s : ℕ) → IsTied ties s → IsTied (map (moved_tie at) ties) s
    there s t = (moved_tie at t.0, map_among (moved_tie at) ties t.0 t.1, t.2)

    back : (s : ℕ) → IsTied (map (moved_tie at) ties) s → IsTied ties s
    back s t = let one = among_map (moved_tie at) ties t.0 t.1 in (one.0, one.1, ap (λ (x : Tied). x.signal) one.2 ∙ t.2)

-- ---- the instance

module _ (k : Comparison) (phase : ℕ) (c : Circuit) (observed : ℕ → Bool) (at : ℕ → ℕ) (w : Whole) (cell : IsLogicCell k phase) (stands : StandsFor k phase c observed at w) where
  abbrev now : Phase
  now = phase_at k.rules phase

  abbrev tie_of : WholePin → Tied
  tie_of p = record { net = p.net.0; signal = p.signal }

  abbrev AssignsAt : (ℕ → Bool) → Assignment → Type 0
  AssignsAt r g = IsAssignment w.model (surroundings_of_whole now w r) g

  logic : IsLogicModel w.model w.clocked (map tie_of w.inputs)
  logic =
      subst (λ (m : FlatModel). IsLogicModel m w.clocked (map tie_of w.inputs)) (sym stands.model)
      (subst (λ (cs : List ClockedSignal). IsLogicModel k.model cs (map tie_of w.inputs)) (sym stands.clocked)
      (subst (IsLogicModel k.model k.pairing.clocked) (sym stands.tied) (moved_logic k.model k.pairing.clocked (tied_inputs k) at cell.logic)))

  pub some_assignment : (r : ℕ → Bool) → (g : Assignment) × AssignsAt r g
  some_assignment r = logic_has_assignments w.model (surroundings_of_whole now w r) logic

  -- an assignment of the instance is one of the cell
  pub inside : (r : ℕ → Bool) (g : Assignment) (setting : Setting) → AssignsAt r g → ((n : ℕ) → IsInputNet k.circuit n → setting.inputs n ≡ r (at n)) → Assigns k phase setting g
  inside r g setting is bits = record {
    clocks = λ s m. is.clocks s (subst (λ (cs : List ClockedSignal). Among cs s) (sym stands.clocked) m);
    inputs = λ t m.
        is.inputs (moved_tie at t) (subst (λ (ts : List Tied). Among ts (moved_tie at t)) (sym stands.tied) (map_among (moved_tie at) (tied_inputs k) t m))
        ∙ sym (bits t.net (cell.inputs t m));
    obeys = record {
      covers = λ cover m. is.obeys.covers cover (subst (λ (f : FlatModel). Among f.covers cover) (sym stands.model) m);
      latches = λ l m. absurd (no_latch l m);
    };
  }
    where
      no_latch : (l : Numbered) → Among (numbered_from 0 k.model.latches) l → ⊥
      no_latch l m = at_none m.0 l (subst (λ (ls : List FlatLatch). At (numbered_from 0 ls) m.0 l) cell.logic.latches m.1)

  -- a solution of the cell gives an output the bit of its signal
  pub shows_signal : (bits : List Bool) (a : ℕ → Option Bool) (g : Assignment) → Meets k phase bits → Solves k phase (setting_of k phase bits) a → Assigns k phase (setting_of k phase bits) g
      → (place : ℕ) (port : CellPort) (s : ℕ) → IsOutputAt k place port s → a port.net ≡ Some (g.signal s)
  shows_signal bits a g meets solves assigns place port s out =
      same_options (a port.net) (Some (g.signal s)) (λ apart.
      (cell.equal.agree bits meets).no_fault a g solves assigns Differs place
      (port.net, Some (g.signal s), (port, s, out.0, out.1, cell.seen place port s out, asked, refl, refl), apart))
    where
      -- no output has a don't-care bit
      asked : is_free k.model g s ≡ false
      asked = ap (λ (ds : List DontCare). list_any (λ (d : DontCare). (d.output == s) && g.signal d.bit) ds) cell.cared

  -- the second reading has the bits of the first at observed nets
  module _ (r x : ℕ → Bool) (alike : (n : ℕ) → observed n ≡ true → r n ≡ x n) (g h : Assignment) (one : AssignsAt r g) (two : AssignsAt x h)
      (place : ℕ) (port : CellPort) (s : ℕ) (out : IsOutputAt k place port s) where
    -- the cell is equal at the bits of both
    same_in_cell : MeetsAllInputs k phase → g.signal s ≡ h.signal s
    same_in_cell all =
        let first = all (λ n. r (at n)) in
        let last = all (λ n. x (at n)) in
        let found = (cell.equal.agree first.0 first.1).solution in
        let moved = idle_inputs_change_nothing k.circuit now (is_observed k phase) (setting_of k phase first.0) (setting_of k phase last.0) found.0
        cell.ranges cell.wholes cell.holds (λ d m. gate_observed k phase d (device_among true k.circuit d m).0) (differ first last) found.1 in
        same_Some (g.signal s) (h.signal s)
        (sym (shows_signal first.0 found.0 g first.1 found.1 (inside r g (setting_of k phase first.0) one first.2) place port s out)
        ∙ shows_signal last.0 found.0 h last.1 moved (inside x h (setting_of k phase last.0) two last.2) place port s out)
      where
        differ : (first : (bits : List Bool) × Meets k phase bits × ((n : ℕ) → IsInputNet k.circuit n → (setting_of k phase bits).inputs n ≡ r (at n)))
            → (last : (bits : List Bool) × Meets k phase bits × ((n : ℕ) → IsInputNet k.circuit n → (setting_of k phase bits).inputs n ≡ x (at n)))
            → SameButIdle k.circuit (is_observed k phase) (setting_of k phase first.0) (setting_of k phase last.0)
        differ first last n net e kind =
            elim (cases_Bool (observed (at n))) [
              | inl t ↦ inl (first.2 n (net, e, kind) ∙ alike (at n) t ∙ sym (last.2 n (net, e, kind)))
              | inr f ↦ inr (record { unobserved = (stands.quiet n (net, e, kind) f).0; free = λ m d a. cell.free n m d (net, e, kind) a })
            ]

    -- all inputs are observed
    same_by_covers : ((t : Tied) → Among (map tie_of w.inputs) t → r t.net ≡ x t.net) → g.signal s ≡ h.signal s
    same_by_covers ties =
        signals_follow_covers w.model (surroundings_of_whole now w r) x g h s logic one two
        (subst (λ (f : FlatModel). s < length f.signals) (sym stands.model) (cell.outputs place port s out).0) (λ t m path. ties t m)

    pub same_at_observed : g.signal s ≡ h.signal s
    same_at_observed =
        elim (cases_Bool (list_any (λ (t : Tied). not (observed (at t.net))) (tied_inputs k))) [
          | inl some ↦
              let found = any_among (λ (t : Tied). not (observed (at t.net))) (tied_inputs k) some in
              same_in_cell (stands.quiet found.0.net (cell.inputs found.0 found.1) (hidden (observed (at found.0.net)) found.2)).1
          | inr none ↦ same_by_covers (λ t m.
              let from = among_map (moved_tie at) (tied_inputs k) t (subst (λ (ts : List Tied). Among ts t) stands.tied m) in
              subst (λ (u : Tied). r u.net ≡ x u.net) from.2 (alike (at from.0.net) (open_at none from.0 from.1 (cases_Bool (observed (at from.0.net))))))
        ]
      where
        hidden : (b : Bool) → not b ≡ true → b ≡ false
        hidden true e = absurd (false≢true e)
        hidden false e = refl

        open_at : list_any (λ (t : Tied). not (observed (at t.net))) (tied_inputs k) ≡ false → (t : Tied) → Among (tied_inputs k) t
            → (observed (at t.net) ≡ true) ⊎ (observed (at t.net) ≡ false) → observed (at t.net) ≡ true
        open_at none t m (inl seen) = seen
        open_at none t m (inr f) = absurd (false≢true (sym none ∙ among_any (λ (u : Tied). not (observed (at u.net))) (tied_inputs k) t m (ap not f)))

  -- ---- an output at two readings

  abbrev between : (ℕ → Bool) → (ℕ → Bool) → ℕ → Bool
  between r q n = cond (observed n) (r n) (q n)

  same_at_linked : (i : ℕ) (pin : WholePin) (r q : ℕ → Bool) (g h : Assignment) → At w.outputs i pin → AssignsAt r g → AssignsAt q h
      → ((input : WholePin) → Among w.inputs input → IsLinkedTo now w input i → observed input.net.0 ≡ true → r input.net.0 ≡ q input.net.0)
      → g.signal pin.signal ≡ h.signal pin.signal
  same_at_linked i pin r q g h e one two same =
      let out = stands.outputs pin (i, e) in
      let mid = some_assignment (between r q) in
      let within = cell.outputs out.0 out.1 pin.signal out.2 in
      same_at_observed r (between r q) (λ n seen. sym (cond-true (observed n) (r n) (q n) seen)) g mid.0 one mid.1 out.0 out.1 pin.signal out.2
      ∙ signals_follow_covers w.model (surroundings_of_whole now w (between r q)) q mid.0 h pin.signal logic mid.1 two
      (subst (λ (f : FlatModel). pin.signal < length f.signals) (sym stands.model) within.0) (λ t m path. tie_same within.1 t m path)
    where
      net_same : (input : WholePin) → Among w.inputs input → IsLinkedTo now w input i → between r q input.net.0 ≡ q input.net.0
      net_same input m linked =
          elim (cases_Bool (observed input.net.0)) [
            | inl seen ↦ cond-true (observed input.net.0) (r input.net.0) (q input.net.0) seen ∙ same input m linked seen
            | inr f ↦ cond-false (observed input.net.0) (r input.net.0) (q input.net.0) f
          ]

      tie_same : (IsTied (tied_inputs k) pin.signal → ⊥) → (t : Tied) → Among (map tie_of w.inputs) t → LeadsTo w.model t.signal pin.signal → between r q t.net ≡ q t.net
      tie_same apart t m (inl is) =
          let from = among_map (moved_tie at) (tied_inputs k) t (subst (λ (ts : List Tied). Among ts t) stands.tied m) in
          absurd (apart (from.0, from.1, ap (λ (u : Tied). u.signal) from.2 ∙ is))
      tie_same apart t m (inr chain) =
          let from = among_map tie_of w.inputs t m in
          let path = subst (λ (f : FlatModel). IsChain (CoverArc f) t.signal pin.signal) stands.model chain in
          let here = subst (λ (x : ℕ). IsChain (CoverArc k.model) x pin.signal) (sym (ap (λ (u : Tied). u.signal) from.2)) path in
          subst (λ (u : Tied). between r q u.net ≡ q u.net) from.2 (net_same from.0 from.1 (stands.links from.0 pin i from.1 e here))

  pub determined : IsDetermined c now observed w
  determined = record { plain = stands.plain; assigned = some_assignment; linked = same_at_linked }

pub whole_cells_are_determined : WholeCellsAreDetermined
whole_cells_are_determined k phase c observed at w cell stands = determined k phase c observed at w cell stands
