-- The cell of a chosen instance is a logic cell.
use Rattle.std.proofs.Common.{◌≡◌, ℕ, suc, ◌<◌, Bool, true, false, List, [], Option, Some, None, refl, ap, sym, ◌∙◌, subst, inl, inr}
use Rattle.std.specs.Prelude.{is_some, length, option_map, ◌++◌, ◌||◌, ◌==◌}
use Rattle.std.proofs.lemmas.Bool.{eq-eqb, false≢true, or_cases, or_left, or_right}
use Rattle.std.proofs.lemmas.Option.{none-some, same_Some}
use Rattle.blif_eval.proofs.Drivers.{apart, covered_below, driven, input_below, one_cover}
use Rattle.checked_chain.proofs.AcyclicLaws.{acyclic_kept}
use Rattle.checked_chain.proofs.DriveLaws.{nothing_in}
use Rattle.placed_cells.proofs.SplitLaws.{places_in_stand_together}
use Rattle.placed_cells.specs.Splits.{IsSplit}
use Rattle.replaced_instances.proofs.OutputPorts.{is_net_role}
use Rattle.replaced_instances.proofs.StepHides.{port_observed}
use Rattle.replaced_instances.proofs.StepInstances.{port_of_net}
use Rattle.replaced_instances.proofs.StepPorts.{keeps_free, no_holds, place_there, port_listed, told, may}
use Rattle.replaced_instances.specs.Steps.{IsStep, compared_at}
use Rattle.substitution_laws.specs.Chosen.{ChosenCellsAreLogic}
use Rattle.formed_cells.specs.Formed.{IsFormed}
use Rattle.substitution_laws.proofs.FormedCells.{formed_cell}
use Rattle.vrt_model.proofs.Filtered.{among_kept, device_among}
use Rattle.vrt_model.proofs.Lists.{among_filter_map}
use Rattle.vrt_model.proofs.Members.{at_all}
use Rattle.vrt_model.proofs.Networkless.{no_network}
use Rattle.vrt_model.specs.Assignment.{Tied}
use Rattle.vrt_model.specs.CellRules.{is_observed_port}
use Rattle.vrt_model.specs.Checked.{may_meet_channels}
use Rattle.vrt_model.specs.Comparison.{CellPort, Comparison, cell_at, input_signal, ports_of, tied_inputs}
use Rattle.vrt_model.specs.Cut.{Cut, NumberedPlace}
use Rattle.vrt_model.specs.FlatCircuit.{flat_circuit_of, kind_by_role}
use Rattle.vrt_model.specs.Lists.{Among, At, is_empty}
use Rattle.vrt_model.specs.Path.{Joins}
use Rattle.vrt_model.specs.Reading.{bare, devices_of}
use Rattle.vrt_model.specs.Unrolled.{Place}
use Rattle.vrt_model.specs.Unsupported.{IsSupported, ModelArc}
use Rattle.vrt_model.specs.WholeInstances.{CoverArc, channels_at}
use Rattle.vrt_model.specs.declared.blif.Blif.{Blif}
use Rattle.vrt_model.specs.declared.circuit.Device.{Device}
use Rattle.vrt_model.specs.declared.circuit.NetKind.{NetKind}
use Rattle.vrt_model.specs.declared.circuit.NetKind.TheVariants.{Supply as SupplyNet, Clock as ClockNet, Input as InputNet, Plain}
use Rattle.vrt_model.specs.declared.flat_model.Cover.{Cover}
use Rattle.vrt_model.specs.declared.flat_model.FlatLatch.{FlatLatch}
use Rattle.vrt_model.specs.declared.pairing.PortRole.{PortRole}
use Rattle.vrt_model.specs.declared.pairing.PortRole.TheVariants.{Supply, Clock, Input, Output}
use Rattle.vrt_model.specs.declared.whole.CellFacts.{CellFacts}
use Rattle.whole_ranks.specs.Logic.{IsLogicModel, IsTied}
use Rattle.whole_ranks.specs.WholeCells.{IsInputNet, IsLogicCell, IsOutputAt}

is_input_kind : NetKind → Bool
is_input_kind (SupplyNet value) = false
is_input_kind (ClockNet clock) = false
is_input_kind InputNet = true
is_input_kind Plain = false

-- the port of an input's tie
tie_port : (k : Comparison) (t : Tied) → Among (tied_inputs k) t → (port : CellPort) × Among (ports_of k) port × (port.net ≡ t.net) × (input_signal port.role ≡ Some t.signal)
tie_port k t on =
    let from = among_filter_map (λ (p : CellPort). option_map (λ (signal : ℕ). let tied : Tied = record { net = p.net; signal = signal } in tied) (input_signal p.role)) (ports_of k) t on in
    let parts = by_signal from.0 (input_signal from.0.role) from.2 in
    (from.0, from.1, parts.0, parts.1)
  where
    by_signal : (p : CellPort) (o : Option ℕ) → option_map (λ (signal : ℕ). let tied : Tied = record { net = p.net; signal = signal } in tied) o ≡ Some t
        → (p.net ≡ t.net) × (o ≡ Some t.signal)
    by_signal p None e = absurd (none-some t e)
    by_signal p (Some s) e =
        let one : Tied = record { net = p.net; signal = s } in
        let same : one ≡ t = same_Some one t e in
        (ap (λ (x : Tied). x.net) same, ap (λ (x : Tied). Some x.signal) same)

input_kind : (role : PortRole) (s : ℕ) → input_signal role ≡ Some s → (is_net_role role ≡ true) × (kind_by_role role ≡ InputNet)
input_kind (Supply value) s e = absurd (none-some s e)
input_kind (Clock clock) s e = absurd (none-some s e)
input_kind (Input signal) s e = (refl, refl)
input_kind (Output signal) s e = absurd (none-some s e)

-- no channel may meet the port of an input
not_met : (role : PortRole) → kind_by_role role ≡ InputNet → may_meet_channels role ≡ true → ⊥
unfolding is_input_kind
not_met (Supply value) kind met = false≢true (ap is_input_kind kind)
not_met (Clock clock) kind met = false≢true met
not_met (Input s) kind met = false≢true met
not_met (Output s) kind met = false≢true (ap is_input_kind kind)

no_latch : (latches : List FlatLatch) (l : FlatLatch) → latches ≡ [] → Among latches l → ⊥
no_latch latches l none on = none-some l (subst (λ (ls : List FlatLatch). At ls on.0 l) none on.1)

module _ (cut : Cut) (blif : Blif) (facts : List CellFacts) (i : ℕ) (p : NumberedPlace) (m : ℕ) (step : IsStep cut blif facts i p m)
    (supported : IsSupported cut.top.design blif cut.top.rules p.at.cell m) (formed : IsFormed (compared_at cut.top blif p m)) where
  abbrev q : Comparison
  q = compared_at cut.top blif p m

  no_latches : q.model.latches ≡ []
  no_latches = let f = told cut blif facts i p m step in (f.2.stateless f.3).1

  pub input_net : (t : Tied) → Among (tied_inputs q) t → IsInputNet q.circuit t.net
  input_net t on =
      let port = tie_port q t on in
      let kind = input_kind port.0.role t.signal port.3 in
      let net = port_listed cut blif facts i p m step port.0 port.1 kind.0 in
      (net.1, subst (λ (n : ℕ). At q.circuit.nets n net.1) port.2 net.2, net.3 ∙ kind.1)

  logic_model : (phase : ℕ) → phase < length cut.top.rules.phases → IsLogicModel q.model q.pairing.clocked (tied_inputs q)
  logic_model phase lt = record {
    latches = no_latches;
    acyclic = acyclic_kept (CoverArc q.model) (ModelArc q phase) (λ a b arc. inl arc) (supported.acyclic phase lt).1;
    outputs = λ cover on. covered_below q.model formed.model cover on;
    inputs = λ cover s on there. input_below q.model formed.model cover s on there;
    driven = λ s low.
        elim (driven q.model formed.model s low) [
          | inl input ↦ elim (formed.signals.all s input) [ inl clock ↦ inl clock | inr tied ↦ inr (inl tied) ]
          | inr other ↦ elim other [
            | inl cover ↦ inr (inr cover)
            | inr latch ↦ absurd (no_latch q.model.latches latch.0 no_latches latch.1)
          ]
        ];
    one_cover = λ a b on there same. one_cover q.model formed.model a b on there same;
    one_clock = formed.signals.one_clock;
    one_tie = formed.signals.one_net;
    clocks_apart = λ s clock other.
        elim other [
          | inl tied ↦ formed.signals.apart s clock tied
          | inr cover ↦ covered_input cover.0 cover.1 s cover.2 (formed.signals.clocked s clock)
        ];
    ties_apart = λ s tied cover. covered_input cover.0 cover.1 s cover.2 (formed.signals.tied s tied);
  }
    where
      covered_input : (cover : Cover) → Among q.model.covers cover → (s : ℕ) → cover.output ≡ s → Among (q.model.inputs ++ q.model.clocks) s → ⊥
      covered_input cover on s same input = apart q.model formed.model cover on (subst (λ (n : ℕ). Among (q.model.inputs ++ q.model.clocks) n) (sym same) input)

  abbrev pub split : (depth : ℕ) × (front : List Place) × (back : List Place) × IsSplit cut.top (suc i) p.at depth front back
  split = places_in_stand_together cut.top (suc i) p.at (place_there cut blif facts i p m step)

  -- the port of a net that is an input
  pub input_of : (n : ℕ) → IsInputNet q.circuit n → (port : CellPort) × Among (ports_of q) port × (port.net ≡ n) × (kind_by_role port.role ≡ InputNet)
  unfolding is_input_kind
  input_of n input =
      let port =
      port_of_net cut blif facts i p m step split.0 split.1 split.2 split.3 n input.0 input.1
      (λ plain. false≢true (ap is_input_kind (sym plain ∙ input.2))) (λ value supply. false≢true (ap is_input_kind (sym supply ∙ input.2))) in
      (port.0, port.1, port.2, port.3 ∙ input.2)

  -- no channel meets an input
  free : (n l : ℕ) (d : Device) → IsInputNet q.circuit n → Among (devices_of bare q.circuit) d → ¬ Joins d n l
  free n l d input on joins =
      let port = input_of n input in
      let at_port : Device → Bool = λ e. (e.left.0 == port.0.net) || (e.right.0 == port.0.net) in
      elim (or_cases (may_meet_channels port.0.role) (is_empty (channels_at q.circuit.devices port.0.net))
      (at_all (λ (x : CellPort). may_meet_channels x.role || is_empty (channels_at q.circuit.devices x.net)) (ports_of q) port.1.0 port.0 (keeps_free cut blif facts i p m step) port.1.1)) [
        | inl met ↦ not_met port.0.role port.3 met
        | inr none ↦ nothing_in (channels_at q.circuit.devices port.0.net) d none (among_kept at_port q.circuit.devices d (device_among bare q.circuit d on).0 (touches port.0.net port.2 joins))
      ]
    where
      touches : (x : ℕ) → x ≡ n → Joins d n l → ((d.left.0 == x) || (d.right.0 == x)) ≡ true
      touches x same (inl j) = or_left (d.left.0 == x) (d.right.0 == x) (eq-eqb d.left.0 x (j.0 ∙ sym same))
      touches x same (inr j) = or_right (d.left.0 == x) (d.right.0 == x) (eq-eqb d.right.0 x (j.1 ∙ sym same))

  -- the output of a port is no input
  not_tied : (place : ℕ) (port : CellPort) (s : ℕ) → IsOutputAt q place port s → (s < length q.model.signals) × (¬ IsTied (tied_inputs q) s)
  not_tied place port s out =
      let h = formed.signals.outputs place port s out in
      (h.0, λ tied. h.1 (formed.signals.tied s tied))

  -- each output is observed
  seen : (phase : ℕ) → phase < length cut.top.rules.phases → (place : ℕ) (port : CellPort) (s : ℕ) → IsOutputAt q place port s
      → is_observed_port q.rules (cell_at q.design q.cell).name port.name phase ≡ true
  seen phase lt place port s out =
      port_observed cut blif facts i p m step split.0 split.1 split.2 split.3 phase port lt (place, out.0) (ap is_some out.1)

  no_wholes : q.circuit.wholes ≡ []
  unfolding flat_circuit_of
  no_wholes = refl

  pub logic_cell : (phase : ℕ) → phase < length cut.top.rules.phases → IsLogicCell q phase
  logic_cell phase lt =
      let f = told cut blif facts i p m step in
      record {
        equal = f.2.equal f.1 phase lt;
        logic = logic_model phase lt;
        ranges = record { devices = formed.circuit.devices; holds = formed.circuit.holds; wholes = formed.circuit.wholes };
        wholes = no_wholes;
        holds = no_holds cut blif facts i p m step;
        cared = no_network blif m (may cut blif facts i p m step).cared;
        inputs = input_net;
        free = free;
        outputs = not_tied;
        seen = seen phase lt;
      }

pub chosen_cells_are_logic : ChosenCellsAreLogic
chosen_cells_are_logic cut blif facts i p m phase h step supported lt = logic_cell cut blif facts i p m step supported (formed_cell cut blif facts p.at.cell m h supported) phase lt
