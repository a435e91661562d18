-- One step of the chain goes down as the law of firm ground asks.
use Rattle.std.proofs.Common.{◌≡◌, ◌≢◌, ◌⊎◌, ℕ, zero, suc, ◌<◌, ◌||◌, Bool, true, false, cond, List, [], ◌∷◌, length, Some, ap, sym, ◌∙◌, subst, inl, inr}
use Rattle.std.specs.Prelude.{is_some}
use Rattle.std.specs.List.{list_any}
use Rattle.std.proofs.lemmas.Bool.{or_right}
use Rattle.std.proofs.lemmas.Option.{none-some, same_Some}
use Rattle.firm_faults.proofs.StepPartLaws.{replaced_instances_step_down}
use Rattle.firm_faults.specs.Settled.{IsBrokenAt}
use Rattle.firm_faults.specs.StepDown.{HasOneMoreOriginal, HasOneMoreWhole, IsInnerSolution, IsPinOf}
use Rattle.firm_faults.specs.StepParts.{IsReplacedOver, StandsForInstance}
use Rattle.placed_cells.specs.Above.{net_above}
use Rattle.replaced_cells.proofs.States.{pins_plain}
use Rattle.replaced_cells.specs.OneMoreWhole.{IsOneMoreWhole}
use Rattle.replaced_instances.proofs.ChosenOutputs.{only_port, same_port}
use Rattle.replaced_instances.proofs.OutputPorts.{pin_at}
use Rattle.replaced_instances.proofs.StepHides.{remaining_port}
use Rattle.replaced_instances.proofs.StepInstances.{input_role, pin_of_input}
use Rattle.replaced_instances.proofs.StepPorts.{pins_shifted, plain_port}
use Rattle.replaced_instances.specs.Steps.{compared_at, compared_at_step, drive_at, exposed_at, fresh_place, is_outside_at, output_place}
use Rattle.substitution_laws.proofs.FormedCells.{formed_cell}
use Rattle.substitution_laws.proofs.InnerLaws.{inner_or_broken}
use Rattle.substitution_laws.proofs.LogicCells.{input_of}
use Rattle.substitution_laws.proofs.OneMoreLaws.{instance_is, instance_of, one_more}
use Rattle.substitution_laws.proofs.OriginalLaws.{has_one_more_original}
use Rattle.substitution_laws.proofs.WholeCells.{given, inputs_are}
use Rattle.substitution_laws.proofs.WholePins.{has_one_more, pin_behind, pin_there, port_of, x, x_is, x_there}
use Rattle.substitution_laws.specs.StepDowns.{StepsGoDown, whole_instances}
use Rattle.substitution_laws.specs.Steps.{IsStepOf}
use Rattle.vrt_model.proofs.Filtered.{device_among}
use Rattle.vrt_model.proofs.Lists.{map_among, map_at}
use Rattle.vrt_model.proofs.Members.{among_later}
use Rattle.vrt_model.specs.CellRules.{assumed, clock_of_port}
use Rattle.vrt_model.specs.Checked.{before, top_of, with_circuit}
use Rattle.vrt_model.specs.Comparison.{CellPort, Comparison, cell_at, is_observed, phase_at, port_nets, ports_of}
use Rattle.vrt_model.specs.Cut.{Cut, NumberedPlace}
use Rattle.vrt_model.specs.Determined.{IsLinkedTo}
use Rattle.vrt_model.specs.Expressions.{names_in}
use Rattle.vrt_model.specs.FlatCircuit.{flat_instance, net_id}
use Rattle.vrt_model.specs.Known.{HasArc, IsPlain, IsTogether, IsUnknown}
use Rattle.vrt_model.specs.Levels.{source_level}
use Rattle.vrt_model.specs.Lists.{Among, At, has_name}
use Rattle.vrt_model.specs.Path.{level_of_drive}
use Rattle.vrt_model.specs.Places.{named_nets_from}
use Rattle.vrt_model.specs.Reading.{bare, kept}
use Rattle.vrt_model.specs.State.{Setting}
use Rattle.vrt_model.specs.Unrolled.{Place, Top}
use Rattle.vrt_model.specs.WholeInstances.{IsChain, IsWholeAt, Pin, pins_of}
use Rattle.vrt_model.specs.declared.blif.Blif.{Blif}
use Rattle.vrt_model.specs.declared.circuit.Circuit.{Circuit}
use Rattle.vrt_model.specs.declared.circuit.FlatInstance.{FlatInstance}
use Rattle.vrt_model.specs.declared.circuit.FlatNet.{FlatNet}
use Rattle.vrt_model.specs.declared.circuit.NetKind.TheVariants.{Clock as ClockNet, Input as InputNet}
use Rattle.vrt_model.specs.declared.ids.Net.{Net}
use Rattle.vrt_model.specs.declared.rules.ClockRef.{ClockRef}
use Rattle.vrt_model.specs.declared.rules.Expr.{Expr}
use Rattle.vrt_model.specs.declared.rules.Phase.{Phase}
use Rattle.vrt_model.specs.declared.rules.Rules.{Rules}
use Rattle.vrt_model.specs.declared.whole.CellFacts.{CellFacts}
use Rattle.vrt_model.specs.declared.whole.Drive.{Drive}
use Rattle.vrt_model.specs.declared.whole.Whole.{Whole}
use Rattle.vrt_model.specs.declared.whole.WholePin.{WholePin}
use Rattle.whole_solutions.proofs.ObservedCases.{gate_observed}

-- the net of a named port is listed
named_there : (named : List ℕ → Bool) (names : List (List ℕ)) (nets : List Net) (j : ℕ) (name : List ℕ) (net : Net) → At names j name → At nets j net → named name ≡ true → Among (named_nets_from named names nets) net.0
named_there named [] nets j name net e f is = absurd (none-some name e)
named_there named (y ∷ names) [] j name net e f is = absurd (none-some net f)
named_there named (y ∷ names) (m ∷ nets) zero name net e f is =
    let test : named y ≡ true = ap named (same_Some y name e) ∙ is in
    let rest = named_nets_from named names nets in
    subst (λ (ns : List ℕ). Among ns net.0) (ap (λ (b : Bool). cond b (m.0 ∷ rest) rest) (sym test)) (0, ap (λ (z : Net). Some z.0) (same_Some m net f))
named_there named (y ∷ names) (m ∷ nets) (suc j) name net e f is = by_test (named y) (named_there named names nets j name net e f is)
  where
    by_test : (b : Bool) → Among (named_nets_from named names nets) net.0 → Among (cond b (m.0 ∷ named_nets_from named names nets) (named_nets_from named names nets)) net.0
    by_test true on = among_later m.0 (named_nets_from named names nets) net.0 on
    by_test false on = on

module _ (k : Comparison) (cut : Cut) (blif : Blif) (facts : List CellFacts) (i : ℕ) (p : NumberedPlace) (m depth : ℕ) (front back : List Place) (c whole_circuit : Circuit)
    (h : IsStepOf k cut blif facts i p m depth front back c whole_circuit) (phase : ℕ) (lt : phase < length cut.top.rules.phases) where
  abbrev t : Top
  t = cut.top

  abbrev q : Comparison
  q = compared_at cut.top blif p m

  abbrev at : ℕ → ℕ
  at n = net_above cut.top p.at n

  abbrev same : cut.top ≡ top_of k
  same = h.first.top

  abbrev own : Whole
  own = x cut blif facts i p m depth front back c whole_circuit h.step phase

  own_is : IsWholeAt (before cut (suc i)) blif facts p own
  own_is = x_is cut blif facts i p m depth front back c whole_circuit h.step phase

  abbrev fresh : ℕ → ℕ
  fresh n = fresh_place (before cut i) blif facts (compared_at cut.top blif p m) n

  abbrev exposed : ℕ → Bool
  exposed n = exposed_at cut blif facts i p (compared_at cut.top blif p m) n

  abbrev one : IsOneMoreWhole (with_circuit k c) q phase whole_circuit at (λ j. j) (fresh_place (before cut i) blif facts q) (is_outside_at t depth p.at) (compared_at_step cut blif facts i p q) (exposed_at cut blif facts i p q) (drive_at facts p q)
  one = one_more k cut blif facts i p m depth front back c whole_circuit h phase lt

  -- ---- links

  -- a chain of arcs begins at a gate
  chain_gate : (n l : ℕ) (now : Phase) → IsChain (HasArc q.circuit now) n l → is_observed q phase n ≡ true
  chain_gate n l now (s, nets, inl (d, part, gate, unknown), walk) =
      gate_observed q phase n (d, (device_among bare q.circuit d part.3.0).0, gate)
  chain_gate n l now (s, nets, inr (w, link, leads), walk) =
      absurd (none-some w (subst (λ (ws : List Whole). At ws leads.0.0 w) one.cell.wholes leads.0.1))

  port_pin : (port : CellPort) → Among (ports_of q) port → Among (pins_of q p.at) (pin_at at port)
  port_pin port on = subst (λ (pins : List Pin). Among pins (pin_at at port)) (sym (pins_shifted cut blif facts i p m h.step.chosen)) (map_among (pin_at at) (ports_of q) port on)

  linked : (j l n : ℕ) (pin : WholePin) (net : FlatNet) → IsPinOf whole_circuit fresh own l j pin → IsPlain q.circuit l → pin.net.0 ≡ at l → At q.circuit.nets n net → net.kind ≡ InputNet
      → IsChain (HasArc q.circuit (phase_at t.rules phase)) n l
      → (input : WholePin) × Among own.inputs input × (input.net.0 ≡ at n) × IsLinkedTo (phase_at t.rules phase) own input j × (input.observed ≡ true)
  linked j l n pin net here plain is there kind chain =
      let step = h.step in
      let formed = formed_cell cut blif facts p.at.cell m step.choice step.supported in
      let from = input_of cut blif facts i p m step.chosen step.supported formed n (net, there, kind) in
      let signal = input_role from.0.role from.3 in
      let to = port_of cut blif facts i p m depth front back c whole_circuit step phase l (record { whole = own; pin = pin }) here.1 plain is in
      let seen = chain_gate n l (phase_at t.rules phase) chain in
      let input = pin_of_input cut blif facts i p m step.chosen depth front back step.split phase n net lt there kind seen in
      let arcs : IsChain (HasArc q.circuit (phase_at t.rules phase)) from.0.net to.1.net =
      subst (λ (a : ℕ). IsChain (HasArc q.circuit (phase_at t.rules phase)) a to.1.net) (sym from.2) (subst (λ (b : ℕ). IsChain (HasArc q.circuit (phase_at t.rules phase)) n b) (sym to.3) chain) in
      let link =
      (own_is.links m step.chosen.paired).full phase (pin_at at from.0) (pin_at at to.1) pin j lt (port_pin from.0 from.1) (port_pin to.1 (to.0, to.2.0))
      (inl (signal.0, pin.signal, inl (signal.1, to.2.1, inl arcs))) here.0 to.2.1 in
      let inputs = inputs_are cut blif facts step.choice i p m step.chosen step.supported (suc i) whole_circuit step.whole own (x_there cut blif facts i p m depth front back c whole_circuit step phase) own_is in (
        input.0,
        subst (λ (pins : List WholePin). Among pins input.0) (sym inputs) input.1,
        input.3,
        (link.0, link.1, link.2, link.3 ∙ ap net_id (ap at from.2 ∙ sym input.3), link.4),
        input.2,
      )

  -- an exposed output from a net of whose part inside a chain leads to another
  output_linked : (j l y n : ℕ) (pin : WholePin) → IsPinOf whole_circuit fresh own l j pin → IsPlain q.circuit l → pin.net.0 ≡ at l → exposed y ≡ true → y ≢ l
      → IsTogether q.circuit (phase_at t.rules phase) bare y n → IsChain (HasArc q.circuit (phase_at t.rules phase)) n l
      → (from : WholePin) × Among own.outputs from × (from.net.0 ≡ at y) × IsLinkedTo (phase_at t.rules phase) own from j
  output_linked j l y n pin here plain is e apart together chain =
      let step = h.step in
      let now = phase_at t.rules phase in
      let source = one.whole.fresh_pins y e in
      let behind = pin_behind cut blif facts i p m depth front back c whole_circuit step phase (output_place q y) source.0 source.1 in
      let from = port_of cut blif facts i p m depth front back c whole_circuit step phase y source.0 source.1 (one.placed.exposed_plain y e) source.2.net in
      let to = port_of cut blif facts i p m depth front back c whole_circuit step phase l (record { whole = own; pin = pin }) here.1 plain is in
      let apart_there : from.1.place ≢ to.1.place = λ same_place. apart (sym from.3 ∙ ap (λ (x : CellPort). x.net) (same_port q from.1 to.1 (from.0, from.2.0) (to.0, to.2.0) same_place) ∙ to.3) in
      let part : IsTogether q.circuit now bare from.1.net n = subst (λ (a : ℕ). IsTogether q.circuit now bare a n) (sym from.3) together in
      let arcs : IsChain (HasArc q.circuit now) n to.1.net = subst (λ (b : ℕ). IsChain (HasArc q.circuit now) n b) (sym to.3) chain in
      let link =
      (own_is.links m step.chosen.paired).full phase (pin_at at from.1) (pin_at at to.1) pin j lt (port_pin from.1 (from.0, from.2.0)) (port_pin to.1 (to.0, to.2.0))
      (inl (source.0.pin.signal, pin.signal, inr (from.2.1, to.2.1, apart_there, (n, part, arcs)))) here.0 to.2.1 in
      (source.0.pin, behind.1, source.2.net, (link.0, link.1, link.2, link.3 ∙ ap net_id (ap at from.3 ∙ sym source.2.net), link.4))

  -- ---- clocks

  -- the nets that the constraints of the instance name, by the netlist and its rules
  abbrev named_by : Top → List ℕ
  named_by u =
      named_nets_from
      (λ (name : List ℕ).
      list_any (λ (e : Expr). has_name (names_in e) name) (assumed u.rules (cell_at u.design p.at.cell).name phase) || is_some (clock_of_port u.rules (cell_at u.design p.at.cell).name name))
      (cell_at u.design p.at.cell).ports (flat_instance p.at).ports

  clock_named : (n : ℕ) (net : FlatNet) (clock : ClockRef) → At q.circuit.nets n net → net.kind ≡ ClockNet clock → Among (named_by t) (at n)
  clock_named n net clock here kind =
      let g = (given cut blif facts h.step.choice i p m h.step.chosen h.step.supported phase).clocks n net clock here kind in
      let cell = cell_at t.design p.at.cell in
      let listed : At (flat_instance p.at).ports g.0 (net_id (at n)) =
      subst (λ (nets : List Net). At nets g.0 (net_id (at n))) (sym (instance_of k cut blif facts i p m depth front back c whole_circuit h).ports)
      (map_at (λ (y : ℕ). net_id (at y)) (port_nets t.rules cell.ports) g.0 n g.2.tied) in
      named_there
      (λ (name : List ℕ). list_any (λ (e : Expr). has_name (names_in e) name) (assumed t.rules cell.name phase) || is_some (clock_of_port t.rules cell.name name))
      cell.ports (flat_instance p.at).ports g.0 g.1 (net_id (at n)) g.2.called listed
      (or_right (list_any (λ (e : Expr). has_name (names_in e) g.1) (assumed t.rules cell.name phase)) (is_some (clock_of_port t.rules cell.name g.1)) (ap is_some g.3))

  -- ---- the step

  -- an output that is together with an exposed one inside is that one
  alone_there : (n l : ℕ) → exposed n ≡ true → IsPlain q.circuit l → is_outside_at t depth p.at (at l) ≡ true → IsTogether q.circuit (phase_at q.rules phase) kept n l → n ≡ l
  alone_there n l e plain stays together =
      let port = plain_port cut blif facts i p m h.step.chosen l (remaining_port cut blif facts i p m h.step.chosen depth front back h.step.split l plain stays) plain in
      only_port cut blif facts i p m h.step.chosen phase n port.0 lt e port.1
      (subst (λ (x : ℕ). IsTogether q.circuit (phase_at q.rules phase) kept n x) (sym port.2) together)
      ∙ port.2

  pub replaced_over : IsReplacedOver (with_circuit k c) q phase whole_circuit at (λ j. j) (fresh_place (before cut i) blif facts q) (is_outside_at t depth p.at) (compared_at_step cut blif facts i p q) (exposed_at cut blif facts i p q) (drive_at facts p q)
  replaced_over = record {
    design = one.design;
    rules = one.rules;
    output_ports = one.outputs;
    ranges = one.ranges;
    whole_ranges = one.whole_ranges;
    pins_plain = pins_plain whole_circuit (phase_at k.rules phase) (is_observed (with_circuit k whole_circuit) phase) one.whole_determined;
    nets = one.nets;
    placed = one.placed;
    whole = one.whole;
    instances = one.instances;
    hides = one.hides;
    unknown = λ n e. subst (λ (rules : Rules). IsUnknown q.circuit (phase_at rules phase) n) one.rules (one.exposed_outputs n e).unknown;
    alone = λ n l e plain stays together. ap at (alone_there n l e plain stays (subst (λ (rules : Rules). IsTogether q.circuit (phase_at rules phase) kept n l) (sym one.rules) together));
  }

  pub stands_for : (setting : Setting) → StandsForInstance (with_circuit k c) q phase setting whole_circuit at (fresh_place (before cut i) blif facts q) (is_outside_at t depth p.at) (exposed_at cut blif facts i p q) (drive_at facts p q) own (flat_instance p.at)
  stands_for setting = record {
    instance = subst (λ (y : FlatInstance). Among whole_circuit.instances y) (instance_is k cut blif facts i p m depth front back c whole_circuit h phase lt) one.instance.1;
    outputs = λ l plain stays.
        let pin = pin_there cut blif facts i p m depth front back c whole_circuit h.step phase l plain stays in
        (pin.0, pin.1, pin.2, pin.3, λ hidden. ap (λ (d : Drive). level_of_drive (source_level whole_circuit) d) (pin.4 hidden));
    output_links = λ j l y n pin here plain is e apart together chain.
        let now = ap (λ (u : Top). phase_at u.rules phase) same in
        let from = output_linked j l y n pin here plain is e apart (subst (λ (f : Phase). IsTogether q.circuit f bare y n) (sym now) together) (subst (λ (f : Phase). IsChain (HasArc q.circuit f) n l) (sym now) chain) in
        (from.0, from.1, from.2, subst (λ (f : Phase). IsLinkedTo f own from.0 j) now from.3);
    links = λ j l n pin net here plain is there kind chain.
        let now = ap (λ (u : Top). phase_at u.rules phase) same in
        let input = linked j l n pin net here plain is there kind (subst (λ (f : Phase). IsChain (HasArc q.circuit f) n l) (sym now) chain) in
        (input.0, input.1, input.2, subst (λ (f : Phase). IsLinkedTo f own input.0 j) now input.3, input.4);
    clocks = λ n net clock here kind. subst (λ (u : Top). Among (named_by u) (at n)) same (clock_named n net clock here kind);
    inner = λ r is.
        subst (λ (y : FlatInstance). IsBrokenAt (with_circuit k c) phase r.reading y ⊎ ((bits : ℕ → Bool) × IsInnerSolution q.circuit whole_circuit (phase_at k.rules phase) (is_observed q phase) (exposed_at cut blif facts i p q) at (fresh_place (before cut i) blif facts q) (drive_at facts p q) own r bits))
        (instance_is k cut blif facts i p m depth front back c whole_circuit h phase lt)
        (inner_or_broken (with_circuit k c) q phase whole_circuit at (λ j. j) (fresh_place (before cut i) blif facts q) (is_outside_at t depth p.at) (compared_at_step cut blif facts i p q) (exposed_at cut blif facts i p q) (drive_at facts p q) one setting own r is);
  }

pub steps_go_down : StepsGoDown
steps_go_down k cut blif facts i p m depth front back c whole_circuit phase setting lt h =
    let q = compared_at cut.top blif p m in
    let own = x cut blif facts i p m depth front back c whole_circuit h.step phase in (
      own,
      replaced_instances_step_down (with_circuit k c) q phase setting whole_circuit (net_above cut.top p.at) (λ j. j) (fresh_place (before cut i) blif facts q) (is_outside_at cut.top depth p.at)
          (compared_at_step cut blif facts i p q) (exposed_at cut blif facts i p q) (drive_at facts p q) own (flat_instance p.at)
          (replaced_over k cut blif facts i p m depth front back c whole_circuit h phase lt)
          (subst (λ (u : Top). HasOneMoreWhole (phase_at u.rules phase) c whole_circuit (λ j. j) own) h.first.top (has_one_more cut blif facts i p m depth front back c whole_circuit h.step phase k h.first.top lt))
          (stands_for k cut blif facts i p m depth front back c whole_circuit h phase lt setting),
      subst (λ (u : Top). HasOneMoreOriginal (phase_at u.rules phase) c whole_circuit (whole_instances (before cut i)) (whole_instances (before cut (suc i))) own (flat_instance p.at)) h.first.top
          (has_one_more_original cut blif facts i p m depth front back c whole_circuit h.step phase),
    )
