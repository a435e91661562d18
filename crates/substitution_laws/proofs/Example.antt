-- The premises of the laws of substitution can be met together, by a buffer of two inverters whose first one is left whole.
use Rattle.std.proofs.Common.{◌≡◌, ℕ, zero, suc, ◌<◌, true, false, List, [], ◌∷◌, Some, refl, ap, sym, ◌∙◌, subst, arith, inl, inr}
use Rattle.std.specs.Prelude.{codes}
use Rattle.std.specs.List.{AllZip}
use Rattle.std.proofs.lemmas.Bool.{false≢true}
use Rattle.std.proofs.lemmas.Option.{none-some, same_Some}
use Rattle.replaced_cells.specs.Agreement.{AgreesWith}
use Rattle.substitution_laws.proofs.ExampleArcs.{checked_supplied, each_of_one, flat_acyclic, link_is, order, pin_a, pin_y, pins, rises_at_gates, the_output}
use Rattle.substitution_laws.proofs.ExampleCells.{blif, buffer_is, checked, checked_is, cut, design, facts, flat, flat_is, inverter_is, of_buffer, of_inverter, own}
use Rattle.substitution_laws.proofs.ExampleInverter.{each_of_two, inverter_is_equal, port_a, port_y, the_cover}
use Rattle.substitution_laws.proofs.ExampleNetlist.{netlist_is_sound, texts_are_read}
use Rattle.substitution_laws.proofs.ExampleSupported.{buffer_supported, inverter_supported, own_model}
use Rattle.substitution_laws.proofs.FormedCells.{formed_cell}
use Rattle.substitution_laws.proofs.LoneNets.{alone, gate_arc, rising_arcs_are_acyclic}
use Rattle.substitution_laws.proofs.SubstitutionLaws.{substitution_holds}
use Rattle.substitution_laws.specs.Agreement.{IsCheckedByFacts}
use Rattle.substitution_laws.specs.Chosen.{IsChoiceByFacts}
use Rattle.substitution_laws.specs.Substitution.{FirstStands}
use Rattle.vrt_model.proofs.Cells.{base}
use Rattle.vrt_model.specs.Checked.{HasArcWith, IsChoice, IsCircuitWith, MayBeWhole, before, circuit_with, is_cell_allowed, with_circuit, with_one}
use Rattle.vrt_model.specs.CheckedParts.{checked_devices}
use Rattle.vrt_model.specs.Circuits.{IsCircuit}
use Rattle.vrt_model.specs.Comparison.{CellPort, Comparison, is_observed, phase_at}
use Rattle.vrt_model.specs.Cut.{Cut, NumberedPlace, is_inside_whole, numbered_places, whole_places}
use Rattle.vrt_model.specs.Facts.{IsTrueDrive, IsTrueFor, IsTrueOf}
use Rattle.vrt_model.specs.FlatBlif.{all_models, flat_model_of, signals_of, network_names, unrolled_of}
use Rattle.vrt_model.specs.FlatCircuit.{flat_circuit_of, net_id}
use Rattle.vrt_model.specs.Groups.{groups_of}
use Rattle.vrt_model.specs.Known.{HasArc, HasGateArc, IsHeld, IsPlain, IsTogether}
use Rattle.vrt_model.specs.Lists.{Among, At}
use Rattle.vrt_model.specs.PairedPorts.{Model, paired_model, pairing_of}
use Rattle.vrt_model.specs.Unrolled.{all_places, global_nets, net_at, own_nets}
use Rattle.vrt_model.specs.Unsupported.{IsAcyclic, comparison_of}
use Rattle.vrt_model.specs.WholeInstances.{HasLinks, IsWholeAt, Links, OutputAt, Pin, all_outputs, is_named_port, is_output_allowed, outputs_of_place, pins_of, whole_at}
use Rattle.vrt_model.specs.declared.circuit.Circuit.{Circuit}
use Rattle.vrt_model.specs.declared.whole.CellFacts.{CellFacts}
use Rattle.vrt_model.specs.declared.whole.Drive.{Drive}
use Rattle.vrt_model.specs.declared.whole.Drive.TheVariants.{Soft}
use Rattle.vrt_model.specs.declared.whole.Link.{Link}
use Rattle.vrt_model.specs.declared.whole.WholePin.{WholePin}

-- ---- the place of the instance

abbrev the_place : NumberedPlace
the_place = record { number = 1; at = record { cell = 0; path = record { instance = codes "x"; within = codes "b" } ∷ []; ports = 2 ∷ 4 ∷ []; base = 5 } }

abbrev first_place : NumberedPlace
first_place = record { number = 0; at = record { cell = 1; path = []; ports = 2 ∷ 3 ∷ []; base = 4 } }

places_are : numbered_places cut.top ≡ first_place ∷ the_place ∷ []
unfolding all_places net_at own_nets global_nets
places_are = refl

whole_places_are : whole_places cut ≡ the_place ∷ []
unfolding all_places net_at own_nets global_nets
whole_places_are = refl

place_is : (i : ℕ) (p : NumberedPlace) → At (numbered_places cut.top) (suc i) p → (0 ≡ i) × (the_place ≡ p)
place_is i p e = by_number i (subst (λ (ps : List NumberedPlace). At ps (suc i) p) places_are e)
  where
    by_number : (j : ℕ) → At (first_place ∷ the_place ∷ []) (suc j) p → (0 ≡ j) × (the_place ≡ p)
    by_number zero f = (refl, same_Some the_place p f)
    by_number (suc j) f = absurd (none-some p f)

-- ---- the cut with this instance alone

abbrev one_cut : Cut
one_cut = with_one (before cut 0) 0

one_whole_are : whole_places one_cut ≡ the_place ∷ []
unfolding all_places net_at own_nets global_nets
one_whole_are = refl

one_circuit_is : circuit_with one_cut blif facts ≡ checked []
unfolding circuit_with is_observed flat_circuit_of all_places net_at own_nets global_nets flat_model_of unrolled_of network_names all_models signals_of pairing_of groups_of
one_circuit_is = refl

pins_are : pins_of of_inverter the_place.at ≡ pins
pins_are = refl

own_is : whole_at cut blif facts the_place ≡ Some (own [])
unfolding is_observed flat_circuit_of all_places net_at own_nets global_nets flat_model_of unrolled_of network_names all_models signals_of pairing_of groups_of
own_is = refl

outputs_are : outputs_of_place cut.top blif facts the_place ≡ record { instance = 1; output = 0; pin = the_output } ∷ []
unfolding is_observed flat_circuit_of all_places net_at own_nets global_nets flat_model_of unrolled_of network_names all_models signals_of pairing_of groups_of
outputs_are = refl

inverter_model : (m : ℕ) → paired_model design blif base 0 ≡ Model m → m ≡ 0
inverter_model m paired = elim (own_model 0 m paired) [ inl both ↦ both.1 | inr both ↦ absurd (let no = both.0 in omega (arith, no)) ]

-- ---- the facts are true

abbrev the_facts : CellFacts
the_facts = record { equal = true; stateless = true; drives = Soft ∷ [] }

true_for : (k : Comparison) → of_inverter ≡ k → (f : CellFacts) → the_facts ≡ f → IsTrueFor k f
true_for k same f is =
    subst (λ (x : Comparison). IsTrueFor x f) same
    (subst (λ (x : CellFacts). IsTrueFor of_inverter x) is (record { equal = λ e. inverter_is_equal; stateless = λ e. (refl, refl); drives = λ j port drive on here. soft_drive j port drive here }))
  where
    soft_drive : (j : ℕ) (port : CellPort) (drive : Drive) → At (Soft ∷ []) j drive → IsTrueDrive of_inverter port drive
    soft_drive zero port drive e = subst (IsTrueDrive of_inverter port) (same_Some Soft drive e) tt
    soft_drive (suc j) port drive e = absurd (none-some drive e)

facts_are_true : (cell : ℕ) (f : CellFacts) → At facts cell f → IsTrueOf design blif base cell f
facts_are_true zero f e = record {
  supported = λ is. (0, inverter_supported);
  compared = λ m paired.
      let number = inverter_model m paired in
      true_for (comparison_of design blif base 0 m) (sym inverter_is ∙ ap (comparison_of design blif base 0) (sym number)) f (same_Some the_facts f e);
}
facts_are_true (suc cell) f e = absurd (none-some f e)

-- ---- the instance may be whole

arc_rises : (phase n m : ℕ) → HasArcWith one_cut blif facts phase n m → order n < order m
arc_rises phase n m (inl gate) =
    let d = gate_arc (checked []) (phase_at base phase) (checked_supplied []) n m (subst (λ (c : Circuit). HasGateArc c (phase_at base phase) n m) one_circuit_is gate) in
    let up = rises_at_gates d.0 d.1 in
    let low = ap order d.2 in
    let high = ap order d.3 in
    omega (arith, up, low, high)
arc_rises phase n m (inr (p, j, pin, out, on, paired, (from, to, link), net, together)) =
    let place = each_of_one (λ (x : NumberedPlace). the_place ≡ x) the_place refl p (subst (λ (ps : List NumberedPlace). Among ps p) one_whole_are on) in
    let number = inverter_model j (subst (λ (x : NumberedPlace). paired_model design blif base x.at.cell ≡ Model j) (sym place) paired) in
    let same : comparison_of design blif base p.at.cell j ≡ of_inverter =
    ap (λ (x : NumberedPlace). comparison_of design blif base x.at.cell j) (sym place) ∙ ap (comparison_of design blif base 0) number ∙ inverter_is in
    let there : (q : Pin) → Among (pins_of (comparison_of design blif base p.at.cell j) p.at) q → Among pins q =
    λ q here. subst (λ (x : NumberedPlace). Among (pins_of of_inverter x.at) q) (sym place) (subst (λ (k : Comparison). Among (pins_of k p.at) q) same here) in
    let is = link_is phase pin out (there pin from) (there out to) (subst (λ (k : Comparison). Links k phase pin.port out.port) same link) in
    let at : m ≡ out.net.0 = alone (checked []) (phase_at base phase) (checked_supplied []) m out.net.0 (subst (λ (c : Circuit). IsTogether c (phase_at base phase) true m out.net.0) one_circuit_is together) in
    let low = ap order (sym net ∙ is.0) in
    let high = ap order (at ∙ is.1) in
    omega (arith, low, high)

abbrev the_out : OutputAt
the_out = record { instance = 1; output = 0; pin = the_output }

cell_allowed : is_cell_allowed cut.top facts (comparison_of design blif base 0 0) ≡ true
unfolding is_observed flat_circuit_of all_places net_at own_nets global_nets flat_model_of unrolled_of network_names all_models signals_of pairing_of groups_of
cell_allowed = refl

out_allowed : is_output_allowed (checked_devices one_cut) (all_outputs one_cut blif facts) the_out ≡ true
unfolding is_observed flat_circuit_of all_places net_at own_nets global_nets flat_model_of unrolled_of network_names all_models signals_of pairing_of groups_of
out_allowed = refl

out_is : (o : OutputAt) → Among (outputs_of_place cut.top blif facts the_place) o → the_out ≡ o
out_is o on = each_of_one (λ (x : OutputAt). the_out ≡ x) the_out refl o (subst (λ (os : List OutputAt). Among os o) outputs_are on)

out_plain : IsPlain (circuit_with one_cut blif facts) 4 × (¬ IsHeld (circuit_with one_cut blif facts) 4)
out_plain = subst (λ (c : Circuit). IsPlain c 4 × (¬ IsHeld c 4)) (sym one_circuit_is) ((_, refl, refl), λ held. none-some held.0 held.1.1)

may_be_whole : MayBeWhole (before cut 0) blif facts 0 the_place 0
may_be_whole = record {
  place = subst (λ (ps : List NumberedPlace). At ps 1 the_place) (sym places_are) refl;
  paired = refl;
  cell = cell_allowed;
  cared = refl;
  plain = λ o on. subst (λ (x : OutputAt). IsPlain (circuit_with one_cut blif facts) x.pin.net.0 × (¬ IsHeld (circuit_with one_cut blif facts) x.pin.net.0)) (out_is o on) out_plain;
  allowed = λ o on. subst (λ (x : OutputAt). is_output_allowed (checked_devices one_cut) (all_outputs one_cut blif facts) x ≡ true) (out_is o on) out_allowed;
  acyclic = λ phase lt. rising_arcs_are_acyclic (HasArcWith one_cut blif facts phase) order (arc_rises phase);
  flat_acyclic = λ phase lt. subst (λ (c : Circuit). IsAcyclic (HasArc c (phase_at base phase))) (sym flat_is) (flat_acyclic (phase_at base phase));
}

not_inside : is_inside_whole (before cut 0) the_place.at ≡ false
unfolding all_places net_at own_nets global_nets
not_inside = refl

chosen : IsChoice cut blif facts
chosen i p at = (
  λ e.
      let is = place_is i p at in
      subst (λ (x : NumberedPlace). (is_inside_whole (before cut i) x.at ≡ false) × ((m : ℕ) × MayBeWhole (before cut i) blif facts i x m)) is.1
      (subst (λ (n : ℕ). (is_inside_whole (before cut n) the_place.at ≡ false) × ((m : ℕ) × MayBeWhole (before cut n) blif facts n the_place m)) is.0 (not_inside, (0, may_be_whole))),
  λ both. refl,
)

-- ---- the choice

the_choice : IsChoiceByFacts cut blif facts
the_choice = record {
  netlist = netlist_is_sound;
  read = texts_are_read;
  told = facts_are_true;
  tried = chosen;
}

-- ---- the checked circuit

abbrev the_link : Link
the_link = record { phase = codes "all"; from = record { 0 = 2 }; output = 0; named = false }

abbrev links : List Link
links = the_link ∷ []

linked : (q : ℕ) → Links of_inverter q port_a port_y
linked q = inl (0, 1, inl (refl, refl, inr (1, [], (the_cover, (0, refl), (0, refl), refl), refl)))

has_links : HasLinks of_inverter pins (the_output ∷ []) links
has_links = record {
  sound = λ link on.
      let same = each_of_one (λ (x : Link). the_link ≡ x) the_link refl link on in (
        0,
        pin_a,
        pin_y,
        the_output,
        omega arith,
        ap (λ (x : Link). x.phase) (sym same),
        (0, refl),
        (1, refl),
        linked 0,
        ap (λ (x : Link). x.from) (sym same),
        subst (λ (x : Link). At (the_output ∷ []) x.output the_output) same refl,
        refl,
        λ named. absurd (false≢true (ap (λ (x : Link). x.named) same ∙ named)),
      );
  full = λ phase from to pin at lt one two link here signal. full phase from to pin at lt one two link here;
}
  where
    phase_name : (phase : ℕ) → phase < 1 → codes "all" ≡ (phase_at base phase).name
    phase_name zero lt = refl
    phase_name (suc p) lt = absurd (omega (arith, lt))

    at_first : (at : ℕ) (pin : WholePin) → At (the_output ∷ []) at pin → 0 ≡ at
    at_first zero pin e = refl
    at_first (suc at) pin e = absurd (none-some pin e)

    full : (phase : ℕ) (from to : Pin) (pin : WholePin) (at : ℕ) → phase < 1 → Among pins from → Among pins to → Links of_inverter phase from.port to.port → At (the_output ∷ []) at pin
        → (link : Link) × Among links link × (link.phase ≡ (phase_at base phase).name) × (link.from ≡ from.net) × (link.output ≡ at) × (is_named_port of_inverter phase from.port ≡ true → link.named ≡ true)
    full phase from to pin at lt one two link here =
        let is = link_is phase from to one two link in (
          the_link,
          (0, refl),
          phase_name phase lt,
          ap net_id (sym is.0),
          at_first at pin here,
          each_of_two (λ (x : Pin). is_named_port of_inverter phase x.port ≡ true → false ≡ true) pin_a pin_y (λ e. e) (λ e. e) from one,
        )

links_at : (m : ℕ) → paired_model design blif base 0 ≡ Model m → HasLinks (comparison_of design blif base 0 m) (pins_of (comparison_of design blif base 0 m) the_place.at) (the_output ∷ []) links
links_at m paired =
    let number = inverter_model m paired in
    subst (λ (k : Comparison). HasLinks k (pins_of k the_place.at) (the_output ∷ []) links) (sym inverter_is ∙ ap (comparison_of design blif base 0) (sym number)) has_links

whole_there : IsWholeAt cut blif facts the_place (own links)
whole_there = record { whole = own_is; links = links_at }

circuit_is : IsCircuitWith cut blif facts (checked links)
unfolding circuit_with
circuit_is = record {
  nets = ap (λ (c : Circuit). c.nets) (sym checked_is);
  devices = ap (λ (c : Circuit). c.devices) (sym checked_is);
  holds = ap (λ (c : Circuit). c.holds) (sym checked_is);
  instances = ap (λ (c : Circuit). c.instances) (sym checked_is);
  wholes = subst (λ (ps : List NumberedPlace). AllZip (IsWholeAt cut blif facts) ps (own links ∷ [])) (sym whole_places_are) (whole_there, tt);
  source = refl;
}

groups_are : [] ≡ groups_of flat of_buffer.model
unfolding groups_of
groups_are = refl

-- ---- all together

-- an instance is whole
pub instance_is_whole : Among (checked links).wholes (own links)
instance_is_whole = (0, refl)

pub premises_are_met : IsCheckedByFacts of_buffer cut blif facts (checked links)
premises_are_met = record {
  choice = the_choice;
  top = refl;
  flat = sym flat_is;
  groups = groups_are;
  formed = subst (λ (c : Circuit). IsCircuit c) (ap (λ (k : Comparison). k.circuit) buffer_is ∙ sym flat_is) (formed_cell cut blif facts 1 1 the_choice buffer_supported).circuit;
  acyclic = λ phase lt. subst (λ (c : Circuit). IsAcyclic (HasArc c (phase_at base phase))) (sym flat_is) (flat_acyclic (phase_at base phase));
  circuit = circuit_is;
}

-- so the law speaks of it
pub buffer_is_checked : AgreesWith of_buffer (with_circuit of_buffer (checked links)) × FirstStands of_buffer cut (with_circuit of_buffer (checked links))
buffer_is_checked = substitution_holds of_buffer cut blif facts (checked links) premises_are_met
