-- Whole instances of the circuits of a chain stand for their cells.
use Rattle.std.proofs.Common.{◌≡◌, ℕ, zero, suc, ◌<◌, ◌&&◌, Bool, true, false, not, List, [], ◌∷◌, map, length, Option, refl, ap, sym, ◌∙◌, subst, arith, inl, inr}
use Rattle.std.specs.Prelude.{drop, filter, nat_lt, option_map, unwrap_or}
use Rattle.std.proofs.lemmas.Bool.{and_from, and_parts, cases_Bool, false≢true}
use Rattle.std.proofs.lemmas.Simd.{map-map}
use Rattle.cell_inside.specs.Placed.{IsSupply}
use Rattle.checked_chain.proofs.ChoiceLaws.{numbered_at}
use Rattle.checked_chain.proofs.OrderLaws.{chosen_are_apart}
use Rattle.checked_chain.proofs.ThereLaws.{whole_before}
use Rattle.placed_cells.proofs.AboveLaws.{instances_are_shifted}
use Rattle.placed_cells.proofs.HoldLaws.{cells_there}
use Rattle.placed_cells.proofs.ListLaws.{zip_right}
use Rattle.placed_cells.proofs.NamedLaws.{assumed_ports_are_there}
use Rattle.placed_cells.specs.Above.{net_above}
use Rattle.replaced_cells.proofs.BrokenLaws.{assumes_constrain, clocks_constrain}
use Rattle.replaced_cells.specs.OneMoreWhole.{all_bits}
use Rattle.replaced_instances.proofs.StepHides.{inputs_at}
use Rattle.replaced_instances.proofs.StepInstances.{front_of, pin_of_input}
use Rattle.replaced_instances.proofs.StepPorts.{may, no_holds, place_there, tied}
use Rattle.replaced_instances.specs.Steps.{IsStep, compared_at}
use Rattle.substitution_laws.proofs.ChosenLaws.{chosen_instances_are_steps}
use Rattle.substitution_laws.proofs.FormedCells.{formed_cell}
use Rattle.substitution_laws.proofs.LogicCells.{chosen_cells_are_logic, input_of, split}
use Rattle.substitution_laws.specs.Chosen.{IsChoiceByFacts}
use Rattle.substitution_laws.specs.Wholes.{WholesAreDetermined, WholesStandForCells}
use Rattle.paired_ports.proofs.PortLists.{net_for_each}
use Rattle.vrt_model.proofs.Filtered.{among_kept, filter_among}
use Rattle.vrt_model.proofs.Lists.{map_among}
use Rattle.vrt_model.proofs.Members.{among_any, among_map, any_among}
use Rattle.vrt_model.specs.CellRules.{is_constrained}
use Rattle.vrt_model.specs.Checked.{IsCircuitWith, before, circuit_with, top_of, with_circuit}
use Rattle.vrt_model.specs.CheckedParts.{checked_devices, checked_instances}
use Rattle.vrt_model.specs.Comparison.{CellPort, Comparison, cell_at, is_observed, phase_at, port_nets, ports_from, ports_of}
use Rattle.vrt_model.specs.Constraints.{given_bit, given_by_kind}
use Rattle.vrt_model.specs.Cut.{Cut, NumberedPlace, is_inside, is_inside_whole, is_whole, numbered_places, whole_places}
use Rattle.vrt_model.specs.Faults.{BreaksConstraint}
use Rattle.vrt_model.specs.FlatCircuit.{flat_instance, net_id}
use Rattle.vrt_model.specs.Held.{setting_of}
use Rattle.vrt_model.specs.Known.{IsPlain}
use Rattle.vrt_model.specs.Lists.{Among, At}
use Rattle.vrt_model.specs.PairedPorts.{Paired, Model, Skipped, Missing}
use Rattle.vrt_model.specs.Reading.{HasGivenBit}
use Rattle.vrt_model.specs.Unrolled.{Place, Top, all_places}
use Rattle.vrt_model.specs.Unsupported.{IsSupported}
use Rattle.vrt_model.specs.WholeInstances.{IsWholeAt, OutputAt, all_outputs, input_pins, outputs_of_place, settled_drive}
use Rattle.vrt_model.specs.declared.blif.Blif.{Blif}
use Rattle.vrt_model.specs.declared.circuit.Circuit.{Circuit}
use Rattle.vrt_model.specs.declared.circuit.FlatInstance.{FlatInstance}
use Rattle.vrt_model.specs.declared.circuit.FlatNet.{FlatNet}
use Rattle.vrt_model.specs.declared.circuit.NetKind.{NetKind}
use Rattle.vrt_model.specs.declared.pairing.PortRole.{PortRole}
use Rattle.vrt_model.specs.declared.whole.CellFacts.{CellFacts}
use Rattle.vrt_model.specs.declared.whole.Whole.{Whole}
use Rattle.vrt_model.specs.declared.whole.WholePin.{WholePin}
use Rattle.whole_ranks.proofs.DeterminedLaws.{whole_cells_are_determined}
use Rattle.whole_ranks.proofs.PlaceLaws.{made_is, whole_places_stand_for_cells}
use Rattle.whole_ranks.specs.WholeCells.{IsInputNet, MeetsAllInputs}
use Rattle.whole_ranks.specs.WholePlaces.{ArePortsAt, AreQuietInputs, HasPlainOutputs}
use Rattle.whole_solutions.proofs.InstanceLaws.{instance_gives_valuation}
use Rattle.whole_solutions.proofs.ObservedCases.{instance_observed, pin_observed}
use Rattle.whole_solutions.proofs.PairedPortLaws.{paired_ports_are_given}
use Rattle.whole_solutions.specs.Instances.{HasGivenPorts}

-- ---- cells without constraints

-- a cell without holds and constraints has a valuation at any bits of its inputs
pub all_inputs : (q : Comparison) (phase : ℕ) → q.circuit.holds ≡ [] → HasGivenPorts q phase → is_constrained q.rules (cell_at q.design q.cell).name ≡ false → MeetsAllInputs q phase
all_inputs q phase none ports free inputs =
    let v = instance_gives_valuation q phase (λ n. n) itself reading (all_bits reading) none ports (record { cell = refl; ports = refl }) (λ place n name port named. refl) supplies unbroken in
    (v.0, v.1, λ n input. sym (at_input (setting_of q phase v.0).inputs n input (v.2 n input.0 input.1)) ∙ given n input)
  where
    reading : ℕ → Bool
    reading n = given_bit q.circuit (phase_at q.rules phase) inputs n

    itself : FlatInstance
    itself = record { path = []; cell = q.cell; ports = map (λ (n : ℕ). net_id n) (port_nets q.rules (cell_at q.design q.cell).ports) }

    by_net : (n : ℕ) (net : FlatNet) → At q.circuit.nets n net → reading n ≡ given_by_kind (phase_at q.rules phase) inputs n net.kind
    by_net n net here = ap (λ (o : Option FlatNet). unwrap_or (option_map (λ (x : FlatNet). given_by_kind (phase_at q.rules phase) inputs n x.kind) o) false) here

    supplies : (n : ℕ) (value : Bool) → IsSupply q.circuit n value → reading n ≡ value
    supplies n value s = by_net n s.0 s.1 ∙ ap (given_by_kind (phase_at q.rules phase) inputs n) s.2

    given : (n : ℕ) → IsInputNet q.circuit n → reading n ≡ inputs n
    given n input = by_net n input.0 input.1 ∙ ap (given_by_kind (phase_at q.rules phase) inputs n) input.2

    at_input : (there : ℕ → Bool) (n : ℕ) (input : IsInputNet q.circuit n) → HasGivenBit (phase_at q.rules phase) there input.0.kind n (reading n) → reading n ≡ there n
    at_input there n input bit = subst (λ (kind : NetKind). HasGivenBit (phase_at q.rules phase) there kind n (reading n)) input.2 bit

    unbroken : ¬ BreaksConstraint q.design q.rules phase (all_bits reading) itself
    unbroken (inl (e, on, _)) = false≢true (sym free ∙ assumes_constrain q.rules (cell_at q.design q.cell).name phase e on)
    unbroken (inr (at, name, net, clock, _, _, is, _)) = false≢true (sym free ∙ clocks_constrain q.rules (cell_at q.design q.cell).name name clock is)

-- ---- ports

-- ports that are listed with their nets have these
nets_of_ports : (first : ℕ) (names : List (List ℕ)) (nets : List ℕ) (roles : List PortRole) → length nets ≡ length names → length roles ≡ length names
    → map (λ (port : CellPort). port.net) (ports_from first names nets roles) ≡ nets
nets_of_ports first [] [] roles a b = refl
nets_of_ports first [] (n ∷ nets) roles a b = absurd (omega (arith, a))
nets_of_ports first (x ∷ names) [] roles a b = absurd (omega (arith, a))
nets_of_ports first (x ∷ names) (n ∷ nets) [] a b = absurd (omega (arith, b))
nets_of_ports first (x ∷ names) (n ∷ nets) (r ∷ roles) a b =
    ap (λ (rest : List ℕ). n ∷ rest) (nets_of_ports (suc first) names nets roles (omega (arith, a)) (omega (arith, b)))

-- ---- instances that are shown

-- what is inside a whole instance stays so where more are whole
pub inside_of_all : (cut : Cut) (n : ℕ) (r : Place) → is_inside_whole (before cut n) r ≡ true → is_inside_whole cut r ≡ true
inside_of_all cut n r e =
    let w = any_among (λ (o : NumberedPlace). is_whole (before cut n).choice o.number && is_inside r o.at) (numbered_places cut.top) e in
    let both = and_parts (is_whole (before cut n).choice w.0.number) (is_inside r w.0.at) w.2 in
    among_any (λ (o : NumberedPlace). is_whole cut.choice o.number && is_inside r o.at) (numbered_places cut.top) w.0 w.1
    (and_from (is_whole cut.choice w.0.number) (is_inside r w.0.at) (whole_before cut n w.0.number both.0) both.1)

-- an instance that is chosen, with its place
pub record IsChosenAt (cut : Cut) (i : ℕ) (p : NumberedPlace) : Type 0 where
  pub place : At (numbered_places cut.top) (suc i) p
  pub chosen : cut.choice i ≡ true

-- the places of a circuit's whole instances are those of chosen ones
pub whole_chosen : (cut : Cut) (n : ℕ) (p : NumberedPlace) → Among (whole_places (before cut n)) p → (i : ℕ) × IsChosenAt cut i p
whole_chosen cut n p on =
    let from = filter_among (λ (q : NumberedPlace). is_whole (before cut n).choice q.number) (numbered_places cut.top) p on in
    by_number p.number from.0.0 refl (numbered_at cut.top from.0.0 p from.0.1).0 from.0.1 from.1
  where
    by_number : (number j : ℕ) → p.number ≡ number → p.number ≡ j → At (numbered_places cut.top) j p → is_whole (before cut n).choice p.number ≡ true → (i : ℕ) × IsChosenAt cut i p
    by_number zero j is at there whole = absurd (false≢true (sym (ap (is_whole (before cut n).choice) is) ∙ whole))
    by_number (suc i) j is at there whole =
        let both = and_parts (cut.choice i) (nat_lt i n) (sym (ap (is_whole (before cut n).choice) is) ∙ whole) in
        (i, record { place = subst (λ (k : ℕ). At (numbered_places cut.top) k p) (sym at ∙ is) there; chosen = both.0 })

module _ (cut : Cut) (blif : Blif) (facts : List CellFacts) (h : IsChoiceByFacts cut blif facts) (i : ℕ) (p : NumberedPlace) (m : ℕ) (step : IsStep cut blif facts i p m)
    (supported : IsSupported cut.top.design blif cut.top.rules p.at.cell m) where
  abbrev t : Top
  t = cut.top

  abbrev q : Comparison
  q = compared_at cut.top blif p m

  abbrev at : ℕ → ℕ
  at n = net_above cut.top p.at n

  abbrev names : List (List ℕ)
  names = (cell_at t.design p.at.cell).ports

  pub ports_at : ArePortsAt q p.at at
  ports_at =
      let nets = port_nets t.rules names in
      (instances_are_shifted t q.pairing.ports p.at (tied cut blif facts i p m step)).0.ports
      ∙ ap (map at) (sym (nets_of_ports 0 names nets q.pairing.ports (net_for_each t.rules 2 names) step.roles.each))
      ∙ map-map at (λ (port : CellPort). port.net) (ports_of q)

  cell_there : p.at.cell < length t.design.cells
  cell_there = cells_there t h.netlist.there p.at (suc i, place_there cut blif facts i p m step)

  pub given : (phase : ℕ) → HasGivenPorts q phase
  given phase =
      paired_ports_are_given t.design blif t.rules p.at.cell m phase supported
      (λ e name there on. assumed_ports_are_there t.design t.rules p.at.cell phase e name h.netlist.design h.netlist.ordered cell_there there on)

  -- the instance stands in each circuit of the chain in which it is whole
  pub shown : (n : ℕ) → Among (checked_instances (before cut n)) (flat_instance p.at)
  shown n =
      let test : Place → Bool = λ r. not (is_inside_whole (before cut n) r) in
      let out : is_inside_whole (before cut n) p.at ≡ false =
      elim (cases_Bool (is_inside_whole (before cut n) p.at)) [
        | inr no_more ↦ no_more
        | inl inside ↦ absurd (false≢true (sym (chosen_are_apart cut blif facts i p step.netlist.design h.tried step.place step.chosen) ∙ inside_of_all cut n p.at inside))
      ] in
      map_among flat_instance (filter test (drop 1 (all_places t))) p.at
      (among_kept test (drop 1 (all_places t)) p.at (i, front_of (all_places t) i p.at (place_there cut blif facts i p m step)) (ap not out))

  module _ (n : ℕ) (c : Circuit) (circuit : IsCircuitWith (before cut n) blif facts c) (w : Whole) (on : Among c.wholes w) (whole : IsWholeAt (before cut n) blif facts p w) where
    pub inputs_are : w.inputs ≡ input_pins q p.at
    inputs_are =
        let one = inputs_at (before cut n) blif facts p w whole.whole in
        one.2 ∙ ap (λ (j : ℕ). input_pins (compared_at t blif p j) p.at) (ap (λ (x : Paired). elim x [ Model j ↦ j | Skipped ↦ 0 | Missing ↦ 0 ]) (sym one.1 ∙ step.paired))

    -- its outputs are at plain nets
    output_there : (o : OutputAt) → Among (outputs_of_place t blif facts p) o → IsPlain c o.pin.net.0
    unfolding circuit_with
    output_there o there =
        let plain = ((may cut blif facts i p m step).plain o there).0 in
        (plain.0, subst (λ (nets : List FlatNet). At nets o.pin.net.0 plain.0) (sym circuit.nets) plain.1, plain.2)

    pub plain_outputs : HasPlainOutputs c w
    plain_outputs pin out =
        let settled : OutputAt → WholePin = λ o. settled_drive (checked_devices (before cut n)) (all_outputs (before cut n) blif facts) o in
        let made = ap (λ (x : Whole). x.outputs) (made_is (before cut n) blif facts p m w step.paired whole) in
        let from = among_map settled (outputs_of_place t blif facts p) pin (subst (λ (pins : List WholePin). Among pins pin) (sym made) out) in
        subst (λ (x : WholePin). IsPlain c x.net.0) from.2 (output_there from.0 from.1)

    module _ (k : Comparison) (same : cut.top ≡ top_of k) (phase : ℕ) (lt : phase < length cut.top.rules.phases) where
      abbrev seen : ℕ → Bool
      seen x = is_observed (with_circuit k c) phase x

      -- an input that is not observed around the instance is not observed inside
      not_inside : (x : ℕ) → IsInputNet q.circuit x → seen (at x) ≡ false → is_observed q phase x ≡ false
      not_inside x input e =
          elim (cases_Bool (is_observed q phase x)) [
            | inr no_more ↦ no_more
            | inl inside ↦
                let s = split cut blif facts i p m step supported (formed_cell cut blif facts p.at.cell m h supported) in
                let pin = pin_of_input cut blif facts i p m step s.0 s.1 s.2 s.3 phase x input.0 lt input.1 input.2 inside in
                let watched = pin_observed (with_circuit k c) phase (at x) (w, pin.0, on, subst (λ (pins : List WholePin). Among pins pin.0) (sym inputs_are) pin.1, pin.2, pin.3) in
                absurd (false≢true (sym e ∙ watched))
          ]

      -- and then the cell has no constraints
      unconstrained : (x : ℕ) → IsInputNet q.circuit x → seen (at x) ≡ false → is_constrained t.rules (cell_at t.design p.at.cell).name ≡ false
      unconstrained x input e =
          elim (cases_Bool (is_constrained t.rules (cell_at t.design p.at.cell).name)) [
            | inr no_more ↦ no_more
            | inl yes_it_is ↦
                let port = input_of cut blif facts i p m step supported (formed_cell cut blif facts p.at.cell m h supported) x input in
                let above : Among p.at.ports (at port.0.net) = subst (λ (nets : List ℕ). Among nets (at port.0.net)) (sym ports_at) (map_among (λ (y : CellPort). at y.net) (ports_of q) port.0 port.1) in
                let watched =
                instance_observed (with_circuit k c) phase (at x) (
                  flat_instance p.at,
                  net_id (at port.0.net),
                  subst (λ (xs : List FlatInstance). Among xs (flat_instance p.at)) (sym circuit.instances) (shown n),
                  map_among net_id p.at.ports (at port.0.net) above,
                  ap at port.2,
                  subst (λ (u : Top). is_constrained u.rules (cell_at u.design p.at.cell).name ≡ true) same yes_it_is,
                ) in
                absurd (false≢true (sym e ∙ watched))
          ]

      pub quiet : AreQuietInputs q phase seen at
      quiet x input e = (not_inside x input e, all_inputs q phase (no_holds cut blif facts i p m step) (given phase) (unconstrained x input e))

pub wholes_stand_for_cells : WholesStandForCells
wholes_stand_for_cells k cut blif facts i p m phase n c w same h step supported lt circuit on whole =
    whole_places_stand_for_cells (before cut n) blif facts p m phase c (is_observed (with_circuit k c) phase) (net_above cut.top p.at) w step.paired whole lt
    (ports_at cut blif facts h i p m step supported)
    (plain_outputs cut blif facts h i p m step supported n c circuit w on whole)
    (quiet cut blif facts h i p m step supported n c circuit w on whole k same phase lt)

pub wholes_are_determined : WholesAreDetermined
wholes_are_determined k cut blif facts phase n c same h lt circuit w on =
    let from = zip_right (IsWholeAt (before cut n) blif facts) (whole_places (before cut n)) c.wholes w circuit.wholes on in
    let p = from.0 in
    let is = whole_chosen cut n p from.1 in
    let step = chosen_instances_are_steps cut blif facts is.0 p h is.1.place is.1.chosen in
    let q = compared_at cut.top blif p step.0 in
    whole_cells_are_determined q phase c (is_observed (with_circuit k c) phase) (net_above cut.top p.at) w
    (chosen_cells_are_logic cut blif facts is.0 p step.0 phase h step.1 step.2 lt)
    (wholes_stand_for_cells k cut blif facts is.0 p step.0 phase n c w same h step.1 step.2 lt circuit on from.2)
