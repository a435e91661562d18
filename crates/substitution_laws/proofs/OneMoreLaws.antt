-- One step of the chain leaves one more instance whole.
use Rattle.std.proofs.Common.{◌≡◌, ℕ, suc, ◌<◌, ◌≤◌, Bool, true, List, [], map, length, refl, ap, sym, ◌∙◌, subst}
use Rattle.std.specs.Prelude.{All, find, is_some, ◌==◌}
use Rattle.std.specs.List.{enumerate_from}
use Rattle.std.proofs.lemmas.Simd.{map-map}
use Rattle.cell_inside.specs.Inside.{Touches}
use Rattle.placed_cells.proofs.AboveLaws.{instances_are_shifted}
use Rattle.placed_cells.specs.Above.{net_above}
use Rattle.replaced_cells.proofs.ChainLaws.{chain_keeps_valuations}
use Rattle.replaced_instances.proofs.ChosenOutputs.{one_part}
use Rattle.replaced_instances.proofs.ChosenSteps.{chosen_step_hides_its_nets, chosen_step_is_left_whole, chosen_step_is_placed, exposed_true, exposure}
use Rattle.replaced_instances.proofs.Exposures.{channel_low}
use Rattle.replaced_instances.proofs.StepInstances.{step_has_left_instances}
use Rattle.replaced_instances.proofs.StepPorts.{output_of_port, output_plain, tied}
use Rattle.replaced_cells.specs.OneMoreWhole.{IsExposedOutput, IsOneMoreWhole}
use Rattle.replaced_instances.specs.Steps.{IsStep, compared_at, compared_at_step, drive_at, exposed_at, fresh_place, is_outside_at}
use Rattle.substitution_laws.proofs.LogicCells.{logic_cell}
use Rattle.substitution_laws.proofs.SeenNets.{HasPortsWithin, port_range, seen_within}
use Rattle.substitution_laws.proofs.WholeCells.{given, shown, wholes_are_determined}
use Rattle.substitution_laws.proofs.WholePins.{has_cell_pins}
use Rattle.substitution_laws.proofs.WholeRanges.{circuits_have_ranges}
use Rattle.substitution_laws.specs.Steps.{IsStepOf, StepsAreOneMoreWhole}
use Rattle.vrt_model.proofs.Filtered.{among_kept, filter_among}
use Rattle.vrt_model.proofs.Lists.{filter_map_none}
use Rattle.vrt_model.proofs.Members.{all_among}
use Rattle.vrt_model.specs.Checked.{IsCircuitWith, before, top_of, with_circuit}
use Rattle.vrt_model.specs.CheckedParts.{checked_devices}
use Rattle.vrt_model.specs.Circuits.{IsNet}
use Rattle.vrt_model.specs.Comparison.{CellPort, Comparison, cell_at, is_observed, output_signal, phase_at, port_nets, ports_of}
use Rattle.vrt_model.specs.Cut.{Cut, NumberedPlace}
use Rattle.vrt_model.specs.Facts.{HasLevel, IsAloneInside, output_ports}
use Rattle.vrt_model.specs.FlatCircuit.{flat_circuit_of, flat_instance, net_id}
use Rattle.vrt_model.specs.Groups.{Placed, group_of, groups_of, holds_by_net, leaders, placed}
use Rattle.vrt_model.specs.Known.{IsPlain, IsUnknown}
use Rattle.vrt_model.specs.Lists.{Among, At}
use Rattle.vrt_model.specs.Reading.{kept}
use Rattle.vrt_model.specs.Unrolled.{Place, Top}
use Rattle.vrt_model.specs.WholeInstances.{all_outputs, outputs_of_place}
use Rattle.vrt_model.specs.declared.blif.Blif.{Blif}
use Rattle.vrt_model.specs.declared.circuit.Circuit.{Circuit}
use Rattle.vrt_model.specs.declared.circuit.Device.{Device}
use Rattle.vrt_model.specs.declared.circuit.FlatInstance.{FlatInstance}
use Rattle.vrt_model.specs.declared.circuit.FlatNet.{FlatNet}
use Rattle.vrt_model.specs.declared.circuit.Hold.{Hold}
use Rattle.vrt_model.specs.declared.flat_model.FlatModel.{FlatModel}
use Rattle.vrt_model.specs.declared.whole.CellFacts.{CellFacts}
use Rattle.channel_parts.specs.OneSolution.{AreDetermined}
use Rattle.substitution_laws.proofs.FormedCells.{formed_cell}
use Rattle.whole_solutions.specs.Instances.{IsInstanceOf}

-- a circuit without holds has no groups
no_groups : (c : Circuit) (flat : FlatModel) → c.holds ≡ [] → groups_of c flat ≡ []
unfolding groups_of
no_groups c flat none =
    let make : ℕ × Hold → Placed = λ p. record { place = p.0; hold = p.1 } in
    let unplaced : placed c ≡ [] = ap (λ (hs : List Hold). map make (enumerate_from 0 hs)) none in
    let unlisted : holds_by_net c ≡ [] =
    filter_map_none (λ (p : ℕ × FlatNet). find (λ (h : Placed). h.hold.net.0 == p.0) (placed c)) (enumerate_from 0 c.nets) (λ p. ap (find (λ (h : Placed). h.hold.net.0 == p.0)) unplaced) in
    ap (λ (hs : List Placed). map (λ (h : Placed). group_of c flat h.hold.end) (leaders hs)) unlisted

module _ (k : Comparison) (cut : Cut) (blif : Blif) (facts : List CellFacts) (i : ℕ) (p : NumberedPlace) (m depth : ℕ) (front back : List Place) (c whole_circuit : Circuit)
    (h : IsStepOf k cut blif facts i p m depth front back c whole_circuit) where
  abbrev t : Top
  t = cut.top

  abbrev q : Comparison
  q = compared_at cut.top blif p m

  abbrev at : ℕ → ℕ
  at n = net_above cut.top p.at n

  abbrev same : cut.top ≡ top_of k
  same = h.first.top

  -- the ports of the cell alone, and those of its instances
  pub cell_ports : HasPortsWithin q
  unfolding flat_circuit_of
  cell_ports =
      let formed = formed_cell cut blif facts p.at.cell m h.step.choice h.step.supported in
      record {
        ports = λ port on. port_range (record { design = t.design; rules = t.rules; cell = p.at.cell; roles = q.pairing.ports }) port on;
        instances = λ x n on there. all_among (IsNet q.circuit) x.ports n (all_among (λ (y : FlatInstance). All (IsNet q.circuit) y.ports) q.circuit.instances x formed.circuit.instances on) there;
      }

  pub cell_outputs : (port : CellPort) → Among (ports_of q) port → is_some (output_signal port.role) ≡ true → IsPlain q.circuit port.net
  cell_outputs port on out = (output_plain cut blif facts i p m h.step.chosen port (among_kept (λ (x : CellPort). is_some (output_signal x.role)) (ports_of q) port on out)).1

  pub determined_at : (phase n : ℕ) (d : Circuit) → phase < length t.rules.phases → IsCircuitWith (before cut n) blif facts d → AreDetermined d (phase_at k.rules phase) (is_observed (with_circuit k d) phase)
  determined_at phase n d lt circuit =
      subst (λ (u : Top). AreDetermined d (phase_at u.rules phase) (is_observed (with_circuit k d) phase)) same (wholes_are_determined k cut blif facts phase n d same h.step.choice lt circuit)

  pub instance_of : IsInstanceOf q at (flat_instance p.at)
  instance_of = record {
    cell = refl;
    ports =
        ap (map net_id) (instances_are_shifted t q.pairing.ports p.at (tied cut blif facts i p m h.step.chosen)).0.ports
        ∙ map-map net_id at (port_nets t.rules (cell_at t.design p.at.cell).ports);
  }

  -- ---- exposed outputs

  abbrev exposed : ℕ → Bool
  exposed n = exposed_at cut blif facts i p (compared_at cut.top blif p m) n

  abbrev drive : ℕ → ℕ
  drive n = drive_at facts p (compared_at cut.top blif p m) n

  any : IsStep cut blif facts i p m
  any = h.step.chosen

  some_phase : 0 < length t.rules.phases
  some_phase = h.step.choice.read.valid.some_phase

  -- what stays at one has at most its drive
  exposed_low : (n : ℕ) → exposed n ≡ true → (e : Device) → Among whole_circuit.devices e → Touches e (at n) → e.level ≤ drive n
  exposed_low n is e on touch =
      let x = exposed_true cut blif facts i p m any n is in
      let o = output_of_port cut blif facts i p m h.step.chosen x.1.0 x.0 x.1.1 in
      let devices = checked_devices (before cut (suc i)) in
      let outputs = all_outputs (before cut (suc i)) blif facts in
      let there = subst (λ (j : ℕ). At (outputs_of_place t blif facts p) j o.0) (sym o.3) o.1 in
      let port = subst (λ (j : ℕ). At (output_ports q) j x.0) (sym o.3) x.1.1 in
      let own = (exposure cut blif facts i p m any some_phase depth front back h.step.split c h.step.circuit).outputs o.0 x.0 there port (subst (λ (l : ℕ). exposed l ≡ true) (sym x.2) is) in
      subst (λ (l : ℕ). e.level ≤ drive l) x.2
      (channel_low devices outputs o.0 (drive x.0.net) own.fits e (subst (λ (ds : List Device). Among ds e) h.step.whole.devices on) (subst (λ (l : ℕ). Touches e l) (ap at (sym x.2) ∙ sym o.2) touch))

  exposed_output : (phase n : ℕ) → phase < length t.rules.phases → exposed n ≡ true → IsExposedOutput q phase whole_circuit at exposed drive n
  exposed_output phase n lt is =
      let x = exposed_true cut blif facts i p m any n is in
      let is_told : HasLevel q x.0.net (drive n) × IsAloneInside q x.0 = x.3 in
      let level : HasLevel q n (drive n) = subst (λ (l : ℕ). HasLevel q l (drive n)) x.2 is_told.0 in
      let out = filter_among (λ (y : CellPort). is_some (output_signal y.role)) (ports_of q) x.0 x.1 in
      record {
        port = (x.0, out.0, out.1, x.2);
        level = λ bits a s which meets solves state agrees. level phase bits a s which lt meets solves state agrees;
        below = λ e on touch. exposed_low n is e on touch;
        unknown = subst (λ (l : ℕ). IsUnknown q.circuit (phase_at q.rules phase) l) x.2 (is_told.1.unknown phase lt);
        alone = λ l other together. sym (one_part cut blif facts i p m any phase n l kept lt is other together);
      }

  -- ---- the step

  pub one_more : (phase : ℕ) → phase < length t.rules.phases
      → IsOneMoreWhole (with_circuit k c) q phase whole_circuit at (λ j. j) (fresh_place (before cut i) blif facts q) (is_outside_at t depth p.at) (compared_at_step cut blif facts i p q) (exposed_at cut blif facts i p q) (drive_at facts p q)
  one_more phase lt =
      let step = h.step in
      let cell = logic_cell cut blif facts i p m step.chosen step.supported (formed_cell cut blif facts p.at.cell m step.choice step.supported) phase lt in
      let both = (chain_keeps_valuations k blif facts (before cut i) (before cut (suc i)) c whole_circuit h.first h.next).0 in
      record {
        design = ap (λ (u : Top). u.design) same;
        rules = ap (λ (u : Top). u.rules) same;
        cell = cell;
        groups = no_groups q.circuit q.model cell.holds;
        given = given cut blif facts step.choice i p m step.chosen step.supported phase;
        within = λ n seen. seen_within q phase n cell.ranges cell_ports seen;
        outputs = cell_outputs;
        placed = chosen_step_is_placed cut blif facts i p m c any some_phase step.circuit;
        whole = chosen_step_is_left_whole cut blif facts i p m depth front back c whole_circuit any some_phase step.split step.circuit step.whole;
        instances = step_has_left_instances k cut blif facts i p m depth front back c whole_circuit phase same lt step.chosen step.split step.circuit step.whole;
        hides = chosen_step_hides_its_nets (with_circuit k c) cut blif facts i p m depth front back whole_circuit phase same lt any step.split step.whole;
        instance = (
          flat_instance p.at,
          subst (λ (xs : List FlatInstance). Among xs (flat_instance p.at)) (sym step.whole.instances) (shown cut blif facts step.choice i p m step.chosen step.supported (suc i)),
          instance_of,
        );
        pins = has_cell_pins cut blif facts i p m depth front back c whole_circuit step phase k same lt;
        exposed_outputs = λ n e. exposed_output phase n lt e;
        nets = both.nets;
        enters = both.enters;
        held_groups = both.held_groups;
        ranges = circuits_have_ranges cut blif facts i c step.choice h.flat h.first.ends step.circuit;
        whole_ranges = circuits_have_ranges cut blif facts (suc i) whole_circuit step.choice h.flat h.next.ends step.whole;
        determined = determined_at phase i c lt step.circuit;
        whole_determined = determined_at phase (suc i) whole_circuit lt step.whole;
      }

  pub instance_is : (phase : ℕ) (lt : phase < length t.rules.phases) → (one_more phase lt).instance.0 ≡ flat_instance p.at
  unfolding one_more
  instance_is phase lt = refl

pub steps_are_one_more_whole : StepsAreOneMoreWhole
steps_are_one_more_whole k cut blif facts i p m depth front back c whole_circuit phase lt h = one_more k cut blif facts i p m depth front back c whole_circuit h phase lt
