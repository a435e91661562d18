-- Which outputs of a chosen instance are exposed where it comes to be whole, and the laws of such a step.
use Rattle.std.proofs.Common.{◌≡◌, ◌<◌, ◌&&◌, ◌||◌, [], ℕ, suc, not, List, Bool, true, false, length, Option, Some, None, refl, ap, sym, ◌∙◌, subst, inl, inr}
use Rattle.std.specs.Prelude.{is_some, option_and_then, option_map, slice_get, unwrap_or, ◌==◌}
use Rattle.std.proofs.lemmas.Bool.{and_from, and_parts, cases_Bool, eq-eqb, eqb-true, false≢true, not-true, or_cases}
use Rattle.cell_inside.specs.Inside.{Touches}
use Rattle.checked_chain.proofs.StepLaws.{one_more_is_next}
use Rattle.placed_cells.proofs.DepthLaws.{ordered_is_within_depth}
use Rattle.placed_cells.proofs.InstanceLaws.{there}
use Rattle.placed_cells.proofs.SplitLaws.{places_in_stand_together}
use Rattle.placed_cells.specs.Above.{net_above}
use Rattle.placed_cells.specs.Splits.{IsSplit}
use Rattle.replaced_instances.proofs.EqualCells.{channel_there}
use Rattle.replaced_instances.proofs.Exposures.{AreExposed, channel_at_net, touches_by}
use Rattle.replaced_instances.proofs.OutputPorts.{count_below_port}
use Rattle.replaced_instances.proofs.StepHides.{hides, output_observed}
use Rattle.replaced_instances.proofs.StepLeft.{hidden_compared, left_whole}
use Rattle.replaced_instances.proofs.StepPlaced.{placed, ports, shows}
use Rattle.replaced_instances.proofs.StepPorts.{may, no_holds, none, output_drive, output_plain, place_there, port_of_output, rising, tied, told}
use Rattle.replaced_instances.specs.Shown.{ChosenStepHidesItsNets}
use Rattle.replaced_instances.specs.Steps.{ChosenPortsArePlaced, ChosenStepIsLeftWhole, ChosenStepIsPlaced, IsStep, compared_at, compared_at_step, drive_at, exposed_at, is_output_at, output_place}
use Rattle.vrt_model.proofs.Filtered.{filter_among}
use Rattle.vrt_model.proofs.Lists.{one_at}
use Rattle.vrt_model.proofs.Members.{among_any, any_among}
use Rattle.vrt_model.specs.Checked.{IsCircuitWith, before}
use Rattle.vrt_model.specs.CheckedParts.{checked_devices}
use Rattle.vrt_model.specs.Comparison.{CellPort, Comparison, output_signal, ports_of}
use Rattle.vrt_model.specs.Cut.{Cut, NumberedPlace}
use Rattle.vrt_model.specs.Facts.{IsTrueDrive, output_ports}
use Rattle.vrt_model.specs.FlatCircuit.{flat_circuit_of}
use Rattle.vrt_model.specs.Lists.{Among, At}
use Rattle.vrt_model.specs.Path.{level_of_drive}
use Rattle.vrt_model.specs.Unrolled.{Place}
use Rattle.vrt_model.specs.WholeInstances.{OutputAt, all_outputs, channels_at, drive_in, fits_drive, is_output_allowed, meets_gates_only, outputs_of_place}
use Rattle.vrt_model.specs.declared.blif.Blif.{Blif}
use Rattle.vrt_model.specs.declared.circuit.Circuit.{Circuit}
use Rattle.vrt_model.specs.declared.circuit.Device.{Device}
use Rattle.vrt_model.specs.declared.whole.CellFacts.{CellFacts}
use Rattle.vrt_model.specs.declared.whole.Drive.{Drive}
use Rattle.vrt_model.specs.declared.whole.Drive.TheVariants.{Soft, Level}

module _ (cut : Cut) (blif : Blif) (facts : List CellFacts) (i : ℕ) (p : NumberedPlace) (m : ℕ) (step : IsStep cut blif facts i p m) where
  abbrev k : Comparison
  k = compared_at cut.top blif p m

  abbrev outs : List OutputAt
  outs = outputs_of_place cut.top blif facts p

  abbrev devices : List Device
  devices = checked_devices (before cut (suc i))

  abbrev outputs : List OutputAt
  outputs = all_outputs (before cut (suc i)) blif facts

  abbrev exposed : ℕ → Bool
  exposed n = exposed_at cut blif facts i p (compared_at cut.top blif p m) n

  abbrev drive : ℕ → ℕ
  drive n = drive_at facts p (compared_at cut.top blif p m) n

  -- ---- which output is exposed

  port_at : (n : ℕ) (o : OutputAt) → is_output_at k n o ≡ true → (port : CellPort) × At (output_ports k) o.output port × (port.net ≡ n)
  port_at n o e = by_port (slice_get (output_ports k) o.output) refl e
    where
      by_port : (x : Option CellPort) → slice_get (output_ports k) o.output ≡ x → unwrap_or (option_map (λ (port : CellPort). port.net == n) x) false ≡ true
          → (port : CellPort) × At (output_ports k) o.output port × (port.net ≡ n)
      by_port None same f = absurd (false≢true f)
      by_port (Some port) same f = (port, same, eqb-true port.net n f)

  place_is : (j : ℕ) (port : CellPort) → At (output_ports k) j port → output_place k port.net ≡ j
  place_is j port e = count_below_port 2 (output_ports k) j port (rising cut blif facts i p m step) e

  found : (n : ℕ) → exposed n ≡ true → (o : OutputAt) × At outs o.output o × (is_output_at k n o ≡ true) × (meets_gates_only devices outputs o ≡ false)
  found n e =
      let o = any_among (λ (x : OutputAt). is_output_at k n x && not (meets_gates_only devices outputs x)) outs e in
      let both = and_parts (is_output_at k n o.0) (not (meets_gates_only devices outputs o.0)) o.2 in
      let number = (port_of_output cut blif facts i p m step o.1.0 o.0 o.1.1).3 in
      (o.0, subst (λ (j : ℕ). At outs j o.0) (sym number) o.1.1, both.0, not-true (meets_gates_only devices outputs o.0) both.1)

  -- it is the one at the place of the port
  exposed_more : (o : OutputAt) (port : CellPort) → At outs o.output o → At (output_ports k) o.output port → exposed port.net ≡ true → meets_gates_only devices outputs o ≡ false
  exposed_more o port on at e =
      let other = found port.net e in
      let there = port_at port.net other.0 other.2 in
      let number : other.0.output ≡ o.output = sym (place_is other.0.output there.0 there.1) ∙ ap (output_place k) there.2 ∙ place_is o.output port at in
      let same = one_at outs o.output other.0 o (subst (λ (j : ℕ). At outs j other.0) number other.1) on in
      subst (λ (x : OutputAt). meets_gates_only devices outputs x ≡ false) same other.3

  allowed : (o : OutputAt) → Among outs o → is_output_allowed devices outputs o ≡ true
  allowed o on =
      subst (λ (x : Cut). is_output_allowed (checked_devices x) (all_outputs x blif facts) o ≡ true) (one_more_is_next cut i step.chosen) ((may cut blif facts i p m step).allowed o on)

  drive_of : (o : OutputAt) (d : Drive) → fits_drive devices outputs o d ≡ true → d ≡ Level (level_of_drive 0 d)
  drive_of o Soft e = absurd (false≢true e)
  drive_of o (Level level) e = refl

  -- its drive is a level, which fits
  exposed_fits : (o : OutputAt) (port : CellPort) → At outs o.output o → At (output_ports k) o.output port → exposed port.net ≡ true
      → (o.pin.drive ≡ Level (drive port.net)) × (fits_drive devices outputs o (Level (drive port.net)) ≡ true)
  exposed_fits o port on at e =
      let fits : fits_drive devices outputs o o.pin.drive ≡ true =
      elim (or_cases (meets_gates_only devices outputs o) (fits_drive devices outputs o o.pin.drive) (allowed o (o.output, on))) [
        | inl alone ↦ absurd (false≢true (sym (exposed_more o port on at e) ∙ alone))
        | inr fits ↦ fits
      ] in
      let is : o.pin.drive ≡ Level (drive port.net) =
      drive_of o o.pin.drive fits
      ∙ ap (λ (d : Drive). Level (level_of_drive 0 d)) (output_drive cut blif facts i p m step o.output o on ∙ ap (drive_in facts p.at.cell) (sym (place_is o.output port at))) in
      (is, subst (λ (d : Drive). fits_drive devices outputs o d ≡ true) is fits)

  -- ---- what is told of it

  pub told_drive : (j : ℕ) (port : CellPort) (level : ℕ) → At (output_ports k) j port → drive_in facts p.at.cell j ≡ Level level → IsTrueDrive k port (Level level)
  told_drive j port level at e = by_facts (slice_get facts p.at.cell) refl e
    where
      by_drive : (f : CellFacts) (x : Option Drive) → At facts p.at.cell f → slice_get f.drives j ≡ x → unwrap_or x Soft ≡ Level level → IsTrueDrive k port (Level level)
      by_drive f None here same is = absurd (false≢true (ap is_level is))
        where
          is_level : Drive → Bool
          is_level Soft = false
          is_level (Level l) = true
      by_drive f (Some d) here same is = ((step.told p.at.cell f here).compared m step.paired).drives j port (Level level) at (same ∙ ap Some is)

      by_facts : (x : Option CellFacts) → slice_get facts p.at.cell ≡ x → unwrap_or (option_and_then (λ (f : CellFacts). slice_get f.drives j) x) Soft ≡ Level level → IsTrueDrive k port (Level level)
      by_facts None same is = absurd (false≢true (ap is_level is))
        where
          is_level : Drive → Bool
          is_level Soft = false
          is_level (Level l) = true
      by_facts (Some f) same is = by_drive f (slice_get f.drives j) same refl is

  pub exposed_true : (n : ℕ) → exposed n ≡ true → (port : CellPort) × Among (output_ports k) port × (port.net ≡ n) × IsTrueDrive k port (Level (drive n))
  exposed_true n e =
      let o = found n e in
      let port = port_at n o.0 o.2 in
      let there = subst (λ (x : ℕ). exposed x ≡ true) (sym port.2) e in
      let is = (exposed_fits o.0 port.0 o.1 port.1 there).0 in
      let level : drive_in facts p.at.cell o.0.output ≡ Level (drive n) =
      sym (output_drive cut blif facts i p m step o.0.output o.0 o.1) ∙ is ∙ ap (λ (x : ℕ). Level (drive x)) port.2 in
      (port.0, (o.0.output, port.1), port.2, told_drive o.0.output port.0 (drive n) port.1 level)

  -- ---- the exposure

  module _ (some_phase : 0 < length cut.top.rules.phases) (depth : ℕ) (front back : List Place) (split : IsSplit cut.top (suc i) p.at depth front back)
      (c : Circuit) (circuit : IsCircuitWith (before cut i) blif facts c) where
    -- a device of the cell met it before
    met : (o : OutputAt) (port : CellPort) → At outs o.output o → At (output_ports k) o.output port → (d : Device) × Among (channels_at (checked_devices (before cut i)) o.pin.net.0) d
    unfolding flat_circuit_of
    met o port on at =
        let out = filter_among (λ (x : CellPort). is_some (output_signal x.role)) (ports_of k) port (o.output, at) in
        let seen = output_observed cut blif facts i p m step depth front back split 0 port some_phase out.0 out.1 in
        let plain = output_plain cut blif facts i p m step port (o.output, at) in
        let f = told cut blif facts i p m step in
        let d = channel_there k port.net 0 some_phase (f.2.equal f.1) (no_holds cut blif facts i p m step) refl plain.1 seen in
        let own = filter_among (λ (x : Device). (x.left.0 == port.net) || (x.right.0 == port.net)) k.circuit.devices d.0 d.1 in
        let within = split.within (ordered_is_within_depth cut.top cut.top.cell step.netlist.ordered step.netlist.there) in
        let e = there cut.top k.pairing.ports (suc i) p.at depth front back split (tied cut blif facts i p m step) (none cut blif facts i p m step) within c
        (shows cut blif facts i p m step depth front back split c circuit) d.0 own.0 in
        let port_net = port_net_of o port on at in
        let touch : Touches e.0 o.pin.net.0 = elim (touches_by d.0 port.net own.1) [
          | inl left ↦ inl (e.2.left ∙ ap (net_above cut.top p.at) left ∙ sym port_net)
          | inr right ↦ inr (e.2.right ∙ ap (net_above cut.top p.at) right ∙ sym port_net)
        ] in
        (e.0, channel_at_net (checked_devices (before cut i)) [] e.0 o.pin.net.0 (subst (λ (ds : List Device). Among ds e.0) circuit.devices e.1) touch)
      where
        port_net_of : (o : OutputAt) (port : CellPort) → At outs o.output o → At (output_ports k) o.output port → o.pin.net.0 ≡ net_above cut.top p.at port.net
        port_net_of o port on at =
            let h = port_of_output cut blif facts i p m step o.output o on in
            h.2 ∙ ap (λ (x : CellPort). net_above cut.top p.at x.net) (one_at (output_ports k) o.output h.0 port h.1 at)

    pub exposure : AreExposed cut blif facts i p m exposed drive
    exposure = record {
      ports = λ n e. let o = found n e in let port = port_at n o.0 o.2 in (port.0, (o.0.output, port.1), port.2);
      outputs = λ o port on at e.
          (let fits = exposed_fits o port on at e in
          record { more = exposed_more o port on at e; told = fits.0; fits = fits.1; met = met o port on at });
      others = λ o port on at e.
          elim (cases_Bool (meets_gates_only devices outputs o)) [
            | inl alone ↦ alone
            | inr more ↦
                let is : is_output_at k port.net o ≡ true =
                ap (λ (x : Option CellPort). unwrap_or (option_map (λ (y : CellPort). y.net == port.net) x) false) at ∙ eq-eqb port.net port.net refl in
                absurd (false≢true (sym e
                ∙ among_any (λ (x : OutputAt). is_output_at k port.net x && not (meets_gates_only devices outputs x)) outs o (o.output, on)
                (and_from (is_output_at k port.net o) (not (meets_gates_only devices outputs o)) is (ap not more))))
          ];
    }

-- ---- the laws

pub chosen_ports_are_placed : ChosenPortsArePlaced
chosen_ports_are_placed cut blif facts i p m c step some_phase circuit =
    let s = places_in_stand_together cut.top (suc i) p.at (place_there cut blif facts i p m step) in
    let k = compared_at cut.top blif p m in
    ports cut blif facts i p m step s.0 s.1 s.2 s.3 c circuit (exposed_at cut blif facts i p k) (drive_at facts p k) (exposure cut blif facts i p m step some_phase s.0 s.1 s.2 s.3 c circuit)

pub chosen_step_is_placed : ChosenStepIsPlaced
chosen_step_is_placed cut blif facts i p m c step some_phase circuit =
    let s = places_in_stand_together cut.top (suc i) p.at (place_there cut blif facts i p m step) in
    let k = compared_at cut.top blif p m in
    placed cut blif facts i p m step s.0 s.1 s.2 s.3 c circuit (exposed_at cut blif facts i p k) (drive_at facts p k) (exposure cut blif facts i p m step some_phase s.0 s.1 s.2 s.3 c circuit)

pub chosen_step_is_left_whole : ChosenStepIsLeftWhole
chosen_step_is_left_whole cut blif facts i p m depth front back c whole_circuit step some_phase split circuit after =
    let k = compared_at cut.top blif p m in
    left_whole cut blif facts i p m step depth front back split c circuit (exposed_at cut blif facts i p k) (drive_at facts p k)
    (exposure cut blif facts i p m step some_phase depth front back split c circuit)
    (compared_at_step cut blif facts i p k) (hidden_compared k.circuit (exposed_at cut blif facts i p k) (net_above cut.top p.at)) whole_circuit after

pub chosen_step_hides_its_nets : ChosenStepHidesItsNets
chosen_step_hides_its_nets k cut blif facts i p m depth front back whole_circuit phase same lt step split after =
    let q = compared_at cut.top blif p m in
    hides cut blif facts i p m step depth front back split k whole_circuit phase (compared_at_step cut blif facts i p q)
    (λ n e. let j = (hidden_compared q.circuit (exposed_at cut blif facts i p q) (net_above cut.top p.at)).hidden n e in (j.0, sym j.2, j.1)) same lt after
