-- A step of a chain, whatever the outputs of its instance meet: the cell stands in the circuit before, and is whole in the circuit after.
use Rattle.std.proofs.Common.{◌≡◌, ℕ, suc, ◌+◌, ◌<◌, Bool, true, List, length, arith, ap, eqb, subst, sym, refl, ◌∙◌, inl, inr}
use Rattle.std.specs.Prelude.{is_some}
use Rattle.std.proofs.lemmas.Bool.{cases_Bool, eq-eqb, eqb-true, false≢true}
use Rattle.cell_inside.specs.Placed.{IsPlaced}
use Rattle.formed_cells.specs.Formed.{IsFormed}
use Rattle.known_nets.specs.Wired.{IsWired}
use Rattle.placed_cells.specs.Above.{net_above}
use Rattle.placed_cells.specs.Splits.{IsSplit}
use Rattle.replaced_instances.proofs.PinOutputs.{output_pin}
use Rattle.replaced_instances.proofs.StepHides.{output_observed, remaining_port}
use Rattle.replaced_instances.proofs.StepOutputs.{outputs_behind}
use Rattle.replaced_instances.proofs.StepPorts.{no_holds, plain_output, plain_port, told}
use Rattle.replaced_instances.specs.Steps.{IsStep, compared_at, compared_at_step, drive_at, exposed_at, fresh_place, is_outside_at}
use Rattle.vrt_model.proofs.Filtered.{filter_among}
use Rattle.vrt_model.proofs.Lists.{at_back}
use Rattle.vrt_model.specs.Checked.{IsCircuitWith, before}
use Rattle.vrt_model.specs.Comparison.{CellPort, Comparison, output_signal, phase_at, ports_of}
use Rattle.vrt_model.specs.Cut.{Cut, NumberedPlace}
use Rattle.vrt_model.specs.Facts.{output_ports}
use Rattle.vrt_model.specs.FlatCircuit.{flat_circuit_of}
use Rattle.vrt_model.specs.Known.{IsDriven, IsPlain, IsTogether, IsUnknown}
use Rattle.vrt_model.specs.Lists.{Among, At}
use Rattle.vrt_model.specs.Networks.{HasRanges}
use Rattle.vrt_model.specs.Unrolled.{Place, Top}
use Rattle.vrt_model.specs.WholeInstances.{OutputAt, all_outputs, outputs_of_place}
use Rattle.vrt_model.specs.declared.blif.Blif.{Blif}
use Rattle.vrt_model.specs.declared.circuit.Circuit.{Circuit}
use Rattle.vrt_model.specs.declared.rules.Phase.{Phase}
use Rattle.vrt_model.specs.declared.whole.CellFacts.{CellFacts}
use Rattle.vrt_model.specs.declared.whole.WholePin.{WholePin}
use Rattle.trial_cycles.proofs.OpenedNets.{IsOpenedIn, driven_by_pin}
use Rattle.replaced_instances.proofs.ChosenOutputs.{same_port, together_kept}
use Rattle.replaced_instances.proofs.ChosenSteps.{chosen_step_is_left_whole, chosen_step_is_placed, exposed_true}
use Rattle.replaced_instances.proofs.StepLeft.{hidden_compared}
use Rattle.substitution_laws.proofs.EqualStates.{outputs_are_unsettled}
use Rattle.vrt_model.specs.Comparison.{is_observed}
use Rattle.vrt_model.specs.Facts.{IsAloneInside}
use Rattle.vrt_model.specs.Reading.{kept}
use Rattle.whole_solutions.specs.KnownInside.{AreExposedUnsettled}

module _ (cut : Cut) (blif : Blif) (facts : List CellFacts) (i : ℕ) (p : NumberedPlace) (m : ℕ) (step : IsStep cut blif facts i p m)
    (formed : IsFormed (compared_at cut.top blif p m)) (depth : ℕ) (front back : List Place) (split : IsSplit cut.top (suc i) p.at depth front back)
    (c whole_circuit : Circuit) (circuit : IsCircuitWith (before cut i) blif facts c) (after : IsCircuitWith (before cut (suc i)) blif facts whole_circuit)
    (wired : IsWired c) (whole_wired : IsWired whole_circuit) (phase : ℕ) (lt : phase < length cut.top.rules.phases) where
  abbrev t : Top
  t = cut.top

  abbrev q : Comparison
  q = compared_at cut.top blif p m

  abbrev now : Phase
  now = phase_at cut.top.rules phase

  abbrev at : ℕ → ℕ
  at n = net_above cut.top p.at n

  abbrev remaining : ℕ → Bool
  remaining n = is_outside_at cut.top depth p.at n

  abbrev exposed : ℕ → Bool
  exposed n = exposed_at cut blif facts i p (compared_at cut.top blif p m) n

  some_phase : 0 < length t.rules.phases
  some_phase = omega (arith, lt)

  ranges : HasRanges q.circuit
  ranges = record { devices = formed.circuit.devices; holds = formed.circuit.holds; wholes = formed.circuit.wholes }

  placed : IsPlaced q.circuit c at exposed (drive_at facts p q)
  placed = chosen_step_is_placed cut blif facts i p m c step some_phase circuit

  -- where a plain net of the cell remains, an output of the instance drives it
  driven_there : (n : ℕ) → IsPlain q.circuit n → remaining (at n) ≡ true → IsDriven whole_circuit (at n)
  driven_there n plain stays =
      let low = remaining_port cut blif facts i p m step depth front back split n plain stays in
      let found = plain_output cut blif facts i p m step n low plain in
      let o = found.1 in
      let olds = all_outputs (before cut i) blif facts in
      let outs = outputs_of_place t blif facts p in
      let here : At (all_outputs (before cut (suc i)) blif facts) (length olds + o.output) o =
      subst (λ (os : List OutputAt). At os (length olds + o.output) o) (sym (outputs_behind cut i p step.place step.chosen blif facts)) (at_back olds outs o.output o found.3) in
      let pin = output_pin (before cut (suc i)) blif facts whole_circuit after (length olds + o.output) o here in
      driven_by_pin whole_circuit (at n) pin.0 (length olds + o.output, pin.1) (ap (λ (y : WholePin). y.net.0) pin.2 ∙ found.5)

  -- ---- exposed outputs

  -- an exposed output is alone inside, as it is told
  alone_port : (n : ℕ) → exposed n ≡ true → (port : CellPort) × Among (output_ports q) port × (port.net ≡ n) × IsAloneInside q port
  alone_port n e = let port = exposed_true cut blif facts i p m step n e in (port.0, port.1, port.2, port.3.1)

  unsettled : AreExposedUnsettled q.circuit now exposed
  unfolding flat_circuit_of
  unsettled =
      let f = told cut blif facts i p m step in
      outputs_are_unsettled q phase (f.2.equal f.1 phase lt) ranges (no_holds cut blif facts i p m step) refl placed.channels exposed
      (λ n e. let port = alone_port n e in subst (IsUnknown q.circuit now) port.2 (port.3.unknown phase lt))
      (λ n e.
      let port = alone_port n e in
      let listed = filter_among (λ (x : CellPort). is_some (output_signal x.role)) (ports_of q) port.0 port.1 in
      subst (λ (x : ℕ). is_observed q phase x ≡ true) port.2 (output_observed cut blif facts i p m step depth front back split phase port.0 lt listed.0 listed.1))

  alone_there : (l n : ℕ) → exposed l ≡ true → IsPlain q.circuit n → remaining (at n) ≡ true → IsTogether q.circuit now true l n → l ≡ n
  alone_there l n e plain stays t =
      let one = alone_port l e in
      let other = plain_port cut blif facts i p m step n (remaining_port cut blif facts i p m step depth front back split n plain stays) plain in
      let listed = λ (port : CellPort) (on : Among (output_ports q) port). (filter_among (λ (x : CellPort). is_some (output_signal x.role)) (ports_of q) port on).0 in
      elim (cases_Bool (eqb other.0.place one.0.place)) [
        | inl same ↦ sym one.2 ∙ ap (λ (x : CellPort). x.net) (same_port q one.0 other.0 (listed one.0 one.1) (listed other.0 other.1) (sym (eqb-true other.0.place one.0.place same))) ∙ other.2
        | inr apart ↦
            absurd (one.3.alone phase other.0 lt other.1 (λ same. false≢true (sym apart ∙ eq-eqb other.0.place one.0.place same))
            (subst (λ (x : ℕ). IsTogether q.circuit now kept x other.0.net) (sym one.2) (subst (IsTogether q.circuit now kept l) (sym other.2) (together_kept q.circuit now true l n t))))
      ]

  pub step_is_opened : IsOpenedIn q.circuit c whole_circuit now at (λ j. j) (fresh_place (before cut i) blif facts q) remaining (compared_at_step cut blif facts i p q) exposed (drive_at facts p q)
  step_is_opened = record {
    ranges = ranges;
    wired = wired;
    whole_wired = whole_wired;
    placed = placed;
    whole = chosen_step_is_left_whole cut blif facts i p m depth front back c whole_circuit step some_phase split circuit after;
    nets = after.nets ∙ sym circuit.nets;
    hidden = λ n e. (let j = (hidden_compared q.circuit exposed at).hidden n e in (j.0, sym j.2, j.1));
    driven = driven_there;
    unsettled = unsettled;
    alone = alone_there;
  }
