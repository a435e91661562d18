-- One step of the chain: strengths that nets always have, and outputs that meet gates alone.
use Rattle.std.proofs.Common.{◌≡◌, ℕ, suc, ◌<◌, cond, Bool, true, false, List, length, arith, ap, sym, subst, ◌∙◌, inl, inr}
use Rattle.std.proofs.lemmas.Bool.{cases_Bool, false≢true}
use Rattle.checked_cells.proofs.AllowedOutputs.{IsAllowed, allowed_at, devices_at, outputs_at}
use Rattle.checked_chain.proofs.DriveLaws.{outputs_more}
use Rattle.placed_cells.specs.Above.{net_above}
use Rattle.replaced_cells.proofs.ChainLaws.{chain_keeps_valuations}
use Rattle.replaced_cells.proofs.LevelLaws.{levels_come_from_cells, levels_go_down}
use Rattle.replaced_cells.proofs.SolvedAlike.{hidden_net}
use Rattle.replaced_cells.specs.Levels.{HasLevelAt}
use Rattle.replaced_cells.specs.OneMoreWhole.{IsOneMoreWhole}
use Rattle.replaced_instances.proofs.ChosenSteps.{exposure}
use Rattle.replaced_instances.proofs.PinOutputs.{output_pin, pin_output, settled}
use Rattle.replaced_instances.proofs.StepHides.{remaining_port}
use Rattle.replaced_instances.proofs.StepOutputs.{outputs_behind}
use Rattle.replaced_instances.proofs.StepPorts.{output_plain, plain_output}
use Rattle.replaced_instances.specs.Steps.{compared_at, compared_at_step, drive_at, exposed_at, fresh_place, is_outside_at}
use Rattle.substitution_laws.proofs.AgreementLaws.{agrees_at}
use Rattle.substitution_laws.proofs.ChainLaws.{always_solved, of_chain, step_at}
use Rattle.substitution_laws.proofs.OneMoreLaws.{one_more}
use Rattle.substitution_laws.specs.Agreement.{IsCheckedByFacts}
use Rattle.substitution_laws.specs.Steps.{IsStepOf}
use Rattle.vrt_model.proofs.Lists.{at_front, one_at}
use Rattle.vrt_model.specs.Checked.{IsCircuitWith, before, with_circuit}
use Rattle.vrt_model.specs.Comparison.{CellPort, Comparison, ports_of}
use Rattle.vrt_model.specs.Constraints.{Meets}
use Rattle.vrt_model.specs.Cut.{Cut, NumberedPlace}
use Rattle.vrt_model.specs.Equal.{Agree, IsEqual}
use Rattle.vrt_model.specs.Facts.{HasLevel, output_ports}
use Rattle.vrt_model.specs.Held.{setting_of}
use Rattle.vrt_model.specs.Lists.{Among, At}
use Rattle.vrt_model.specs.State.{Setting}
use Rattle.vrt_model.specs.Unrolled.{Place, Top, all_places}
use Rattle.vrt_model.specs.WholeInstances.{OutputAt, meets_gates_only, outputs_of_place, settled_drive}
use Rattle.vrt_model.specs.declared.blif.Blif.{Blif}
use Rattle.vrt_model.specs.declared.circuit.Circuit.{Circuit}
use Rattle.vrt_model.specs.declared.circuit.Device.{Device}
use Rattle.vrt_model.specs.declared.whole.CellFacts.{CellFacts}
use Rattle.vrt_model.specs.declared.whole.Drive.{Drive}
use Rattle.vrt_model.specs.declared.whole.Drive.TheVariants.{Soft, Level}
use Rattle.vrt_model.specs.declared.whole.WholePin.{WholePin}

-- ---- what is left of a drive

abbrev is_level : Drive → Bool
is_level Soft = false
is_level (Level level) = true

-- it is soft exactly where the output meets gates alone
module _ (devices : List Device) (outputs : List OutputAt) (o : OutputAt) where
  soft_by : (b : Bool) → meets_gates_only devices outputs o ≡ b → cond b Soft o.pin.drive ≡ (settled_drive devices outputs o).drive
  soft_by b e = ap (λ (x : Bool). cond x Soft o.pin.drive) (sym e)

  soft_where_alone : meets_gates_only devices outputs o ≡ true → (settled_drive devices outputs o).drive ≡ Soft
  soft_where_alone alone = sym (soft_by true alone)

  alone_where_soft : IsAllowed devices outputs o → (settled_drive devices outputs o).drive ≡ Soft → meets_gates_only devices outputs o ≡ true
  alone_where_soft (inl alone) soft = alone
  alone_where_soft (inr (level, fits)) soft =
      elim (cases_Bool (meets_gates_only devices outputs o)) [
        | inl alone ↦ alone
        | inr more ↦ absurd (false≢true (ap is_level (sym soft ∙ sym (soft_by false more) ∙ fits.drive)))
      ]

-- ---- one step

module _ (k : Comparison) (cut : Cut) (blif : Blif) (facts : List CellFacts) (c : Circuit) (h : IsCheckedByFacts k cut blif facts c)
    (i : ℕ) (d e : Circuit) (low : suc i < length (all_places cut.top)) (chosen : cut.choice i ≡ true) (before_it : IsCircuitWith (before cut i) blif facts d)
    (after : IsCircuitWith (before cut (suc i)) blif facts e) where
  abbrev t : Top
  t = cut.top

  abbrev pub step : (p : NumberedPlace) × (m : ℕ) × (depth : ℕ) × (front : List Place) × (back : List Place) × IsStepOf k cut blif facts i p m depth front back d e
  step = step_at k cut blif facts c h i d e low chosen before_it after

  abbrev q : Comparison
  q = compared_at t blif step.0 step.1

  abbrev at : ℕ → ℕ
  at n = net_above t step.0.at n

  abbrev pub compared : ℕ → Bool
  compared n = compared_at_step cut blif facts i step.0 (compared_at t blif step.0 step.1) n

  abbrev outs : List OutputAt
  outs = outputs_of_place t blif facts step.0

  abbrev outputs : ℕ → List OutputAt
  outputs n = outputs_at k cut blif facts c h n

  abbrev devices : ℕ → List Device
  devices n = devices_at k cut blif facts c h n

  abbrev IsOne : ℕ → Type 0
  IsOne phase =
      IsOneMoreWhole (with_circuit k d) q phase e at (λ j. j) (fresh_place (before cut i) blif facts q) (is_outside_at t step.2 step.0.at) (compared_at_step cut blif facts i step.0 q)
      (exposed_at cut blif facts i step.0 q) (drive_at facts step.0 q)

  one : (phase : ℕ) → phase < length t.rules.phases → IsOne phase
  one phase lt = one_more k cut blif facts i step.0 step.1 step.2 step.3 step.4 d e step.5 phase lt

  there : (phase : ℕ) → phase < length k.rules.phases → phase < length t.rules.phases
  there phase lt = subst (λ (u : Top). phase < length u.rules.phases) (sym h.top) lt

  some_phase : 0 < length t.rules.phases
  some_phase = h.choice.read.valid.some_phase

  earlier : i < length (all_places cut.top)
  earlier = omega (arith, low)

  -- ---- strengths

  module _ (equal : IsEqual k) where
    settings_same : (phase : ℕ) (bits : List Bool) → setting_of (with_circuit k e) phase bits ≡ setting_of (with_circuit k d) phase bits
    settings_same phase bits =
        (chain_keeps_valuations k blif facts (before cut i) (before cut (suc i)) d e (of_chain k cut blif facts c h i d before_it) (of_chain k cut blif facts c h (suc i) e after)).1.settings phase bits

    met_flat : (phase : ℕ) (bits : List Bool) → Meets (with_circuit k d) phase bits → Meets k phase bits
    met_flat phase bits met = ((agrees_at k cut blif facts c h i d earlier before_it).meets phase bits).1 met

    met_later : (phase : ℕ) (bits : List Bool) → Meets (with_circuit k d) phase bits → Meets (with_circuit k e) phase bits
    met_later phase bits met = ((agrees_at k cut blif facts c h (suc i) e low after).meets phase bits).0 (met_flat phase bits met)

    -- nothing is wrong with the instance whole
    agree_later : (phase : ℕ) (bits : List Bool) → phase < length k.rules.phases → Meets (with_circuit k d) phase bits → Agree (with_circuit k e) phase (setting_of (with_circuit k d) phase bits)
    agree_later phase bits lt met =
        subst (λ (x : Setting). Agree (with_circuit k e) phase x) (settings_same phase bits)
        (((agrees_at k cut blif facts c h (suc i) e low after).agree phase bits lt (met_flat phase bits met)).0 ((equal phase lt).agree bits (met_flat phase bits met)))

    -- a compared net has the strength that it has with the instance whole
    pub goes_down : (n level : ℕ) → compared n ≡ true → HasLevel (with_circuit k e) n level → HasLevel (with_circuit k d) n level
    goes_down n level out has phase bits a s which lt met solves is agrees =
        levels_go_down (with_circuit k d) q phase e at (λ j. j) (fresh_place (before cut i) blif facts q) (is_outside_at t step.2 step.0.at) (compared_at_step cut blif facts i step.0 q)
        (exposed_at cut blif facts i step.0 q) (drive_at facts step.0 q) (setting_of (with_circuit k d) phase bits) n level (one phase (there phase lt))
        (always_solved k cut blif facts c h i d before_it earlier phase bits lt) (agree_later phase bits lt met) out
        (subst (λ (x : Setting). HasLevelAt (with_circuit k e) phase x n level) (settings_same phase bits) (λ b r w. has phase bits b r w lt (met_later phase bits met)))
        a s which solves is agrees

    -- and that of an output of the cell is that in the cell alone
    pub comes_from_cell : (port : CellPort) (level : ℕ) → Among (output_ports q) port → HasLevel q port.net level → HasLevel (with_circuit k d) (at port.net) level
    comes_from_cell port level on has phase bits a s which lt met solves is agrees =
        levels_come_from_cells (with_circuit k d) q phase e at (λ j. j) (fresh_place (before cut i) blif facts q) (is_outside_at t step.2 step.0.at) (compared_at_step cut blif facts i step.0 q)
        (exposed_at cut blif facts i step.0 q) (drive_at facts step.0 q) (setting_of (with_circuit k d) phase bits) port.net level (one phase (there phase lt))
        (always_solved k cut blif facts c h i d before_it earlier phase bits lt) (agree_later phase bits lt met)
        (output_plain cut blif facts i step.0 step.1 step.5.step.chosen port on).1 (λ v b r w. has phase v b r w (there phase lt)) a s which solves is agrees

  -- ---- outputs at gates alone

  there_later : (l : ℕ) (o : OutputAt) → At (outputs i) l o → At (outputs (suc i)) l o
  there_later l o on = subst (λ (xs : List OutputAt). At xs l o) (sym (outputs_behind cut i step.0 step.5.step.chosen.place chosen blif facts)) (at_front (outputs i) outs l o on)

  -- what is left of the drive of an output that was there stays
  drive_stays : (o : OutputAt) → Among (outputs i) o → (settled (before cut i) blif facts o).drive ≡ (settled (before cut (suc i)) blif facts o).drive
  drive_stays o (l, on) =
      let pin = output_pin (before cut i) blif facts d before_it l o on in
      let next = (one 0 some_phase).whole.pins l pin.0 pin.1 in
      let again = pin_output (before cut (suc i)) blif facts e after l next.0 next.1 in
      let same : again.0 ≡ o = one_at (outputs (suc i)) l again.0 o again.1 (there_later l o on) in
      ap (λ (x : WholePin). x.drive) (sym pin.2) ∙ sym next.2.drive ∙ ap (λ (x : WholePin). x.drive) (sym again.2) ∙ ap (λ (x : OutputAt). (settled (before cut (suc i)) blif facts x).drive) same

  -- so it meets gates alone exactly where it did
  pub still_alone : (o : OutputAt) → Among (outputs i) o → meets_gates_only (devices i) (outputs i) o ≡ true → meets_gates_only (devices (suc i)) (outputs (suc i)) o ≡ true
  still_alone o on alone =
      alone_where_soft (devices (suc i)) (outputs (suc i)) o (allowed_at k cut blif facts c h (suc i) low o (outputs_more cut blif facts i step.0 step.5.step.chosen.place chosen o on))
      (sym (drive_stays o on) ∙ soft_where_alone (devices i) (outputs i) o alone)

  pub was_alone : (o : OutputAt) → Among (outputs i) o → meets_gates_only (devices (suc i)) (outputs (suc i)) o ≡ true → meets_gates_only (devices i) (outputs i) o ≡ true
  was_alone o on alone =
      alone_where_soft (devices i) (outputs i) o (allowed_at k cut blif facts c h i earlier o on) (drive_stays o on ∙ soft_where_alone (devices (suc i)) (outputs (suc i)) o alone)

  -- the net of a port of the cell above that is not compared is that of such an output of the instance
  pub hidden_output : (port : CellPort) → Among (ports_of k) port → compared port.net ≡ false
      → (o : OutputAt) × Among outs o × (o.pin.net.0 ≡ port.net) × (meets_gates_only (devices (suc i)) (outputs (suc i)) o ≡ true)
  hidden_output port on hidden =
      let p = step.0 in
      let m = step.1 in
      let is = step.5.step in
      let first = one 0 some_phase in
      let inside = hidden_net (with_circuit k d) q 0 e at (λ j. j) (fresh_place (before cut i) blif facts q) (is_outside_at t step.2 p.at) (compared_at_step cut blif facts i p q)
      (exposed_at cut blif facts i p q) (drive_at facts p q) first port.net hidden in
      let stays = subst (λ (n : ℕ). is_outside_at t step.2 p.at n ≡ true) inside.1 (first.hides.ports port on) in
      let own = plain_output cut blif facts i p m is.chosen inside.0 (remaining_port cut blif facts i p m is.chosen step.2 step.3 step.4 is.split inside.0 inside.2 stays) inside.2 in
      let shut = subst (λ (n : ℕ). exposed_at cut blif facts i p q n ≡ false) (sym own.4) inside.3 in
      let any = is.chosen in (
        own.1,
        (own.1.output, own.3),
        own.5 ∙ sym inside.1,
        (exposure cut blif facts i p m any some_phase step.2 step.3 step.4 is.split d before_it).others own.1 own.0 own.3 own.2 shut,
      )
