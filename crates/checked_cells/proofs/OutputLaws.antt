-- The outputs of the whole instances of a checked circuit: what they meet, by their drives.
use Rattle.std.proofs.Common.{◌≡◌, ◌⊎◌, ℕ, ◌<◌, cond, Bool, true, false, List, length, refl, ap, sym, subst, ◌∙◌, inl, inr}
use Rattle.std.proofs.lemmas.Bool.{cases_Bool, false≢true}
use Rattle.cell_inside.specs.Inside.{Touches}
use Rattle.checked_cells.proofs.AllowedOutputs.{Fits, allowed_at, apart_at, devices_at, outputs_at, same_or_other}
use Rattle.checked_cells.proofs.WholeLaws.{determined, last, ranges, some_phase}
use Rattle.checked_cells.specs.Outputs.{CheckedOutputsAreAllowed, HasAllowedOutputs, IsAtGates, IsAtLevel, MeetsByDrive}
use Rattle.known_nets.proofs.WiredLaws.{pin_of_whole}
use Rattle.replaced_instances.proofs.Exposures.{no_channel_at, no_other_at}
use Rattle.replaced_instances.proofs.PinOutputs.{pin_output, settled}
use Rattle.replaced_instances.proofs.StepPlaced.{held_with}
use Rattle.replaced_instances.proofs.StepPorts.{may}
use Rattle.substitution_laws.proofs.ChosenLaws.{chosen_instances_are_steps}
use Rattle.substitution_laws.proofs.WholeCells.{whole_chosen}
use Rattle.substitution_laws.specs.Agreement.{IsCheckedByFacts}
use Rattle.vrt_model.proofs.Lists.{one_at}
use Rattle.vrt_model.proofs.Members.{all_among, among_flat_map}
use Rattle.vrt_model.specs.Checked.{before, circuit_with, with_one}
use Rattle.vrt_model.specs.Circuits.{IsDrive, IsNet, IsWhole}
use Rattle.vrt_model.specs.Comparison.{Comparison}
use Rattle.vrt_model.specs.Cut.{Cut, whole_places}
use Rattle.vrt_model.specs.Known.{IsHeld}
use Rattle.vrt_model.specs.Lists.{Among, At}
use Rattle.vrt_model.specs.Path.{Joins}
use Rattle.vrt_model.specs.State.{OutputPin, output_pins}
use Rattle.vrt_model.specs.WholeInstances.{OutputAt, meets_gates_only, others_at, outputs_of_place}
use Rattle.vrt_model.specs.declared.blif.Blif.{Blif}
use Rattle.vrt_model.specs.declared.circuit.Circuit.{Circuit}
use Rattle.vrt_model.specs.declared.circuit.Device.{Device}
use Rattle.vrt_model.specs.declared.ids.Net.{Net}
use Rattle.vrt_model.specs.declared.whole.CellFacts.{CellFacts}
use Rattle.vrt_model.specs.declared.whole.Drive.TheVariants.{Soft, Level}
use Rattle.vrt_model.specs.declared.whole.WholePin.{WholePin}

-- the channel of a device that joins a net to another touches the latter
touches : (d : Device) (n m : ℕ) → Joins d n m → Touches d m
touches d n m (inl j) = inr j.1
touches d n m (inr j) = inl j.0

module _ (k : Comparison) (cut : Cut) (blif : Blif) (facts : List CellFacts) (c : Circuit) (h : IsCheckedByFacts k cut blif facts c) where
  abbrev now : ℕ
  now = (last k cut blif facts c h).0

  abbrev devices : List Device
  devices = devices_at k cut blif facts c h now

  abbrev outputs : List OutputAt
  outputs = outputs_at k cut blif facts c h now

  -- ---- the output of a pin

  -- the output at the place of a pin, of which the pin has the net and the drive that is left to it
  pub record IsOutputOf (j : ℕ) (out : OutputPin) : Type 0 where
    pub output : OutputAt
    pub place : At outputs j output
    pub pin : settled (before cut now) blif facts output ≡ out.pin

  pub output_of : (j : ℕ) (out : OutputPin) → At (output_pins c) j out → IsOutputOf j out
  output_of j out e = (let o = pin_output (before cut now) blif facts c (last k cut blif facts c h).2 j out e in record { output = o.0; place = o.1; pin = o.2 })

  net_is : (j : ℕ) (out : OutputPin) (o : IsOutputOf j out) → o.output.pin.net.0 ≡ out.pin.net.0
  net_is j out o = ap (λ (x : WholePin). x.net.0) o.pin

  drive_is : (j : ℕ) (out : OutputPin) (o : IsOutputOf j out) (b : Bool) → meets_gates_only devices outputs o.output ≡ b → cond b Soft o.output.pin.drive ≡ out.pin.drive
  drive_is j out o b e = ap (λ (x : Bool). cond x Soft o.output.pin.drive) (sym e) ∙ ap (λ (x : WholePin). x.drive) o.pin

  touches_output : (j : ℕ) (out : OutputPin) (o : IsOutputOf j out) (d : Device) (n : ℕ) → Joins d n out.pin.net.0 → Touches d o.output.pin.net.0
  touches_output j out o d n joins = subst (λ (m : ℕ). Touches d m) (sym (net_is j out o)) (touches d n out.pin.net.0 joins)

  listed : (d : Device) → Among c.devices d → Among devices d
  listed d on = subst (λ (ds : List Device). Among ds d) (last k cut blif facts c h).2.devices on

  -- another pin at the net is that of another output there, or is this very pin
  module _ (j l : ℕ) (out other : OutputPin) (o : IsOutputOf j out) (u : IsOutputOf l other) (same : out.pin.net ≡ other.pin.net) where
    nets_same : u.output.pin.net.0 ≡ o.output.pin.net.0
    nets_same = net_is l other u ∙ ap (λ (x : Net). x.0) (sym same) ∙ sym (net_is j out o)

    one_place_or_other : (j ≡ l) ⊎ Among (others_at outputs o.output) u.output
    one_place_or_other =
        elim (same_or_other devices outputs o.output u.output (l, u.place) nets_same) [
          | inl one ↦ inl (apart_at k cut blif facts c h now (last k cut blif facts c h).1 j l o.output u.output o.place u.place (sym one.0, sym one.1))
          | inr more ↦ inr more
        ]

  -- ---- what it meets

  at_gates : (j : ℕ) (out : OutputPin) → (o : IsOutputOf j out) → meets_gates_only devices outputs o.output ≡ true → IsAtGates c j out
  at_gates j out o alone = record {
    channels = λ d n on joins. no_channel_at devices outputs o.output d alone (listed d on) (touches_output j out o d n joins);
    alone = λ l other f same.
        (let u = output_of l other f in
        elim (one_place_or_other j l out other o u same) [
          | inl one ↦ one
          | inr more ↦ absurd (no_other_at devices outputs o.output u.output alone more)
        ]);
  }

  -- the drive of a pin is in range
  in_range : (j : ℕ) (out : OutputPin) → At (output_pins c) j out → IsDrive c out.pin.drive
  in_range j out e =
      let on = pin_of_whole c out (j, e) in
      let whole = all_among (IsWhole c) c.wholes out.whole (ranges k cut blif facts c h).wholes on.0 in
      (all_among (λ (pin : WholePin). IsNet c pin.net × (pin.signal < length out.whole.model.signals) × IsDrive c pin.drive) out.whole.outputs out.pin whole.outputs on.1).2

  at_level : (j : ℕ) (out : OutputPin) (e : At (output_pins c) j out) (level : ℕ) → (o : IsOutputOf j out) → meets_gates_only devices outputs o.output ≡ false → Fits devices outputs o.output level
      → (out.pin.drive ≡ Level level) × IsAtLevel c out level
  at_level j out e level o more fits =
      let is : out.pin.drive ≡ Level level = sym (drive_is j out o false more) ∙ fits.drive in (
        is,
        record {
          range = subst (IsDrive c) is (in_range j out e);
          channels = λ d n on joins. fits.channels d (listed d on) (touches_output j out o d n joins);
          others = λ l other f same.
              (let u = output_of l other f in
              elim (one_place_or_other j l out other o u same) [
                | inl one ↦ ap (λ (x : OutputPin). x.pin.drive) (one_at (output_pins c) l other out f (subst (λ (n : ℕ). At (output_pins c) n out) one e)) ∙ is
                | inr beside ↦ sym (drive_is l other u false (other_more l other u same beside)) ∙ fits.others u.output beside
              ]);
        },
      )
    where
      -- the other output does not meet gates alone either
      other_more : (l : ℕ) (other : OutputPin) (u : IsOutputOf l other) → out.pin.net ≡ other.pin.net → Among (others_at outputs o.output) u.output → meets_gates_only devices outputs u.output ≡ false
      other_more l other u same beside = by_test (cases_Bool (meets_gates_only devices outputs u.output))
        where
          by_test : (meets_gates_only devices outputs u.output ≡ true) ⊎ (meets_gates_only devices outputs u.output ≡ false) → meets_gates_only devices outputs u.output ≡ false
          by_test (inr is) = is
          by_test (inl alone) =
              elim (one_place_or_other l j other out u o (sym same)) [
                | inl one ↦ absurd (false≢true (sym (subst (λ (x : OutputAt). meets_gates_only devices outputs x ≡ false) (one_at outputs j o.output u.output o.place (subst (λ (n : ℕ). At outputs n u.output) one u.place)) more) ∙ alone))
                | inr back ↦ absurd (no_other_at devices outputs u.output o.output alone back)
              ]

  meets : (j : ℕ) (out : OutputPin) → At (output_pins c) j out → MeetsByDrive c j out out.pin.drive
  meets j out e = by_test (cases_Bool (meets_gates_only devices outputs o.output))
    where
      o : IsOutputOf j out
      o = output_of j out e

      by_test : (meets_gates_only devices outputs o.output ≡ true) ⊎ (meets_gates_only devices outputs o.output ≡ false) → MeetsByDrive c j out out.pin.drive
      by_test (inl alone) = subst (MeetsByDrive c j out) (drive_is j out o true alone) (at_gates j out o alone)
      by_test (inr more) = elim (allowed_at k cut blif facts c h now (last k cut blif facts c h).1 o.output (j, o.place)) [
        | inl alone ↦ absurd (false≢true (sym more ∙ alone))
        | inr fits ↦ (let is = at_level j out e fits.0 o more fits.1 in subst (MeetsByDrive c j out) (sym is.0) is.1)
      ]

  -- ---- the law

  -- no hold is at the net of an output
  no_hold : (j : ℕ) (out : OutputPin) → At (output_pins c) j out → IsHeld c out.pin.net.0 → ⊥
  no_hold j out e held =
      let o = output_of j out e in
      let from = among_flat_map (outputs_of_place cut.top blif facts) (whole_places (before cut now)) o.output (j, o.place) in
      let is = whole_chosen cut now from.0 from.1 in
      let step = chosen_instances_are_steps cut blif facts is.0 from.0 h.choice is.1.place is.1.chosen in
      ((may cut blif facts is.0 from.0 step.0 step.1).plain o.output from.2).1
      (subst (IsHeld (circuit_with (with_one (before cut is.0) is.0) blif facts)) (sym (net_is j out o)) (held_with (before cut now) (with_one (before cut is.0) is.0) blif facts c (last k cut blif facts c h).2 refl out.pin.net.0 held))

  pub allowed : HasAllowedOutputs c
  allowed = record {
    plain = λ j out e. (let whole = pin_of_whole c out (j, e) in (determined k cut blif facts c h 0 (some_phase k cut blif facts c h) out.whole whole.0).plain out.pin whole.1);
    unheld = λ j out e held. no_hold j out e held;
    meets = λ j out e. meets j out e;
  }

pub checked_outputs_are_allowed : CheckedOutputsAreAllowed
checked_outputs_are_allowed k cut blif facts c h = allowed k cut blif facts c h
