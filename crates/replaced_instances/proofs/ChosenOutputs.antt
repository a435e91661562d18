-- The exposed outputs of a chosen instance inside its cell: what is told of them, their parts and their strengths.
use Rattle.std.proofs.Common.{◌≡◌, ◌<◌, ℕ, suc, List, Bool, true, length, refl, ap, sym, ◌∙◌, subst, arith, inl, inr}
use Rattle.std.specs.Prelude.{is_some, ◌==◌}
use Rattle.std.proofs.lemmas.Bool.{cases_Bool, eq-eqb, eqb-true, false≢true}
use Rattle.placed_cells.proofs.SplitLaws.{places_in_stand_together}
use Rattle.placed_cells.specs.Above.{net_above}
use Rattle.replaced_instances.proofs.ChosenSteps.{exposed_true}
use Rattle.replaced_instances.proofs.EqualCells.{shown_above}
use Rattle.replaced_instances.proofs.OutputPorts.{port_place}
use Rattle.replaced_instances.proofs.StepHides.{output_observed}
use Rattle.replaced_instances.proofs.StepPorts.{no_holds, place_there, told}
use Rattle.replaced_instances.specs.Exposed.{ExposedDrivesAreTrue, ExposedOutputsAreApart, ExposedOutputsHaveDrives}
use Rattle.replaced_instances.specs.Steps.{IsStep, compared_at, drive_at, exposed_at}
use Rattle.vrt_model.proofs.Filtered.{among_devices, device_among, filter_among}
use Rattle.vrt_model.proofs.Lists.{one_at}
use Rattle.vrt_model.specs.Comparison.{CellPort, Comparison, cell_at, is_observed, output_signal, phase_at, port_nets, ports_of}
use Rattle.vrt_model.specs.Cut.{Cut, NumberedPlace}
use Rattle.vrt_model.specs.Facts.{HasLevel, IsAloneInside, IsTrueDrive, output_ports}
use Rattle.vrt_model.specs.FlatCircuit.{flat_circuit_of}
use Rattle.vrt_model.specs.Known.{IsTogether, itself, onward}
use Rattle.vrt_model.specs.Lists.{Among, At}
use Rattle.vrt_model.specs.Reading.{bare, kept}
use Rattle.vrt_model.specs.declared.blif.Blif.{Blif}
use Rattle.vrt_model.specs.declared.circuit.Circuit.{Circuit}
use Rattle.vrt_model.specs.declared.rules.Phase.{Phase}
use Rattle.vrt_model.specs.declared.whole.CellFacts.{CellFacts}
use Rattle.vrt_model.specs.declared.whole.Drive.TheVariants.{Level}

-- a part of the bare circuit lies in one of the kept circuit
pub together_kept : (c : Circuit) (phase : Phase) (which : Bool) (n l : ℕ) → IsTogether c phase which n l → IsTogether c phase kept n l
together_kept c phase which n l (itself plain) = itself plain
together_kept c phase which n l (onward {l = b} d t on joins plain) =
    onward d (together_kept c phase which n b t) (among_devices kept c d (device_among which c d on.0).0 refl, on.1) joins plain

-- ports of a comparison at one place are one
pub same_port : (k : Comparison) (x y : CellPort) → Among (ports_of k) x → Among (ports_of k) y → x.place ≡ y.place → x ≡ y
same_port k x y a b same =
    let names = (cell_at k.design k.cell).ports in
    let nets = port_nets k.rules names in
    let one = port_place 0 names nets k.pairing.ports a.0 x a.1 in
    let other = port_place 0 names nets k.pairing.ports b.0 y b.1 in
    let number : b.0 ≡ a.0 = omega (arith, one, other, same) in
    one_at (ports_of k) a.0 x y a.1 (subst (λ (j : ℕ). At (ports_of k) j y) number b.1)

module _ (cut : Cut) (blif : Blif) (facts : List CellFacts) (i : ℕ) (p : NumberedPlace) (m : ℕ) (step : IsStep cut blif facts i p m) where
  abbrev k : Comparison
  k = compared_at cut.top blif p m

  abbrev exposed : ℕ → Bool
  exposed n = exposed_at cut blif facts i p (compared_at cut.top blif p m) n

  port_there : (port : CellPort) → Among (output_ports k) port → Among (ports_of k) port
  port_there port on = (filter_among (λ (q : CellPort). is_some (output_signal q.role)) (ports_of k) port on).0

  -- an output that is together with one inside is that one
  pub only_port : (phase a : ℕ) (port : CellPort) → phase < length cut.top.rules.phases → exposed a ≡ true → Among (output_ports k) port → IsTogether k.circuit (phase_at k.rules phase) kept a port.net
      → a ≡ port.net
  only_port phase a port lt one on together =
      elim (cases_Bool (port.place == x.0.place)) [
        | inl e ↦ sym x.2 ∙ ap (λ (q : CellPort). q.net) (same_port k x.0 port (port_there x.0 x.1) (port_there port on) (sym (eqb-true port.place x.0.place e)))
        | inr e ↦ absurd (told_of_x.1.alone phase port lt on (λ same. false≢true (sym e ∙ eq-eqb port.place x.0.place same))
            (subst (λ (n : ℕ). IsTogether k.circuit (phase_at k.rules phase) kept n port.net) (sym x.2) together))
      ]
    where
      x : (port : CellPort) × Among (output_ports k) port × (port.net ≡ a) × IsTrueDrive k port (Level (drive_at facts p k a))
      x = exposed_true cut blif facts i p m step a one

      told_of_x : HasLevel k x.0.net (drive_at facts p k a) × IsAloneInside k x.0
      told_of_x = x.3

  -- two that are exposed and together inside are one
  pub one_part : (phase a b : ℕ) (which : Bool) → phase < length cut.top.rules.phases → exposed a ≡ true → exposed b ≡ true → IsTogether k.circuit (phase_at k.rules phase) which a b → a ≡ b
  one_part phase a b which lt one other together =
      let y = exposed_true cut blif facts i p m step b other in
      only_port phase a y.0 lt one y.1 (subst (λ (n : ℕ). IsTogether k.circuit (phase_at k.rules phase) kept a n) (sym y.2) (together_kept k.circuit (phase_at k.rules phase) which a b together)) ∙ y.2

-- ---- the laws

pub exposed_drives_are_true : ExposedDrivesAreTrue
exposed_drives_are_true cut blif facts i p m n step e = exposed_true cut blif facts i p m step n e

pub exposed_outputs_are_apart : ExposedOutputsAreApart
exposed_outputs_are_apart cut blif facts i p m phase which step lt a b one other together =
    ap (net_above cut.top p.at) (one_part cut blif facts i p m step phase a b which lt one other together)

pub exposed_outputs_have_drives : ExposedOutputsHaveDrives
unfolding flat_circuit_of
exposed_outputs_have_drives cut blif facts i p m phase n bits a s which step lt ranges e meets solves state agrees =
    let k = compared_at cut.top blif p m in
    let x = exposed_true cut blif facts i p m step n e in
    let is_told : HasLevel k x.0.net (drive_at facts p k n) × IsAloneInside k x.0 = x.3 in
    let level : HasLevel k n (drive_at facts p k n) = subst (λ (l : ℕ). HasLevel k l (drive_at facts p k n)) x.2 is_told.0 in
    let split = places_in_stand_together cut.top (suc i) p.at (place_there cut blif facts i p m step) in
    let out = filter_among (λ (q : CellPort). is_some (output_signal q.role)) (ports_of k) x.0 x.1 in
    let seen = subst (λ (l : ℕ). is_observed k phase l ≡ true) x.2 (output_observed cut blif facts i p m step split.0 split.1 split.2 split.3 phase x.0 lt out.0 out.1) in
    let f = told cut blif facts i p m step in (
      level phase bits a s which lt meets solves state agrees,
      shown_above k n phase bits a s (drive_at facts p k n) ranges (no_holds cut blif facts i p m step) refl (f.2.equal f.1) lt meets solves state agrees seen
          (level phase bits a s bare lt meets solves state agrees),
    )
