-- What outputs of whole instances meet, and which of those of an instance that comes to be whole are exposed.
use Rattle.std.proofs.Common.{◌≡◌, ◌≤◌, ◌&&◌, ◌||◌, ℕ, suc, not, List, Bool, true, false, ap, inl, inr}
use Rattle.std.specs.Prelude.{nat_le, ◌==◌}
use Rattle.std.specs.List.{list_all}
use Rattle.std.proofs.lemmas.Bool.{and_from, and_parts, cases_Bool, eq-eqb, eqb-true, false≢true, leb-true, or_cases, or_left, or_right}
use Rattle.cell_inside.specs.Inside.{Touches}
use Rattle.checked_chain.proofs.DriveLaws.{nothing_in}
use Rattle.replaced_instances.specs.Steps.{compared_at}
use Rattle.vrt_model.proofs.Filtered.{among_kept}
use Rattle.vrt_model.proofs.Members.{at_all}
use Rattle.vrt_model.specs.Checked.{before}
use Rattle.vrt_model.specs.CheckedParts.{checked_devices}
use Rattle.vrt_model.specs.Comparison.{CellPort}
use Rattle.vrt_model.specs.Cut.{Cut, NumberedPlace}
use Rattle.vrt_model.specs.Facts.{output_ports}
use Rattle.vrt_model.specs.Known.{IsPlain}
use Rattle.vrt_model.specs.Lists.{Among, At, is_empty}
use Rattle.vrt_model.specs.WholeInstances.{OutputAt, all_outputs, channels_at, fits_drive, has_level, meets_gates_only, others_at, outputs_of_place}
use Rattle.vrt_model.specs.declared.blif.Blif.{Blif}
use Rattle.vrt_model.specs.declared.circuit.Circuit.{Circuit}
use Rattle.vrt_model.specs.declared.circuit.Device.{Device}
use Rattle.vrt_model.specs.declared.whole.CellFacts.{CellFacts}
use Rattle.vrt_model.specs.declared.whole.Drive.{Drive}
use Rattle.vrt_model.specs.declared.whole.Drive.TheVariants.{Soft, Level}

-- ---- what an output meets

pub touch_test : (d : Device) (n : ℕ) → Touches d n → ((d.left.0 == n) || (d.right.0 == n)) ≡ true
touch_test d n touch =
    elim touch [
      | inl left ↦ or_left (d.left.0 == n) (d.right.0 == n) (eq-eqb d.left.0 n left)
      | inr right ↦ or_right (d.left.0 == n) (d.right.0 == n) (eq-eqb d.right.0 n right)
    ]

pub touches_by : (d : Device) (n : ℕ) → ((d.left.0 == n) || (d.right.0 == n)) ≡ true → Touches d n
touches_by d n e =
    elim (or_cases (d.left.0 == n) (d.right.0 == n) e) [
      | inl left ↦ inl (eqb-true d.left.0 n left)
      | inr right ↦ inr (eqb-true d.right.0 n right)
    ]

module _ (devices : List Device) (outputs : List OutputAt) where
  pub channel_at_net : (e : Device) (n : ℕ) → Among devices e → Touches e n → Among (channels_at devices n) e
  channel_at_net e n there touch = among_kept (λ (d : Device). (d.left.0 == n) || (d.right.0 == n)) devices e there (touch_test e n touch)

  pub other_at : (o other : OutputAt) → Among outputs other → other.pin.net.0 ≡ o.pin.net.0 → ((other.instance == o.instance) && (other.output == o.output)) ≡ false → Among (others_at outputs o) other
  other_at o other there same apart =
      among_kept (λ (x : OutputAt). (x.pin.net.0 == o.pin.net.0) && not ((x.instance == o.instance) && (x.output == o.output))) outputs other there
      (and_from (other.pin.net.0 == o.pin.net.0) (not ((other.instance == o.instance) && (other.output == o.output))) (eq-eqb other.pin.net.0 o.pin.net.0 same) (ap not apart))

  alone_parts : (o : OutputAt) → meets_gates_only devices outputs o ≡ true → (is_empty (channels_at devices o.pin.net.0) ≡ true) × (is_empty (others_at outputs o) ≡ true)
  alone_parts o e = and_parts (is_empty (channels_at devices o.pin.net.0)) (is_empty (others_at outputs o)) e

  -- one that meets gates alone meets no channel and no other output
  pub no_channel_at : (o : OutputAt) (e : Device) → meets_gates_only devices outputs o ≡ true → Among devices e → Touches e o.pin.net.0 → ⊥
  no_channel_at o e gates there touch = nothing_in (channels_at devices o.pin.net.0) e (alone_parts o gates).0 (channel_at_net e o.pin.net.0 there touch)

  pub no_other_at : (o other : OutputAt) → meets_gates_only devices outputs o ≡ true → Among (others_at outputs o) other → ⊥
  no_other_at o other gates there = nothing_in (others_at outputs o) other (alone_parts o gates).1 there

  pub not_alone : (o : OutputAt) (d : Device) → Among (channels_at devices o.pin.net.0) d → meets_gates_only devices outputs o ≡ false
  not_alone o d there =
      elim (cases_Bool (meets_gates_only devices outputs o)) [
        | inr more ↦ more
        | inl gates ↦ absurd (nothing_in (channels_at devices o.pin.net.0) d (alone_parts o gates).0 there)
      ]

  -- one whose drive fits meets devices of at most its level, and outputs of that very drive
  module _ (o : OutputAt) (level : ℕ) (fits : fits_drive devices outputs o (Level level) ≡ true) where
    abbrev low : Device → Bool
    low d = nat_le d.level level

    abbrev same : OutputAt → Bool
    same x = has_level level x.pin.drive

    fit_parts : (list_all low (channels_at devices o.pin.net.0) ≡ true) × (list_all same (others_at outputs o) ≡ true)
    fit_parts = and_parts (list_all low (channels_at devices o.pin.net.0)) (list_all same (others_at outputs o)) fits

    pub channel_low : (e : Device) → Among devices e → Touches e o.pin.net.0 → e.level ≤ level
    channel_low e there touch =
        let on = channel_at_net e o.pin.net.0 there touch in
        leb-true e.level level (at_all low (channels_at devices o.pin.net.0) on.0 e fit_parts.0 on.1)

    level_is : (drive : Drive) → has_level level drive ≡ true → drive ≡ Level level
    level_is Soft e = absurd (false≢true e)
    level_is (Level other) e = ap Level (eqb-true other level e)

    pub other_drive : (other : OutputAt) → Among (others_at outputs o) other → other.pin.drive ≡ Level level
    other_drive other there = level_is other.pin.drive (at_all same (others_at outputs o) there.0 other fit_parts.1 there.1)

-- ---- what is exposed

-- an output of the instance at place i meets more than gates after the step, by this drive; a device met it before
pub record IsExposed (cut : Cut) (blif : Blif) (facts : List CellFacts) (i : ℕ) (level : ℕ) (o : OutputAt) : Type 0 where
  pub more : meets_gates_only (checked_devices (before cut (suc i))) (all_outputs (before cut (suc i)) blif facts) o ≡ false
  pub told : o.pin.drive ≡ Level level
  pub fits : fits_drive (checked_devices (before cut (suc i))) (all_outputs (before cut (suc i)) blif facts) o (Level level) ≡ true
  pub met : (d : Device) × Among (channels_at (checked_devices (before cut i)) o.pin.net.0) d

-- exposed are nets of output ports, with their drives, and the outputs at all others meet gates alone
pub record AreExposed (cut : Cut) (blif : Blif) (facts : List CellFacts) (i : ℕ) (p : NumberedPlace) (m : ℕ) (exposed : ℕ → Bool) (drive : ℕ → ℕ) : Type 0 where
  pub ports : (n : ℕ) → exposed n ≡ true → (port : CellPort) × Among (output_ports (compared_at cut.top blif p m)) port × (port.net ≡ n)
  pub outputs :
      (o : OutputAt) (port : CellPort) → At (outputs_of_place cut.top blif facts p) o.output o → At (output_ports (compared_at cut.top blif p m)) o.output port
      → exposed port.net ≡ true → IsExposed cut blif facts i (drive port.net) o
  pub others :
      (o : OutputAt) (port : CellPort) → At (outputs_of_place cut.top blif facts p) o.output o → At (output_ports (compared_at cut.top blif p m)) o.output port
      → exposed port.net ≡ false → meets_gates_only (checked_devices (before cut (suc i))) (all_outputs (before cut (suc i)) blif facts) o ≡ true

-- compared are all nets but those at which plain nets of the cell are that are not exposed
pub record AreCompared (cell : Circuit) (at : ℕ → ℕ) (exposed compared : ℕ → Bool) : Type 0 where
  pub hidden : (n : ℕ) → compared n ≡ false → (j : ℕ) × IsPlain cell j × (at j ≡ n) × (exposed j ≡ false)
  pub hides : (j : ℕ) → IsPlain cell j → exposed j ≡ false → compared (at j) ≡ false
