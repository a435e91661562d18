-- The two scales of levels: where sizes, devices and sources stand, by rules and in a circuit.
use Rattle.std.proofs.Common.{◌≡◌, ℕ, ◌<◌, ◌≤◌, ◌==◌, Bool, true, false, arith, ap, refl, ◌∙◌, inl, inr}
use Rattle.vrt_model.specs.Inputs.{IsLevel}
use Rattle.vrt_model.specs.Levels.{IsDeviceLevel, IsHoldSize, IsHoldSizeAt, IsSourceLevel, fine_scale, least_by, least_level, least_of, most_source, source_by, source_level, source_of, usual_by, usual_level}
use Rattle.vrt_model.specs.declared.circuit.Circuit.{Circuit}
use Rattle.vrt_model.specs.declared.rules.Rules.{Rules}

-- ---- at each scale

low : (fine : Bool) → 1 ≤ least_by fine
low true = omega arith
low false = omega arith

least_under : (fine : Bool) → least_by fine < source_by fine
least_under true = omega arith
least_under false = omega arith

high : (fine : Bool) → source_by fine ≤ most_source
high true = omega arith
high false = omega arith

usual_between : (fine : Bool) → (least_by fine ≤ usual_by fine) × (usual_by fine < source_by fine)
usual_between true = (omega arith, omega arith)
usual_between false = (omega arith, omega arith)

one_of_two : (fine : Bool) → IsSourceLevel (source_by fine)
one_of_two true = inr refl
one_of_two false = inl refl

-- a source level says of which scale it is
least_told : (fine : Bool) → least_by (source_by fine == most_source) ≡ least_by fine
least_told true = refl
least_told false = refl

source_told : (fine : Bool) → source_by (source_by fine == most_source) ≡ source_by fine
source_told true = refl
source_told false = refl

-- ---- in a circuit

pub least_above : (c : Circuit) → 1 ≤ least_level c
least_above c = low (c.source == most_source)

pub least_below : (c : Circuit) → least_level c < source_level c
least_below c = least_under (c.source == most_source)

pub source_most : (c : Circuit) → source_level c ≤ most_source
source_most c = high (c.source == most_source)

pub source_is_one : (c : Circuit) → IsSourceLevel (source_level c)
source_is_one c = one_of_two (c.source == most_source)

-- ---- in two circuits of one source level

module _ (c d : Circuit) (same : c.source ≡ d.source) where
  pub same_source : source_level c ≡ source_level d
  same_source = ap (λ (source : ℕ). source_by (source == most_source)) same

  pub same_least : least_level c ≡ least_level d
  same_least = ap (λ (source : ℕ). least_by (source == most_source)) same

  pub same_device_level : (level : ℕ) → IsDeviceLevel c level → IsDeviceLevel d level
  same_device_level level is =
      let least = is.0 in
      let most = is.1 in (omega (arith, same_least, least), omega (arith, same_source, most))

  pub same_hold_size : (size : ℕ) → IsHoldSize c size → IsHoldSize d size
  same_hold_size size is = (is.0, (let most = is.1 in omega (arith, same_least, most)))

-- ---- by rules

-- the level of devices that no rule names is one of devices
pub usual_within : (rules : Rules) → IsLevel rules (usual_level rules)
usual_within rules = usual_between (rules.scale == fine_scale)

pub rules_source : (rules : Rules) → IsSourceLevel (source_of rules)
rules_source rules = one_of_two (rules.scale == fine_scale)

-- the levels of a circuit are those of its rules
module _ (c : Circuit) (rules : Rules) (by_rules : c.source ≡ source_of rules) where
  pub circuit_least : least_level c ≡ least_of rules
  circuit_least = ap (λ (source : ℕ). least_by (source == most_source)) by_rules ∙ least_told (rules.scale == fine_scale)

  pub circuit_source : source_level c ≡ source_of rules
  circuit_source = ap (λ (source : ℕ). source_by (source == most_source)) by_rules ∙ source_told (rules.scale == fine_scale)

  pub circuit_device_level : (level : ℕ) → IsLevel rules level → IsDeviceLevel c level
  circuit_device_level level is =
      let least = is.0 in
      let most = is.1 in (omega (arith, circuit_least, least), omega (arith, circuit_source, most))

  pub circuit_hold_size : (size : ℕ) → IsHoldSizeAt rules.scale size → IsHoldSize c size
  circuit_hold_size size is = (is.0, (let most = is.1 in omega (arith, circuit_least, most)))
