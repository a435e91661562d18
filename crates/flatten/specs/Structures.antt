-- What stands in the way of a flat circuit.
use Rattle.std.specs.Prelude.{◌≡◌, ◌≤◌, ◌<◌, ℕ, List, Result, Ok, Err, Option, Some, None, option_map, find, is_none, cond, nat_lt}
use Rattle.rule_index.specs.Tables.{kind_in}
use Rattle.flatten.specs.declared.faults.FlatFault.{FlatFault}
use Rattle.flatten.specs.declared.faults.FlatFault.TheVariants.{DeviceModel, SupplyTie, Limit, NoMemory}
use Rattle.rule_index.specs.declared.models.ModelTable.{ModelTable}
use Rattle.vrt_model.specs.Unrolled.{Top}
use Rattle.vrt_model.specs.Unsupported.{carried, circuit_limits, device_without_kind, supply_tie, too_large}
use Rattle.vrt_model.specs.declared.design.DeviceCard.{DeviceCard}

-- nothing stands in the way
pub record IsStructured (t : Top) : Type 0 where
  pub small : too_large (circuit_limits t) ≡ None
  pub kinds : device_without_kind t ≡ None
  pub ties : supply_tie t ≡ None

-- what stands in the way, the first in the order of these tests: a count, the model of a device, a tied supply
abbrev pub IsFault : Top → FlatFault → Type 0
IsFault t (Limit count) = too_large (circuit_limits t) ≡ Some count
IsFault t (DeviceModel model) = (too_large (circuit_limits t) ≡ None) × (device_without_kind t ≡ Some model)
IsFault t (SupplyTie path) =
    (too_large (circuit_limits t) ≡ None) × (device_without_kind t ≡ None) × (supply_tie t ≡ Some path)
IsFault t NoMemory = Unit {0}

abbrev pub StructureGives : {X : Type 0} → Top → Result X FlatFault → Type 0
StructureGives t (Ok x) = IsStructured t
StructureGives t (Err fault) = IsFault t fault

-- ---- causes in their order

-- the first count that passes its limit
abbrev pub large_in : ℕ → ℕ → ℕ → Option ℕ
large_in nets devices instances =
    cond (nat_lt 20000 nets) (Some nets) (cond (nat_lt 40000 devices) (Some devices) (cond (nat_lt 40000 instances) (Some instances) None))

abbrev pub IsFirstCause : Option ℕ → Option (List ℕ) → Option (List ℕ) → FlatFault → Type 0
IsFirstCause large kind tie (Limit count) = large ≡ Some count
IsFirstCause large kind tie (DeviceModel model) = (large ≡ None) × (kind ≡ Some model)
IsFirstCause large kind tie (SupplyTie path) = (large ≡ None) × (kind ≡ None) × (tie ≡ Some path)
IsFirstCause large kind tie NoMemory = Unit {0}

-- a count, the model of a device, a tied supply: the first of these that there is
abbrev pub CausesGive : {X : Type 0} → Option ℕ → Option (List ℕ) → Option (List ℕ) → Result X FlatFault → Type 0
CausesGive large kind tie (Ok x) = (large ≡ None) × (kind ≡ None) × (tie ≡ None)
CausesGive large kind tie (Err fault) = IsFirstCause large kind tie fault

-- ---- the tests of a cell without instances

-- the first card whose model has no kind
abbrev pub model_without_kind : ModelTable → List DeviceCard → Option (List ℕ)
model_without_kind models cards =
    option_map (λ (d : DeviceCard). d.model) (find (λ (d : DeviceCard). is_none (kind_in models d.model)) cards)

abbrev pub IsTestFault : ℕ → ModelTable → List DeviceCard → FlatFault → Type 0
IsTestFault count models cards (Limit large) = (20000 < count) × (large ≡ carried count)
IsTestFault count models cards (DeviceModel model) = (count ≤ 20000) × (model_without_kind models cards ≡ Some model)
IsTestFault count models cards (SupplyTie path) = ⊥
IsTestFault count models cards NoMemory = Unit {0}

abbrev pub TestGives : ℕ → ModelTable → List DeviceCard → Result Unit FlatFault → Type 0
TestGives count models cards (Ok x) = (count ≤ 20000) × (model_without_kind models cards ≡ None)
TestGives count models cards (Err fault) = IsTestFault count models cards fault
