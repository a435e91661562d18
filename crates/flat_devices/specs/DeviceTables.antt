-- What rules say of the devices of one cell, and a table that says the same.
use Rattle.std.specs.Prelude.{◌≡◌, ℕ, List, [], ◌∷◌, Bool, false, Option, Some, None, option_and_then, option_map, unwrap_or, find, cond, ◌&&◌, bytes_eq, slice_get}
use Rattle.std.specs.List.{list_any}
use Rattle.std.specs.Option.{option_or}
use Rattle.vrt_model.specs.Levels.{usual_level}
use Rattle.vrt_model.specs.Lists.{has_name}
use Rattle.flat_devices.specs.declared.device_tables.DeviceTable.{DeviceTable}
use Rattle.rule_index.specs.Firsts.{IsFresh, value_in}
use Rattle.rule_index.specs.Tables.{AreIndexed, level_in}
use Rattle.rule_index.specs.declared.index.RuleIndex.{RuleIndex}
use Rattle.rule_index.specs.declared.models.ModelTable.{ModelTable}
use Rattle.vrt_model.specs.declared.design.Design.{Design}
use Rattle.vrt_model.specs.declared.rules.KeeperRule.{KeeperRule}
use Rattle.vrt_model.specs.declared.rules.Rules.{Rules}
use Rattle.vrt_model.specs.declared.rules.StrengthRule.{StrengthRule}

-- ---- what is said of a device

abbrev pub declared_level : List StrengthRule → List ℕ → List ℕ → Option ℕ
declared_level rules cell device =
    option_map (λ (r : StrengthRule). r.level)
    (find (λ (r : StrengthRule). bytes_eq r.cell cell && bytes_eq r.device device) rules)

abbrev pub is_kept : List KeeperRule → List ℕ → List ℕ → Bool
is_kept rules cell device = list_any (λ (r : KeeperRule). bytes_eq r.cell cell && bytes_eq r.device device) rules

-- the same of the rule at a place, whatever its cell
abbrev pub level_if : List ℕ → StrengthRule → Option ℕ
level_if device r = cond (bytes_eq r.device device) (Some r.level) None

abbrev pub level_at : List StrengthRule → List ℕ → ℕ → Option ℕ
level_at rules device p = option_and_then (level_if device) (slice_get rules p)

abbrev pub kept_at : List KeeperRule → List ℕ → ℕ → Bool
kept_at rules device p = unwrap_or (option_map (λ (r : KeeperRule). bytes_eq r.device device) (slice_get rules p)) false

-- the first that is found of some items
abbrev pub first_some : {X Y : Type 0} → (X → Option Y) → List X → Option Y
first_some f [] = None
first_some f (x ∷ xs) = option_or (f x) (first_some f xs)

-- ---- tables

-- nothing is noted
pub record AreFreshDevices (table : DeviceTable) : Type 0 where
  pub strengths : IsFresh table.strengths
  pub keepers : table.keepers ≡ []

pub record AreDevices (rules : Rules) (cell : List ℕ) (table : DeviceTable) : Type 0 where
  pub usual_is : table.usual ≡ usual_level rules
  pub strengths_are : (device : List ℕ) → value_in table.strengths device ≡ declared_level rules.strengths cell device
  pub keepers_are : (device : List ℕ) → has_name table.keepers device ≡ is_kept rules.keepers cell device

-- the tables of a netlist and its rules, and that of the devices of one cell
pub record AreTables (design : Design) (rules : Rules) (cell : List ℕ) (index : RuleIndex) (table : DeviceTable) : Type 0 where
  pub index_is : AreIndexed design rules index
  pub devices_are : AreDevices rules cell table

-- the level of a device: a `strength` rule goes before a `device` rule
abbrev pub device_level : ModelTable → DeviceTable → List ℕ → List ℕ → ℕ
device_level models table device model = unwrap_or (option_or (value_in table.strengths device) (level_in models model)) table.usual
