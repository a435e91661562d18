-- What a netlist and its rules say of names, and tables that say the same.
use Rattle.std.specs.Prelude.{◌≡◌, ℕ, List, Bool, false, Option, Some, None, option_map, find, position, cond, bytes_eq, codes}
use Rattle.std.specs.Option.{option_or}
use Rattle.name_tables.specs.Firsts.{IsFresh, value_in}
use Rattle.rule_index.specs.Lines.{AreBlank, AreLines}
use Rattle.name_tables.specs.declared.firsts.FirstValues.{FirstValues}
use Rattle.rule_index.specs.declared.index.RuleIndex.{RuleIndex}
use Rattle.rule_index.specs.declared.models.Declared.{Declared}
use Rattle.rule_index.specs.declared.models.ModelTable.{ModelTable}
use Rattle.vrt_model.specs.declared.design.Cell.{Cell}
use Rattle.vrt_model.specs.declared.design.Design.{Design}
use Rattle.vrt_model.specs.declared.design.Kind.{Kind}
use Rattle.vrt_model.specs.declared.design.ModelCard.{ModelCard}
use Rattle.vrt_model.specs.declared.rules.DeviceRule.{DeviceRule}
use Rattle.vrt_model.specs.declared.rules.Rules.{Rules}
use Rattle.vrt_model.specs.declared.rules.SupplyRule.{SupplyRule}

-- ---- what is said of a name

abbrev pub cell_numbered : List Cell → List ℕ → Option ℕ
cell_numbered cells name = position (λ (c : Cell). bytes_eq c.name name) cells

abbrev pub declared_supply : List SupplyRule → List ℕ → Option Bool
declared_supply rules name =
    option_map (λ (r : SupplyRule). r.value) (find (λ (r : SupplyRule). bytes_eq r.net name) rules)

abbrev pub declared_by : DeviceRule → Declared
declared_by rule = record { kind = rule.kind; level = rule.level }

abbrev pub declared_device : List DeviceRule → List ℕ → Option Declared
declared_device rules model = option_map declared_by (find (λ (r : DeviceRule). bytes_eq r.model model) rules)

abbrev pub card_kind : List ModelCard → List ℕ → Option Kind
card_kind cards model = option_map (λ (m : ModelCard). m.kind) (find (λ (m : ModelCard). bytes_eq m.name model) cards)

-- ---- tables in which nothing is noted

pub record AreFreshModels (table : ModelTable) : Type 0 where
  pub rules : IsFresh table.rules
  pub cards : IsFresh table.cards

pub record IsFreshIndex (index : RuleIndex) : Type 0 where
  pub cells : IsFresh index.cells
  pub supplies : IsFresh index.supplies
  pub models : AreFreshModels index.models
  pub lines : AreBlank index.lines

-- ---- tables that say the same

pub record AreModels (design : Design) (rules : Rules) (table : ModelTable) : Type 0 where
  pub rules_are : (model : List ℕ) → value_in table.rules model ≡ declared_device rules.devices model
  pub cards_are : (model : List ℕ) → value_in table.cards model ≡ card_kind design.models model

-- what rules say of supplies, and for each cell the places of its rules of each kind
pub record AreRuleTables (rules : Rules) (index : RuleIndex) : Type 0 where
  pub supplies_are : (name : List ℕ) → value_in index.supplies name ≡ declared_supply rules.supplies name
  pub lines_are : AreLines rules index.lines

-- the same, with the numbers of cells and what is said of device models
pub record AreIndexed (design : Design) (rules : Rules) (index : RuleIndex) : Type 0 where
  pub cells_are : (name : List ℕ) → value_in index.cells name ≡ cell_numbered design.cells name
  pub models_are : AreModels design rules index.models
  pub rules_are : AreRuleTables rules index

-- ---- what is found in tables

-- the supply that a name is; `0` is supply 0 where it is not declared
abbrev pub supply_in : FirstValues Bool → List ℕ → Option Bool
supply_in supplies name = option_or (value_in supplies name) (cond (bytes_eq name (codes "0")) (Some false) None)

-- the kind of a device model: a `device` rule goes before a `.model` card
abbrev pub kind_in : ModelTable → List ℕ → Option Kind
kind_in table model = option_or (option_map (λ (d : Declared). d.kind) (value_in table.rules model)) (value_in table.cards model)

-- the level that a `device` rule gives a device model
abbrev pub level_in : ModelTable → List ℕ → Option ℕ
level_in table model = option_map (λ (d : Declared). d.level) (value_in table.rules model)
