-- The places of rules by the cells that they are of.
use Rattle.std.specs.Prelude.{◌≡◌, ℕ, List, [], map, filter, length, Some, slice_get, unwrap_or, bytes_eq}
use Rattle.name_tables.specs.Firsts.{first_in}
use Rattle.rule_index.specs.declared.by_cell.ByCell.{ByCell}
use Rattle.rule_index.specs.declared.lines.ChargeLines.{ChargeLines}
use Rattle.rule_index.specs.declared.lines.DeviceLines.{DeviceLines}
use Rattle.rule_index.specs.declared.lines.PortLines.{PortLines}
use Rattle.rule_index.specs.declared.lines.RuleLines.{RuleLines}
use Rattle.vrt_model.specs.declared.rules.AssumeRule.{AssumeRule}
use Rattle.vrt_model.specs.declared.rules.ClockportRule.{ClockportRule}
use Rattle.vrt_model.specs.declared.rules.EnterRule.{EnterRule}
use Rattle.vrt_model.specs.declared.rules.HoldRule.{HoldRule}
use Rattle.vrt_model.specs.declared.rules.InstanceMatchRule.{InstanceMatchRule}
use Rattle.vrt_model.specs.declared.rules.KeeperRule.{KeeperRule}
use Rattle.vrt_model.specs.declared.rules.MatchRule.{MatchRule}
use Rattle.vrt_model.specs.declared.rules.ObserveRule.{ObserveRule}
use Rattle.vrt_model.specs.declared.rules.PairRule.{PairRule}
use Rattle.vrt_model.specs.declared.rules.PortRule.{PortRule}
use Rattle.vrt_model.specs.declared.rules.Rules.{Rules}
use Rattle.vrt_model.specs.declared.rules.StrengthRule.{StrengthRule}

-- ---- one kind of rules

-- the places that a table has under a name
abbrev pub places_in : ByCell → List ℕ → List ℕ
places_in table cell = unwrap_or (first_in table.names table.groups.items cell) []

-- the rules of a kind that are of a cell, in their order
abbrev pub rules_of : {R : Type 0} → (R → List ℕ) → List R → List ℕ → List R
rules_of cell_of rules cell = filter (λ r. bytes_eq (cell_of r) cell) rules

-- for each name a table has the places of the rules that are of the cell of that name, in their order
abbrev pub IsIndex : {R : Type 0} → (R → List ℕ) → List R → ByCell → Type 0
IsIndex cell_of rules table = (cell : List ℕ) → map (slice_get rules) (places_in table cell) ≡ map Some (rules_of cell_of rules cell)

-- each name has its places
abbrev pub IsPaired : ByCell → Type 0
IsPaired table = length table.names ≡ length table.groups.items

-- there is no rule
pub record IsBlank (table : ByCell) : Type 0 where
  pub names : table.names ≡ []
  pub groups : table.groups.items ≡ []

-- ---- all kinds

pub record AreBlankDevices (lines : DeviceLines) : Type 0 where
  pub strengths : IsBlank lines.strengths
  pub keepers : IsBlank lines.keepers

pub record AreBlankPorts (lines : PortLines) : Type 0 where
  pub clockports : IsBlank lines.clockports
  pub signals : IsBlank lines.signals
  pub observes : IsBlank lines.observes
  pub assumes : IsBlank lines.assumes

pub record AreBlankCharges (lines : ChargeLines) : Type 0 where
  pub holds : IsBlank lines.holds
  pub matches : IsBlank lines.matches
  pub instance_matches : IsBlank lines.instance_matches
  pub enters : IsBlank lines.enters

-- there is no rule of any kind
pub record AreBlank (lines : RuleLines) : Type 0 where
  pub pairs : IsBlank lines.pairs
  pub devices : AreBlankDevices lines.devices
  pub ports : AreBlankPorts lines.ports
  pub charges : AreBlankCharges lines.charges

pub record AreDeviceLines (rules : Rules) (lines : DeviceLines) : Type 0 where
  pub strengths : IsIndex (λ (r : StrengthRule). r.cell) rules.strengths lines.strengths
  pub keepers : IsIndex (λ (r : KeeperRule). r.cell) rules.keepers lines.keepers

pub record ArePortLines (rules : Rules) (lines : PortLines) : Type 0 where
  pub clockports : IsIndex (λ (r : ClockportRule). r.cell) rules.clockports lines.clockports
  pub signals : IsIndex (λ (r : PortRule). r.cell) rules.ports lines.signals
  pub observes : IsIndex (λ (r : ObserveRule). r.cell) rules.observes lines.observes
  pub assumes : IsIndex (λ (r : AssumeRule). r.cell) rules.assumes lines.assumes

pub record AreChargeLines (rules : Rules) (lines : ChargeLines) : Type 0 where
  pub holds : IsIndex (λ (r : HoldRule). r.cell) rules.holds lines.holds
  pub matches : IsIndex (λ (r : MatchRule). r.cell) rules.matches lines.matches
  pub instance_matches : IsIndex (λ (r : InstanceMatchRule). r.cell) rules.instance_matches lines.instance_matches
  pub enters : IsIndex (λ (r : EnterRule). r.cell) rules.enters lines.enters

-- for each cell and each kind of rules the places of its rules
pub record AreLines (rules : Rules) (lines : RuleLines) : Type 0 where
  pub pairs : IsIndex (λ (r : PairRule). r.cell) rules.pairs lines.pairs
  pub devices : AreDeviceLines rules lines.devices
  pub ports : ArePortLines rules lines.ports
  pub charges : AreChargeLines rules lines.charges
