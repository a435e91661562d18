-- Names in the rules, looked up in tables.
use Rattle.std.specs.Prelude.{◌≡◌, ℕ, List, [], ◌+◌, ◌∷◌, ◌++◌, Bool, false, ◌&&◌, length, map, filter_map, bytes_eq, position, slice_get, unwrap_or, Option, Some, None, option_map}
use Rattle.line_laws.specs.Lines.{earlier as line_earlier, earliest as line_earliest}
use Rattle.vrt_model.specs.Lists.{distinct, has_name}
use Rattle.vrt_model.specs.Expressions.{names_in as expression_names}
use Rattle.vrt_model.specs.Hierarchy.{Asked, Missing, asked, first_missing}
use Rattle.vrt_model.specs.declared.design.Cell.{Cell}
use Rattle.vrt_model.specs.declared.design.Design.{Design}
use Rattle.vrt_model.specs.declared.rules.AssumeRule.{AssumeRule}
use Rattle.vrt_model.specs.declared.rules.ClockportRule.{ClockportRule}
use Rattle.vrt_model.specs.declared.rules.EnterRule.{EnterRule}
use Rattle.vrt_model.specs.declared.rules.Expr.{Expr}
use Rattle.vrt_model.specs.declared.rules.HoldRule.{HoldRule}
use Rattle.vrt_model.specs.declared.rules.InstanceMatchRule.{InstanceMatchRule}
use Rattle.vrt_model.specs.declared.rules.KeeperRule.{KeeperRule}
use Rattle.vrt_model.specs.declared.rules.MatchRule.{MatchRule}
use Rattle.vrt_model.specs.declared.rules.ObserveRule.{ObserveRule}
use Rattle.vrt_model.specs.declared.rules.PairRule.{PairRule}
use Rattle.vrt_model.specs.declared.rules.PortRule.{PortRule}
use Rattle.vrt_model.specs.declared.rules.Rules.{Rules}
use Rattle.vrt_model.specs.declared.rules.StrengthRule.{StrengthRule}
use Rattle.hierarchy.specs.Held.{AreHeld}
use Rattle.hierarchy.specs.Sets.{names_in}
use Rattle.hierarchy.specs.Tables.{AreNames}
use Rattle.hierarchy.specs.declared.lookups.MissingName.{MissingName}
use Rattle.hierarchy.specs.declared.lookups.Tables.{Tables}
use Rattle.hierarchy.specs.declared.sets.Kind.{Kind}
use Rattle.hierarchy.specs.declared.sets.Kind.TheVariants.{Ports, Devices, Instances, Nets}

-- ---- tables

abbrev pub sets_of : Kind → Tables → List (List (List ℕ))
sets_of Ports tables = tables.ports
sets_of Devices tables = tables.devices
sets_of Instances tables = tables.instances
sets_of Nets tables = tables.nets

-- the names of the cells in their order, and of each cell those of each kind, each once, and those on its `hold` lines
pub record AreTables (design : Design) (rules : Rules) (tables : Tables) : Type 0 where
  pub cells : AreNames design tables.cells
  pub sets : (kind : Kind) → sets_of kind tables ≡ map (λ (c : Cell). distinct (names_in kind c)) design.cells
  pub held : AreHeld tables.cells rules.holds tables.held.items

-- whether a name is in the set of a cell
abbrev pub is_in : List (List ℕ) → List (List (List ℕ)) → List ℕ → List ℕ → Bool
is_in cells sets cell name = elim (position (bytes_eq cell) cells) [ None ↦ false | Some n ↦ has_name (unwrap_or (slice_get sets n) []) name ]

-- whether a name is that of a net of a cell, and of one that keeps its charge
abbrev pub is_held : Tables → List ℕ → List ℕ → Bool
is_held tables cell net = is_in tables.cells tables.nets cell net && is_in tables.cells tables.held.items cell net

-- ---- the first name on a line that is not there

-- of a cell
abbrev pub missing_cell : Tables → ℕ → List ℕ → Option Missing
missing_cell tables line cell = first_missing line (asked cell (has_name tables.cells cell) ∷ [])

-- of a cell and a name in it
abbrev pub missing_by : Tables → Kind → ℕ → List ℕ → List ℕ → Option Missing
missing_by tables kind line cell name = first_missing line (asked cell (has_name tables.cells cell) ∷ asked name (is_in tables.cells (sets_of kind tables) cell name) ∷ [])

-- of a cell and a net in it that keeps its charge
abbrev pub missing_held : Tables → ℕ → List ℕ → List ℕ → Option Missing
missing_held tables line cell net = first_missing line (asked cell (has_name tables.cells cell) ∷ asked net (is_held tables cell net) ∷ [])

-- of a cell and the ports in an expression
abbrev pub port_asked : Tables → List ℕ → List ℕ → Asked
port_asked tables cell name = asked name (is_in tables.cells tables.ports cell name)

abbrev pub missing_assumed : Tables → ℕ → List ℕ → Expr → Option Missing
missing_assumed tables line cell e = first_missing line (asked cell (has_name tables.cells cell) ∷ map (port_asked tables cell) (expression_names e))

-- ---- the first of all lines

abbrev pub line_of : Missing → ℕ
line_of m = m.line

-- of two names that are not there that of the earlier line, of one line the first
abbrev pub earlier : Option Missing → Option Missing → Option Missing
earlier = line_earlier line_of

abbrev pub earliest : List Missing → Option Missing
earliest = line_earliest line_of

-- the names that are not there, kind by kind of lines
abbrev pub names_before : Tables → Rules → List Missing
names_before tables rules =
    filter_map (λ (r : StrengthRule). missing_by tables Kind.Devices r.line r.cell r.device) rules.strengths
    ++ filter_map (λ (r : ClockportRule). missing_by tables Kind.Ports r.line r.cell r.port) rules.clockports
    ++ filter_map (λ (r : PairRule). missing_cell tables r.line r.cell) rules.pairs
    ++ filter_map (λ (r : PortRule). missing_by tables Kind.Ports r.line r.cell r.port) rules.ports

abbrev pub names_between : Tables → Rules → List Missing
names_between tables rules =
    names_before tables rules
    ++ filter_map (λ (r : HoldRule). missing_by tables Kind.Nets r.line r.cell r.net) rules.holds
    ++ filter_map (λ (r : KeeperRule). missing_by tables Kind.Devices r.line r.cell r.device) rules.keepers
    ++ filter_map (λ (r : MatchRule). missing_held tables r.line r.cell r.net) rules.matches
    ++ filter_map (λ (r : InstanceMatchRule). missing_by tables Kind.Instances r.line r.cell r.instance) rules.instance_matches

abbrev pub names_missing : Tables → Rules → List Missing
names_missing tables rules =
    names_between tables rules
    ++ filter_map (λ (r : EnterRule). missing_held tables r.line r.cell r.net) rules.enters
    ++ filter_map (λ (r : ObserveRule). missing_by tables Kind.Ports r.line r.cell r.port) rules.observes
    ++ filter_map (λ (r : AssumeRule). missing_assumed tables r.line r.cell r.expression) rules.assumes

-- a name that is not there, and its line
abbrev pub missing_of : MissingName → Missing
missing_of m = record { line = m.line; name = m.name.now }

abbrev pub missing_in : Option MissingName → Option Missing
missing_in found = option_map missing_of found

-- ---- lines

-- how many lines name what can be missing
abbrev pub naming_lines : Rules → ℕ
naming_lines rules =
    length rules.strengths + length rules.clockports + length rules.pairs + length rules.ports
    + length rules.holds + length rules.keepers + length rules.matches + length rules.instance_matches
    + length rules.enters + length rules.observes + length rules.assumes
