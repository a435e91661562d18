-- What is looked up by the names of ports.
use Rattle.std.specs.Prelude.{◌≡◌, ℕ, Bool, false, cond, ◌++◌, ◌∷◌, [], List, map, filter_map, find, slice_get, Option, Some, None, option_map, unwrap_or, is_some, bytes_eq}
use Rattle.std.specs.Str.{str_to_ascii_lowercase}
use Rattle.rule_index.specs.Tables.{supply_in}
use Rattle.name_tables.specs.declared.firsts.FirstValues.{FirstValues}
use Rattle.vrt_model.specs.Lists.{has_name}
use Rattle.vrt_model.specs.Elements.{signal_name}
use Rattle.vrt_model.specs.Expressions.{names_in}
use Rattle.vrt_model.specs.PairedPorts.{interface, is_assumed}
use Rattle.vrt_model.specs.declared.flat_model.FlatModel.{FlatModel}
use Rattle.vrt_model.specs.declared.rules.AssumeRule.{AssumeRule}
use Rattle.vrt_model.specs.declared.rules.ClockRef.{ClockRef}
use Rattle.vrt_model.specs.declared.rules.ClockportRule.{ClockportRule}
use Rattle.vrt_model.specs.declared.rules.PortRule.{PortRule}
use Rattle.vrt_model.specs.declared.rules.Rules.{Rules}
use Rattle.name_tables.specs.Tables.{IsTable, Named, first_value, named}
use Rattle.latch_match.specs.declared.facts.PortFacts.{PortFacts}
use Rattle.latch_match.specs.declared.lookups.Lookups.{Lookups}
use Rattle.name_tables.specs.declared.table.NameTable.{NameTable}

-- a signal under its name, as it is and in lower case
abbrev pub by_name : FlatModel → ℕ → Named ℕ
by_name flat s = named (signal_name flat s) s

abbrev pub by_lower_name : FlatModel → ℕ → Named ℕ
by_lower_name flat s = named (str_to_ascii_lowercase (signal_name flat s)) s

-- the clock of a port of a cell, under the name of the port
abbrev pub clock_named : List ℕ → ClockportRule → Option (Named ClockRef)
clock_named cell r = cond (bytes_eq r.cell cell) (Some (named r.port r.clock)) None

-- the signal of the `port` rule of a port of a cell, found by its name, under the name of the port
abbrev pub signal_ruled : (List ℕ → Option ℕ) → List ℕ → PortRule → Option (Named (Option ℕ))
signal_ruled signal_at cell r = cond (bytes_eq r.cell cell) (Some (named r.port (signal_at r.signal))) None

-- the interface signal of a name
abbrev pub signal_at : FlatModel → List ℕ → Option ℕ
signal_at flat name = find (λ s. bytes_eq (signal_name flat s) name) (interface flat)

-- the same of the rule at a place: the clock of its port, the signal of its port, and whether its assumption names a port
abbrev pub clock_at : List ClockportRule → ℕ → Option (Named ClockRef)
clock_at rules p = option_map (λ (r : ClockportRule). named r.port r.clock) (slice_get rules p)

abbrev pub ruled_at : (List ℕ → Option ℕ) → List PortRule → ℕ → Option (Named (Option ℕ))
ruled_at signal_at rules p = option_map (λ (r : PortRule). named r.port (signal_at r.signal)) (slice_get rules p)

abbrev pub assumed_at : List AssumeRule → List ℕ → ℕ → Bool
assumed_at rules port p = unwrap_or (option_map (λ (r : AssumeRule). has_name (names_in r.expression) port) (slice_get rules p)) false

-- a table gets what a rule says, if it says anything
abbrev pub Grows : {X V : Type 0} → (X → Option (Named V)) → X → NameTable V → NameTable V → Type 0
Grows {X} {V} h x t u = (entries : List (Named V)) → IsTable entries t → IsTable (entries ++ filter_map h (x ∷ [])) u

-- tables with no values
pub record AreEmpty (l : Lookups) : Type 0 where
  pub signals : IsTable [] l.signals
  pub names : IsTable [] l.names
  pub clocks : IsTable [] l.clocks
  pub ruled : IsTable [] l.ruled
  pub assumed : l.assumed ≡ []

-- the tables that a cell's ports are looked up in
pub record AreLookups (flat : FlatModel) (rules : Rules) (cell : List ℕ) (l : Lookups) : Type 0 where
  pub signals : IsTable (map (by_lower_name flat) (interface flat)) l.signals
  pub clocks : IsTable (filter_map (clock_named cell) rules.clockports) l.clocks
  pub ruled : IsTable (filter_map (signal_ruled (signal_at flat) cell) rules.ports) l.ruled
  pub assumed : (port : List ℕ) → has_name l.assumed port ≡ is_assumed rules cell port

-- what they and the supplies say of a port
abbrev pub facts_in : FirstValues Bool → Lookups → List ℕ → PortFacts
facts_in supplies l port = record {
  supply = supply_in supplies port;
  clock = first_value l.clocks port;
  is_ruled = is_some (first_value l.ruled port);
  signal = unwrap_or (first_value l.ruled port) (first_value l.signals port);
  fits_again = has_name l.signals.again port;
  is_assumed = has_name l.assumed port;
}
