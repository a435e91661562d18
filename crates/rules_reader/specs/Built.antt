-- What one line adds to the tables.
use Rattle.std.specs.Prelude.{◌≡◌, ℕ, List, ◌++◌, map, Option, Some, None}
use Rattle.rules_reader.specs.Tables.{AreTablesOf, assumed, assumes_in, by_entry, clockports_in, defaultclocks_in, devices_in, enters_in, holds_in, instance_matches_in, keepers_in, matches_in, observes_in, pairs_in, phases_in, ports_in, strengths_in, supplies_in, table}
use Rattle.rules_reader.specs.declared.cards.Card.{Card}
use Rattle.rules_lines.specs.declared.entry.Entry.{Entry}
use Rattle.rules_lines.specs.declared.entry.Entry.TheVariants.{SupplyLine, DeviceLine, StrengthLine, PhaseLine, ClockportLine, DefaultclockLine, PairLine, PortLine, HoldLine, KeeperLine, MatchLine, InstanceMatchLine, EnterLine, ObserveLine, AssumeLine}
use Rattle.vrt_model.specs.declared.rules.Rules.{Rules}

-- where these clocks and phases have numbers
pub record Adds (clocks phases : List (List ℕ)) (line : ℕ) (entry : Option Entry) (old new : Rules) : Type 0 where
  pub scale_is : new.scale ≡ old.scale
  pub clocks_are : new.clocks ≡ old.clocks
  pub phases_are : new.phases ≡ old.phases ++ by_entry (phases_in clocks) line entry
  pub supplies : new.supplies ≡ old.supplies ++ by_entry supplies_in line entry
  pub devices : new.devices ≡ old.devices ++ by_entry (devices_in old.scale) line entry
  pub strengths : new.strengths ≡ old.strengths ++ by_entry (strengths_in old.scale) line entry
  pub clockports : new.clockports ≡ old.clockports ++ by_entry (clockports_in clocks) line entry
  pub defaultclocks : new.defaultclocks ≡ old.defaultclocks ++ by_entry (defaultclocks_in clocks) line entry
  pub pairs : new.pairs ≡ old.pairs ++ by_entry pairs_in line entry
  pub ports : new.ports ≡ old.ports ++ by_entry ports_in line entry
  pub holds : new.holds ≡ old.holds ++ by_entry (holds_in old.scale) line entry
  pub keepers : new.keepers ≡ old.keepers ++ by_entry keepers_in line entry
  pub matches : new.matches ≡ old.matches ++ by_entry matches_in line entry
  pub instance_matches : new.instance_matches ≡ old.instance_matches ++ by_entry instance_matches_in line entry
  pub enters : new.enters ≡ old.enters ++ by_entry (enters_in phases) line entry
  pub observes : new.observes ≡ old.observes ++ by_entry (observes_in phases) line entry
  pub assumes : map assumed new.assumes ≡ map assumed old.assumes ++ by_entry (assumes_in phases) line entry

-- the tables of the lines so far
pub record AreSoFar (clocks phases names : List (List ℕ)) (scale : ℕ) (cards : List Card) (rules : Rules) : Type 0 where
  pub scale_is : rules.scale ≡ scale
  pub clocks_are : rules.clocks ≡ names
  pub phases_are : rules.phases ≡ table (phases_in clocks) cards
  pub tables : AreTablesOf clocks phases cards rules

-- ---- the groups of lines, none for any other line

-- a line on supplies or devices
abbrev pub on_devices : Entry → Option Entry
on_devices (SupplyLine value nets) = Some (SupplyLine value nets)
on_devices (DeviceLine model kind level) = Some (DeviceLine model kind level)
on_devices (StrengthLine cell device level) = Some (StrengthLine cell device level)
on_devices (KeeperLine cell devices) = Some (KeeperLine cell devices)
on_devices entry = None

-- a line on a cell's model, ports or held nets
abbrev pub on_cells : Entry → Option Entry
on_cells (PairLine cell model) = Some (PairLine cell model)
on_cells (PortLine cell port signal) = Some (PortLine cell port signal)
on_cells (HoldLine cell net size) = Some (HoldLine cell net size)
on_cells entry = None

-- a line on a latch
abbrev pub on_latches : Entry → Option Entry
on_latches (MatchLine cell net latch) = Some (MatchLine cell net latch)
on_latches (InstanceMatchLine cell inst inner latch) = Some (InstanceMatchLine cell inst inner latch)
on_latches entry = None

-- a line on clocks that gives rules
abbrev pub on_clocks : Entry → Option Entry
on_clocks (PhaseLine name bits) = Some (PhaseLine name bits)
on_clocks (ClockportLine cell port clock) = Some (ClockportLine cell port clock)
on_clocks (DefaultclockLine clock) = Some (DefaultclockLine clock)
on_clocks entry = None

-- a line on a phase
abbrev pub on_phases : Entry → Option Entry
on_phases (EnterLine cell phase net bit) = Some (EnterLine cell phase net bit)
on_phases (ObserveLine cell port phases) = Some (ObserveLine cell port phases)
on_phases (AssumeLine cell phase tokens) = Some (AssumeLine cell phase tokens)
on_phases entry = None
