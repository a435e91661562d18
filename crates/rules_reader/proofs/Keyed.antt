-- The keys of rules, table by table.
use Rattle.std.proofs.Common.{◌≡◌, ◌++◌, ◌∷◌, [], ℕ, List, map, codes, refl, sym, subst}
use Rattle.text_lines.specs.Words.{word_at}
use Rattle.rules_reader.specs.Keys.{clocks_on, key, spaced, text}
use Rattle.rules_reader.specs.Refused.{key_texts, known_from}
use Rattle.rules_reader.specs.Tables.{clockports_in, defaultclocks_in, devices_in, enters_in, holds_in, instance_matches_in, keeper_rule, keepers_in, matches_in, number_in, observes_in, pairs_in, phases_in, ports_in, strengths_in, supplies_in, supply_rule}
use Rattle.rules_lines.specs.declared.entry.Entry.{Entry}
use Rattle.rules_lines.specs.declared.entry.Entry.TheVariants.{SupplyLine, DeviceLine, StrengthLine, PhaseLine, ClockportLine, DefaultclockLine, PairLine, PortLine, HoldLine, KeeperLine, MatchLine, InstanceMatchLine, EnterLine, ObserveLine}
use Rattle.rules_reader.proofs.Within.{Within, within_all, within_maps, within_none}
use Rattle.rules_reader.proofs.Within.Within.{keeps, nothing}
use Rattle.vrt_model.specs.declared.rules.ClockportRule.{ClockportRule}
use Rattle.vrt_model.specs.declared.rules.DefaultclockRule.{DefaultclockRule}
use Rattle.vrt_model.specs.declared.rules.DeviceRule.{DeviceRule}
use Rattle.vrt_model.specs.declared.rules.EnterRule.{EnterRule}
use Rattle.vrt_model.specs.declared.rules.HoldRule.{HoldRule}
use Rattle.vrt_model.specs.declared.rules.InstanceMatchRule.{InstanceMatchRule}
use Rattle.vrt_model.specs.declared.rules.KeeperRule.{KeeperRule}
use Rattle.vrt_model.specs.declared.rules.MatchRule.{MatchRule}
use Rattle.vrt_model.specs.declared.rules.ObserveRule.{ObserveRule}
use Rattle.vrt_model.specs.declared.rules.PairRule.{PairRule}
use Rattle.vrt_model.specs.declared.rules.Phase.{Phase}
use Rattle.vrt_model.specs.declared.rules.PortRule.{PortRule}
use Rattle.vrt_model.specs.declared.rules.StrengthRule.{StrengthRule}
use Rattle.vrt_model.specs.declared.rules.SupplyRule.{SupplyRule}

-- a key of a table, of a cell in it, and of a word in the cell
abbrev pub in_table : List ℕ → List ℕ → List ℕ
in_table table last = table ++ last

abbrev pub in_cell : List ℕ → List ℕ → List ℕ → List ℕ
in_cell table cell last = (table ++ spaced cell) ++ last

abbrev pub within_cell : List ℕ → List ℕ → List ℕ → List ℕ → List ℕ
within_cell table cell word last = ((table ++ spaced cell) ++ spaced word) ++ last

abbrev pub supply_key : SupplyRule → List ℕ
supply_key r = in_table (codes "supply ") r.net

abbrev pub device_key : DeviceRule → List ℕ
device_key r = in_table (codes "device ") r.model

abbrev pub strength_key : StrengthRule → List ℕ
strength_key r = in_cell (codes "strength ") r.cell r.device

abbrev pub phase_key : Phase → List ℕ
phase_key r = in_table (codes "phase ") r.name

abbrev pub clockport_key : ClockportRule → List ℕ
clockport_key r = in_cell (codes "clockport ") r.cell r.port

abbrev pub defaultclock_key : DefaultclockRule → List ℕ
defaultclock_key r = codes "defaultclock"

abbrev pub pair_key : PairRule → List ℕ
pair_key r = in_table (codes "pair ") r.cell

abbrev pub port_key : PortRule → List ℕ
port_key r = in_cell (codes "port ") r.cell r.port

abbrev pub hold_key : HoldRule → List ℕ
hold_key r = in_cell (codes "hold ") r.cell r.net

abbrev pub keeper_key : KeeperRule → List ℕ
keeper_key r = in_cell (codes "keeper ") r.cell r.device

abbrev pub match_key : MatchRule → List ℕ
match_key r = in_cell (codes "match ") r.cell r.net

abbrev pub instance_match_key : InstanceMatchRule → List ℕ
instance_match_key r = within_cell (codes "match ") r.cell r.instance r.inner

abbrev pub observe_key : ObserveRule → List ℕ
observe_key r = in_cell (codes "observe ") r.cell r.port

-- by the name of the phase
abbrev pub enter_key : List (List ℕ) → EnterRule → List ℕ
enter_key phases r = within_cell (codes "enter ") r.cell (word_at phases r.phase) r.net

pub supplies_keyed : (line : ℕ) (e : Entry) → Within (map supply_key (supplies_in line e)) (key_texts e)
supplies_keyed line (SupplyLine value nets) =
    subst (λ xs. Within xs (key_texts (SupplyLine value nets))) (sym (within_maps (supply_rule line value) supply_key (key (codes "supply ")) text (λ n. refl) nets)) (within_all (key_texts (SupplyLine value nets)))
supplies_keyed line e = within_none (key_texts e)

pub devices_keyed : (scale line : ℕ) (e : Entry) → Within (map device_key (devices_in scale line e)) (key_texts e)
devices_keyed scale line (DeviceLine model kind level) = keeps nothing
devices_keyed scale line e = within_none (key_texts e)

pub strengths_keyed : (scale line : ℕ) (e : Entry) → Within (map strength_key (strengths_in scale line e)) (key_texts e)
strengths_keyed scale line (StrengthLine cell device level) = keeps nothing
strengths_keyed scale line e = within_none (key_texts e)

pub phases_keyed : (clocks : List (List ℕ)) (line : ℕ) (e : Entry) → Within (map phase_key (phases_in clocks line e)) (key_texts e)
phases_keyed clocks line (PhaseLine name bits) = keeps (within_none (map text (map (key (codes "phase " ++ spaced name)) (clocks_on bits))))
phases_keyed clocks line e = within_none (key_texts e)

pub clockports_keyed : (clocks : List (List ℕ)) (line : ℕ) (e : Entry) → Within (map clockport_key (clockports_in clocks line e)) (key_texts e)
clockports_keyed clocks line (ClockportLine cell port clock) = keeps nothing
clockports_keyed clocks line e = within_none (key_texts e)

pub defaultclocks_keyed : (clocks : List (List ℕ)) (line : ℕ) (e : Entry) → Within (map defaultclock_key (defaultclocks_in clocks line e)) (key_texts e)
defaultclocks_keyed clocks line (DefaultclockLine clock) = keeps nothing
defaultclocks_keyed clocks line e = within_none (key_texts e)

pub pairs_keyed : (line : ℕ) (e : Entry) → Within (map pair_key (pairs_in line e)) (key_texts e)
pairs_keyed line (PairLine cell model) = keeps nothing
pairs_keyed line e = within_none (key_texts e)

pub ports_keyed : (line : ℕ) (e : Entry) → Within (map port_key (ports_in line e)) (key_texts e)
ports_keyed line (PortLine cell port signal) = keeps nothing
ports_keyed line e = within_none (key_texts e)

pub holds_keyed : (scale line : ℕ) (e : Entry) → Within (map hold_key (holds_in scale line e)) (key_texts e)
holds_keyed scale line (HoldLine cell net size) = keeps nothing
holds_keyed scale line e = within_none (key_texts e)

pub keepers_keyed : (line : ℕ) (e : Entry) → Within (map keeper_key (keepers_in line e)) (key_texts e)
keepers_keyed line (KeeperLine cell devices) =
    subst (λ xs. Within xs (key_texts (KeeperLine cell devices))) (sym (within_maps (keeper_rule line cell) keeper_key (key (codes "keeper " ++ spaced cell)) text (λ n. refl) devices)) (within_all (key_texts (KeeperLine cell devices)))
keepers_keyed line e = within_none (key_texts e)

pub matches_keyed : (line : ℕ) (e : Entry) → Within (map match_key (matches_in line e)) (key_texts e)
matches_keyed line (MatchLine cell net latch) = keeps nothing
matches_keyed line e = within_none (key_texts e)

pub instance_matches_keyed : (line : ℕ) (e : Entry) → Within (map instance_match_key (instance_matches_in line e)) (key_texts e)
instance_matches_keyed line (InstanceMatchLine cell inst inner latch) = keeps nothing
instance_matches_keyed line e = within_none (key_texts e)

pub observes_keyed : (phases : List (List ℕ)) (line : ℕ) (e : Entry) → Within (map observe_key (observes_in phases line e)) (key_texts e)
observes_keyed phases line (ObserveLine cell port named) = keeps nothing
observes_keyed phases line e = within_none (key_texts e)

-- the phase that an `enter` line names is the one of its number
abbrev pub NamesBack : List (List ℕ) → Entry → Type 0
NamesBack phases (EnterLine cell phase net bit) = word_at (known_from phases) (number_in phases phase) ≡ phase
NamesBack phases e = Unit {0}

pub enters_keyed : (phases : List (List ℕ)) (line : ℕ) (e : Entry) → NamesBack phases e → Within (map (enter_key (known_from phases)) (enters_in phases line e)) (key_texts e)
enters_keyed phases line (EnterLine cell phase net bit) back =
    subst (λ name. Within (within_cell (codes "enter ") cell name net ∷ []) (key_texts (EnterLine cell phase net bit))) (sym back) (keeps nothing)
enters_keyed phases line e back = within_none (key_texts e)
