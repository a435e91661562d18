-- What each line of a rules file says by its words.
use Rattle.std.specs.Prelude.{ℕ, List, [], ◌∷◌, Bool, not, ◌==◌, ◌||◌, if◌then◌else◌, map, codes, bytes_eq, Option, Some, None, option_map}
use Rattle.std.specs.List.{list_all, list_any}
use Rattle.text_lines.specs.Bytes.{lowered}
use Rattle.vrt_model.specs.Lists.{is_empty}
use Rattle.rules_expression.specs.Tokens.{tokens_of}
use Rattle.rules_lines.specs.Words.{bit_of, cut_first, kind_of, level_of, scale_of, signed, size_of, usual_level, usual_size}
use Rattle.rules_lines.specs.declared.entry.ByScale.{ByScale}
use Rattle.rules_lines.specs.declared.entry.ClockBit.{ClockBit}
use Rattle.rules_lines.specs.declared.entry.Entry.{Entry}
use Rattle.rules_lines.specs.declared.entry.Entry.TheVariants.{ScaleLine, SupplyLine, DeviceLine, StrengthLine, ClockLine, PhaseLine, ClockportLine, DefaultclockLine, PairLine, PortLine, HoldLine, KeeperLine, MatchLine, InstanceMatchLine, EnterLine, ObserveLine, AssumeLine}
use Rattle.vrt_model.specs.declared.design.Kind.{Kind}

-- `scale 8` or `scale 16`
abbrev pub scale_entry : List (List ℕ) → Option Entry
scale_entry (word ∷ []) = option_map ScaleLine (scale_of word)
scale_entry words = None

-- `supply 0 NET..`, `supply 1 NET..`
abbrev pub supply_entry : List (List ℕ) → Option Entry
supply_entry [] = None
supply_entry (value ∷ nets) = if is_empty nets then None else option_map (λ v. SupplyLine v (map lowered nets)) (bit_of value)

-- `device MODEL n` or `p`, `[LEVEL]`; by default the usual one
abbrev pub device_by : List ℕ → Option Kind → ByScale → Option Entry
device_by model None level = None
device_by model (Some kind) level = Some (DeviceLine (lowered model) kind level)

abbrev pub device_entry : List (List ℕ) → Option Entry
device_entry (model ∷ kind ∷ []) = device_by model (kind_of kind) usual_level
device_entry (model ∷ kind ∷ level ∷ []) = device_by model (kind_of kind) (level_of level)
device_entry words = None

-- `strength CELL DEV LEVEL`
abbrev pub strength_entry : List (List ℕ) → Option Entry
strength_entry (cell ∷ device ∷ level ∷ []) = Some (StrengthLine (lowered cell) (lowered device) (level_of level))
strength_entry words = None

-- `clock NAME..`
abbrev pub clock_entry : List (List ℕ) → Option Entry
clock_entry names = if is_empty names then None else Some (ClockLine (map lowered names))

-- `phase NAME CLOCK=BIT..`, each cut at its first `=`
abbrev pub has_equals : List ℕ → Bool
has_equals word = list_any (λ b. b == 61) word

abbrev pub clock_bit_by : Option (List ℕ × List ℕ) → ClockBit
clock_bit_by None = record { clock = []; bit = None }
clock_bit_by (Some cut) = record { clock = lowered cut.0; bit = bit_of cut.1 }

abbrev pub clock_bit : List ℕ → ClockBit
clock_bit word = clock_bit_by (cut_first 61 word)

abbrev pub phase_entry : List (List ℕ) → Option Entry
phase_entry [] = None
phase_entry (name ∷ bits) = if is_empty bits || not (list_all has_equals bits) then None else Some (PhaseLine (lowered name) (map clock_bit bits))

-- `clockport CELL PORT [!]CLOCK`
abbrev pub clockport_entry : List (List ℕ) → Option Entry
clockport_entry (cell ∷ port ∷ clock ∷ []) = Some (ClockportLine (lowered cell) (lowered port) (signed (lowered clock)))
clockport_entry words = None

-- `defaultclock CLOCK`
abbrev pub defaultclock_entry : List (List ℕ) → Option Entry
defaultclock_entry (clock ∷ []) = Some (DefaultclockLine (lowered clock))
defaultclock_entry words = None

-- `pair CELL MODEL`; `-` is none, and MODEL is as written
abbrev pub paired_model : List ℕ → Option (List ℕ)
paired_model model = if bytes_eq model (codes "-") then None else Some model

abbrev pub pair_entry : List (List ℕ) → Option Entry
pair_entry (cell ∷ model ∷ []) = Some (PairLine (lowered cell) (paired_model model))
pair_entry words = None

-- `port CELL PORT SIGNAL`; SIGNAL is as written
abbrev pub port_entry : List (List ℕ) → Option Entry
port_entry (cell ∷ port ∷ signal ∷ []) = Some (PortLine (lowered cell) (lowered port) signal)
port_entry words = None

-- `hold CELL NET [SIZE]`; SIZE is 1 by default
abbrev pub hold_entry : List (List ℕ) → Option Entry
hold_entry (cell ∷ net ∷ []) = Some (HoldLine (lowered cell) (lowered net) usual_size)
hold_entry (cell ∷ net ∷ size ∷ []) = Some (HoldLine (lowered cell) (lowered net) (size_of size))
hold_entry words = None

-- `keeper CELL DEV..`
abbrev pub keeper_entry : List (List ℕ) → Option Entry
keeper_entry [] = None
keeper_entry (cell ∷ devices) = if is_empty devices then None else Some (KeeperLine (lowered cell) (map lowered devices))

-- `match CELL NET [!]LATCH`, `match CELL INST:LATCH [!]LATCH`, cut at the first `:`; each LATCH is as written
abbrev pub match_by : List ℕ → List ℕ → Option (List ℕ × List ℕ) → List ℕ → Entry
match_by cell place None latch = MatchLine (lowered cell) (lowered place) (signed latch)
match_by cell place (Some cut) latch = InstanceMatchLine (lowered cell) (lowered cut.0) cut.1 (signed latch)

abbrev pub match_entry : List (List ℕ) → Option Entry
match_entry (cell ∷ place ∷ latch ∷ []) = Some (match_by cell place (cut_first 58 place) latch)
match_entry words = None

-- `enter CELL PHASE NET BIT`
abbrev pub enter_entry : List (List ℕ) → Option Entry
enter_entry (cell ∷ phase ∷ net ∷ bit ∷ []) = Some (EnterLine (lowered cell) (lowered phase) (lowered net) (bit_of bit))
enter_entry words = None

-- `observe CELL PORT PHASE..`
abbrev pub observe_entry : List (List ℕ) → Option Entry
observe_entry (cell ∷ port ∷ phases) = if is_empty phases then None else Some (ObserveLine (lowered cell) (lowered port) (map lowered phases))
observe_entry words = None

-- `assume CELL PHASE EXPR` or `assume CELL * EXPR`; the expression is the rest of the line
abbrev pub assumed_phase : List ℕ → Option (List ℕ)
assumed_phase phase = if bytes_eq phase (codes "*") then None else Some (lowered phase)

abbrev pub assume_entry : List (List ℕ) → Option Entry
assume_entry (cell ∷ phase ∷ words) =
    if is_empty words then None
    else Some (AssumeLine (lowered cell) (assumed_phase phase) (tokens_of words))
assume_entry words = None

-- By the first word. None where it is unknown, the number of words is wrong, or a value is none of those listed.
abbrev pub clocked_entry : List ℕ → List (List ℕ) → Option Entry
clocked_entry word rest =
    if bytes_eq word (codes "clock") then clock_entry rest
    else (if bytes_eq word (codes "phase") then phase_entry rest
    else (if bytes_eq word (codes "clockport") then clockport_entry rest
    else (if bytes_eq word (codes "defaultclock") then defaultclock_entry rest
    else (if bytes_eq word (codes "enter") then enter_entry rest
    else (if bytes_eq word (codes "observe") then observe_entry rest
    else (if bytes_eq word (codes "assume") then assume_entry rest
    else None))))))

abbrev pub entry_by : List ℕ → List (List ℕ) → Option Entry
entry_by word rest =
    if bytes_eq word (codes "scale") then scale_entry rest
    else (if bytes_eq word (codes "supply") then supply_entry rest
    else (if bytes_eq word (codes "device") then device_entry rest
    else (if bytes_eq word (codes "strength") then strength_entry rest
    else (if bytes_eq word (codes "pair") then pair_entry rest
    else (if bytes_eq word (codes "port") then port_entry rest
    else (if bytes_eq word (codes "hold") then hold_entry rest
    else (if bytes_eq word (codes "keeper") then keeper_entry rest
    else (if bytes_eq word (codes "match") then match_entry rest
    else clocked_entry word rest))))))))

unfoldable pub entry_of : List (List ℕ) → Option Entry
entry_of [] = None
entry_of (word ∷ rest) = entry_by word rest
