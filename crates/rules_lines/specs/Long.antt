-- Lines with a list of words, and the others.
use Rattle.std.specs.Prelude.{ℕ, List, Bool, ◌||◌, if◌then◌else◌, codes, bytes_eq, Option, None}
use Rattle.rules_lines.specs.Lines.{assume_entry, clock_entry, clockport_entry, defaultclock_entry, device_entry, enter_entry, hold_entry, keeper_entry, match_entry, observe_entry, pair_entry, phase_entry, port_entry, scale_entry, strength_entry, supply_entry}
use Rattle.rules_lines.specs.declared.entry.Entry.{Entry}

-- A line with this first word has a list of words.
abbrev pub is_long : List ℕ → Bool
is_long word =
    bytes_eq word (codes "supply") || bytes_eq word (codes "keeper") || bytes_eq word (codes "clock") || bytes_eq word (codes "phase")
    || bytes_eq word (codes "observe") || bytes_eq word (codes "assume")

abbrev pub long_entry : List ℕ → List (List ℕ) → Option Entry
long_entry word rest =
    if bytes_eq word (codes "supply") then supply_entry rest
    else (if bytes_eq word (codes "keeper") then keeper_entry rest
    else (if bytes_eq word (codes "clock") then clock_entry rest
    else (if bytes_eq word (codes "phase") then phase_entry rest
    else (if bytes_eq word (codes "observe") then observe_entry rest
    else (if bytes_eq word (codes "assume") then assume_entry rest
    else None)))))

abbrev pub short_entry : List ℕ → List (List ℕ) → Option Entry
short_entry word rest =
    if bytes_eq word (codes "scale") then scale_entry rest
    else (if bytes_eq word (codes "device") then device_entry rest
    else (if bytes_eq word (codes "strength") then strength_entry rest
    else (if bytes_eq word (codes "pair") then pair_entry rest
    else (if bytes_eq word (codes "port") then port_entry rest
    else (if bytes_eq word (codes "hold") then hold_entry rest
    else (if bytes_eq word (codes "match") then match_entry rest
    else (if bytes_eq word (codes "clockport") then clockport_entry rest
    else (if bytes_eq word (codes "defaultclock") then defaultclock_entry rest
    else (if bytes_eq word (codes "enter") then enter_entry rest
    else None)))))))))
