-- The keys of a line that may not repeat.
use Rattle.std.specs.Prelude.{ℕ, List, [], ◌∷◌, ◌++◌, if◌then◌else◌, map, codes, Option, Some, None}
use Rattle.vrt_model.specs.Lists.{has_name}
use Rattle.names.specs.Names.{with_name}
use Rattle.rules_lines.specs.declared.entry.ClockBit.{ClockBit}
use Rattle.rules_lines.specs.declared.entry.Entry.{Entry}
use Rattle.rules_lines.specs.declared.entry.Entry.TheVariants.{ScaleLine, SupplyLine, DeviceLine, StrengthLine, ClockLine, PhaseLine, ClockportLine, DefaultclockLine, PairLine, PortLine, HoldLine, KeeperLine, MatchLine, InstanceMatchLine, EnterLine, ObserveLine, AssumeLine}

-- A key is the words of its table before the last, each with a blank behind it, and its last word. Words hold no
-- blank, so two keys are the same text only where they have the same words.
pub record Key : Type 0 where
  pub front : List ℕ
  pub last : List ℕ

abbrev pub text : Key → List ℕ
text key = key.front ++ key.last

abbrev pub key : List ℕ → List ℕ → Key
key front last = record { front = front; last = last }

abbrev pub spaced : List ℕ → List ℕ
spaced word = word ++ 32 ∷ []

abbrev pub clocks_on : List ClockBit → List (List ℕ)
clocks_on bits = map (λ (b : ClockBit). b.clock) bits

abbrev pub keys_of : Entry → List Key
keys_of (ScaleLine scale) = key [] (codes "scale") ∷ []
keys_of (SupplyLine value nets) = map (key (codes "supply ")) nets
keys_of (DeviceLine model kind level) = key (codes "device ") model ∷ []
keys_of (StrengthLine cell device level) = key (codes "strength " ++ spaced cell) device ∷ []
keys_of (ClockLine names) = map (key (codes "clock ")) names
keys_of (PhaseLine name bits) = key (codes "phase ") name ∷ map (key (codes "phase " ++ spaced name)) (clocks_on bits)
keys_of (ClockportLine cell port clock) = key (codes "clockport " ++ spaced cell) port ∷ []
keys_of (DefaultclockLine clock) = key [] (codes "defaultclock") ∷ []
keys_of (PairLine cell model) = key (codes "pair ") cell ∷ []
keys_of (PortLine cell port signal) = key (codes "port " ++ spaced cell) port ∷ []
keys_of (HoldLine cell net size) = key (codes "hold " ++ spaced cell) net ∷ []
keys_of (KeeperLine cell devices) = map (key (codes "keeper " ++ spaced cell)) devices
keys_of (MatchLine cell net latch) = key (codes "match " ++ spaced cell) net ∷ []
keys_of (InstanceMatchLine cell inst inner latch) = key ((codes "match " ++ spaced cell) ++ spaced inst) inner ∷ []
keys_of (EnterLine cell phase net bit) = key ((codes "enter " ++ spaced cell) ++ spaced phase) net ∷ []
keys_of (ObserveLine cell port phases) = key (codes "observe " ++ spaced cell) port ∷ []
keys_of (AssumeLine cell phase tokens) = []

-- The last word of the first key that is there before, or before on the same line.
abbrev pub repeated : List (List ℕ) → List Key → Option (List ℕ)
repeated known [] = None
repeated known (k ∷ ks) = if has_name known (text k) then Some k.last else repeated (with_name known (text k)) ks
