-- Lists of signals as they grow.
use Rattle.std.specs.Prelude.{◌≡◌, ℕ, List, [], ◌∷◌, ◌++◌, if◌then◌else◌}
use Rattle.vrt_model.specs.Lists.{has_name}
use Rattle.blif_reader.specs.Models.{Listed, lines, names}

-- one signal more, unless its name is there
abbrev pub with_signal : List Listed → Listed → List Listed
with_signal found signal = if has_name (names found) signal.name then found else found ++ signal ∷ []

-- several, one by one
abbrev pub with_signals : List Listed → List Listed → List Listed
with_signals found [] = found
with_signals found (signal ∷ signals) = with_signals (with_signal found signal) signals

-- these are the names of signals, and their lines
abbrev pub AreListed : List (List ℕ) → List ℕ → List Listed → Type 0
AreListed seen numbers found = (seen ≡ names found) × (numbers ≡ lines found)

-- these are those of signals that come to all with some more
abbrev pub AreAmong : List (List ℕ) → List ℕ → List Listed → List Listed → Type 0
AreAmong seen numbers rest all = (now : List Listed) × AreListed seen numbers now × (with_signals now rest ≡ all)
