-- The faults of a rules file.
use Rattle.std.specs.Prelude.{ℕ, List, [], ◌∷◌, ◌+◌, Bool, false, not, ◌||◌, nat_lt, nat_le, length, map, codes, bytes_eq, if◌then◌else◌, is_none, Option, Some, None, option_map}
use Rattle.std.specs.List.{list_any}
use Rattle.text_lines.specs.Faults.{first_fault, first_of, when}
use Rattle.vrt_model.specs.Lists.{has_name, is_empty}
use Rattle.names.specs.Names.{with_names}
use Rattle.rules_reader.specs.Keys.{clocks_on, keys_of, repeated, text}
use Rattle.rules_expression.specs.Readings.{formula_of}
use Rattle.rules_reader.specs.Tables.{clocks_of, phase_names_of, scale_by, told}
use Rattle.rules_expression.specs.Tokens.{nests_deeper, operator_count}
use Rattle.rules_reader.specs.declared.cards.Card.{Card}
use Rattle.rules_lines.specs.Words.{at_scale}
use Rattle.rules_lines.specs.declared.entry.ByScale.{ByScale}
use Rattle.rules_lines.specs.declared.entry.ClockBit.{ClockBit}
use Rattle.rules_lines.specs.declared.entry.Entry.{Entry}
use Rattle.rules_lines.specs.declared.entry.Entry.TheVariants.{ScaleLine, DeviceLine, StrengthLine, ClockLine, PhaseLine, ClockportLine, DefaultclockLine, HoldLine, EnterLine, ObserveLine, AssumeLine}
use Rattle.rules_reader.specs.declared.faults.RulesFault.{RulesFault}
use Rattle.rules_reader.specs.declared.faults.RulesFault.TheVariants.{NotText, Word, Number, Expr, Twice, UnknownPhase, UnknownClock, Limit}
use Rattle.rules_reader.specs.declared.known.Known.{Known}

-- ---- what the lines before a line tell of it

abbrev pub key_texts : Entry → List (List ℕ)
key_texts entry = map text (keys_of entry)

-- the phases that a line names
abbrev pub phases_named : Entry → List (List ℕ)
phases_named (EnterLine cell phase net bit) = phase ∷ []
phases_named (ObserveLine cell port phases) = phases
phases_named (AssumeLine cell (Some phase) tokens) = phase ∷ []
phases_named entry = []

-- the level or the size of a line
abbrev pub levels_on : Entry → List ByScale
levels_on (DeviceLine model kind level) = level ∷ []
levels_on (StrengthLine cell device level) = level ∷ []
levels_on (HoldLine cell net size) = size ∷ []
levels_on entry = []

-- the clocks and phases so far, the keys so far, whether a line names a phase, the scale so far, and whether a line has a
-- level or a size
unfoldable pub known_by : List Card → Known
known_by before = record {
  clocks = clocks_of before;
  phases = phase_names_of before;
  keys = with_names [] (told key_texts before);
  is_phase_named = not (is_empty (told phases_named before));
  scale = scale_by before;
  has_levels = not (is_empty (told levels_on before));
}

-- `all` is known while there is no `phase` line
abbrev pub known_from : List (List ℕ) → List (List ℕ)
known_from [] = codes "all" ∷ []
known_from (name ∷ names) = name ∷ names

-- ---- the conditions

-- a level or a size is not of its range and form at this scale, or a bit is neither 0 nor 1
abbrev pub is_bad_bit : ClockBit → Bool
is_bad_bit b = is_none b.bit

abbrev pub has_bad_number : ℕ → Entry → Bool
has_bad_number scale (DeviceLine model kind level) = is_none (at_scale scale level)
has_bad_number scale (StrengthLine cell device level) = is_none (at_scale scale level)
has_bad_number scale (PhaseLine name bits) = list_any is_bad_bit bits
has_bad_number scale (HoldLine cell net size) = is_none (at_scale scale size)
has_bad_number scale (EnterLine cell phase net bit) = is_none bit
has_bad_number scale entry = false

-- an expression of another form
abbrev pub has_bad_expression : Entry → Bool
has_bad_expression (AssumeLine cell phase tokens) = is_none (formula_of tokens)
has_bad_expression entry = false

abbrev pub is_bit_of : List ℕ → ClockBit → Bool
is_bit_of clock b = bytes_eq clock b.clock

-- a clock that has no bit among these
abbrev pub lacks_bit : List ClockBit → List ℕ → Bool
lacks_bit bits clock = not (list_any (is_bit_of clock) bits)

-- a `scale` line after a line with a level or a size, a `clock` line after a `phase` line, a `phase` line that gives some
-- clock no bit, or a `phase` line after a line that names a phase
abbrev pub is_misplaced : Known → Entry → Bool
is_misplaced known (ScaleLine scale) = known.has_levels
is_misplaced known (ClockLine names) = not (is_empty known.phases)
is_misplaced known (PhaseLine name bits) = known.is_phase_named || list_any (lacks_bit bits) known.clocks
is_misplaced known entry = false

-- the first that is not known
abbrev pub first_missing : List (List ℕ) → List (List ℕ) → Option (List ℕ)
first_missing known [] = None
first_missing known (name ∷ names) = if has_name known name then first_missing known names else Some name

-- the clocks that a line names
abbrev pub clocks_named : Entry → List (List ℕ)
clocks_named (ClockportLine cell port clock) = clock.name ∷ []
clocks_named (DefaultclockLine clock) = clock ∷ []
clocks_named (PhaseLine name bits) = clocks_on bits
clocks_named entry = []

-- 16 clocks, 16 phases, 64 nested parentheses, 1,000 operators
abbrev pub passes_own_limit : List (List ℕ) → List (List ℕ) → Entry → Bool
passes_own_limit clocks phases (ClockLine names) = nat_lt 16 (length clocks + length names)
passes_own_limit clocks phases (PhaseLine name bits) = nat_le 16 (length phases)
passes_own_limit clocks phases (AssumeLine cell phase tokens) = nests_deeper 64 0 tokens || nat_lt 1000 (operator_count tokens)
passes_own_limit clocks phases entry = false

-- 100,000 lines
abbrev pub passes_limit : ℕ → List (List ℕ) → List (List ℕ) → Entry → Bool
passes_limit count clocks phases entry = nat_le 100000 count || passes_own_limit clocks phases entry

-- ---- the faults

-- the faults on a line, by their numbers
abbrev pub entry_faults : ℕ → Known → ℕ → Entry → List (Option RulesFault)
entry_faults count known line entry =
    when (is_misplaced known entry) (Word line)
    ∷ when (has_bad_number known.scale entry) (Number line)
    ∷ when (has_bad_expression entry) (Expr line)
    ∷ option_map (Twice line) (repeated known.keys (keys_of entry))
    ∷ option_map (UnknownPhase line) (first_missing (known_from known.phases) (phases_named entry))
    ∷ option_map (UnknownClock line) (first_missing known.clocks (clocks_named entry))
    ∷ when (passes_limit count known.clocks known.phases entry) (Limit line)
    ∷ []

unfoldable pub entry_fault : ℕ → Known → ℕ → Entry → Option RulesFault
entry_fault count known line entry = first_of (entry_faults count known line entry)

-- a line that says nothing has an unknown first word, a wrong number of words, or a value that is none of those listed
abbrev pub saying_fault : ℕ → Known → ℕ → Option Entry → Option RulesFault
saying_fault count known line None = Some (Word line)
saying_fault count known line (Some entry) = entry_fault count known line entry

-- of several faults on one line the one of the lowest number; so many lines stand before it
abbrev pub fault_by : ℕ → Known → Card → Option RulesFault
fault_by count known card = if card.is_all_text then saying_fault count known card.line card.entry else Some (NotText card.line)

abbrev pub fault_of : List Card → Card → Option RulesFault
fault_of before card = fault_by (length before) (known_by before) card

-- the first fault of the lines, to compute with
abbrev pub rules_fault : List Card → Option RulesFault
rules_fault cards = first_fault fault_of cards
