-- On which lines a signal is driven and used.
use Rattle.std.specs.Prelude.{◌≡◌, ℕ, suc, Bool, false, not, cond, ◌&&◌, ◌||◌, ◌==◌, is_none, is_some, nat_lt, List, [], ◌∷◌, map, filter, slice_get, Option, Some, None}
use Rattle.blif_checks.specs.declared.mentions.Mention.{Mention}
use Rattle.blif_checks.specs.declared.notes.Note.{Note}

-- a line is there, and is at most this one
abbrev pub is_by : Option ℕ → ℕ → Bool
is_by None l = false
is_by (Some line) l = not (nat_lt l line)

-- how many lines are at most this one
abbrev pub count_to : ℕ → List ℕ → ℕ
count_to l [] = 0
count_to l (line ∷ lines) = cond (not (nat_lt l line)) (suc (count_to l lines)) (count_to l lines)

-- the two least lines on which a signal is driven, and the least on which it is used
pub record IsNote (note : Note) (driven used : List ℕ) : Type 0 where
  pub first_is : (l : ℕ) → is_by note.first l ≡ nat_lt 0 (count_to l driven)
  pub second_is : (l : ℕ) → is_by note.second l ≡ nat_lt 1 (count_to l driven)
  pub used_is : (l : ℕ) → is_by note.used l ≡ nat_lt 0 (count_to l used)

-- the lines of the mentions of a signal
abbrev pub lines_for : ℕ → List Mention → List ℕ
lines_for k mentions = map (λ (o : Mention). o.line) (filter (λ (o : Mention). o.signal == k) mentions)

pub record AreNotes (notes : List Note) (drivers uses : List Mention) : Type 0 where
  pub each : (k : ℕ) (note : Note) → slice_get notes k ≡ Some note → IsNote note (lines_for k drivers) (lines_for k uses)

-- a line is this one
abbrev pub is_line : Option ℕ → ℕ → Bool
is_line None l = false
is_line (Some line) l = line == l

abbrev pub no_note : Note
no_note = record { first = None; second = None; used = None }

abbrev pub option_is : {X : Type 0} → (X → Bool) → Option X → Bool
option_is test None = false
option_is test (Some x) = test x

-- a mention is the second driver of its signal, or the first use of one without a driver
abbrev pub is_second : List Note → Mention → Bool
is_second notes o = option_is (λ (note : Note). is_line note.second o.line) (slice_get notes o.signal)

abbrev pub is_first_use : List Note → Mention → Bool
is_first_use notes o = option_is (λ (note : Note). is_none note.first && is_line note.used o.line) (slice_get notes o.signal)

-- a signal has one driver, or is neither driven nor used
abbrev pub is_good : Note → Bool
is_good note = is_none note.second && (is_some note.first || is_none note.used)
