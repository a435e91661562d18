-- The first signal of a model with two drivers or none.
use Rattle.std.specs.Prelude.{◌≡◌, ◌⊎◌, ◌≤◌, ℕ, Bool, true, false, ◌==◌, ◌&&◌, ◌||◌, List, [], get_or, length, map, find, nat_le, cond, Option, Some, None, Result, Ok, Err}
use Rattle.vrt_model.specs.Lists.{At, has_name}
use Rattle.vrt_model.specs.Models.{DriverFault, Never, Twice, drivers_in, is_driven_twice_on, is_undriven_on, uses_in}
use Rattle.vrt_model.specs.declared.blif.Blif.{Blif}
use Rattle.vrt_model.specs.declared.blif.BlifModel.{BlifModel}
use Rattle.blif_checks.specs.Mentions.{numbered}
use Rattle.blif_checks.specs.Notes.{AreNotes, is_first_use, is_second}
use Rattle.blif_checks.specs.declared.faults.ModelFault.{ModelFault}
use Rattle.blif_checks.specs.declared.faults.ModelFault.TheVariants.{DrivenTwice, Undriven, NoMemory}
use Rattle.blif_checks.specs.declared.mentions.Mention.{Mention}
use Rattle.blif_checks.specs.declared.notes.Note.{Note}

-- a fault of drivers, as it is told
abbrev pub of_driver : DriverFault → ModelFault
of_driver (Twice line name) = DrivenTwice line name
of_driver (Never line name) = Undriven line name

-- a mention is a second driver, or a first use without a driver
abbrev pub is_bad : List Note → Mention → Bool
is_bad notes o = is_second notes o || is_first_use notes o

-- the least line with a bad mention, if there is any
abbrev pub IsLeastLine : (Mention → Bool) → List Mention → Option ℕ → Type 0
IsLeastLine bad mentions None = (i : ℕ) (o : Mention) → At mentions i o → bad o ≡ false
IsLeastLine bad mentions (Some line) =
    ((i : ℕ) × (o : Mention) × At mentions i o × (bad o ≡ true) × (o.line ≡ line)) × ((i : ℕ) (o : Mention) → At mentions i o → bad o ≡ true → line ≤ o.line)

-- a mention on this line passes the test
abbrev pub passes_on : (Mention → Bool) → ℕ → Mention → Bool
passes_on test line o = (o.line == line) && test o

-- the earlier of a line and another
abbrev pub earlier_line : Option ℕ → ℕ → Option ℕ
earlier_line None line = Some line
earlier_line (Some least) line = cond (nat_le least line) (Some least) (Some line)

-- on the least line, the first second driver, else the first use without a driver
pub record IsOnLine (notes : List Note) (names : List (List ℕ)) (mentions : List Mention) (line : ℕ) (f : ModelFault) : Type 0 where
  pub least : IsLeastLine (is_bad notes) mentions (Some line)
  pub told :
      ((o : Mention) × (find (passes_on (is_second notes) line) mentions ≡ Some o) × (f ≡ DrivenTwice line (get_or names o.signal [])))
      ⊎ ((o : Mention) × (find (passes_on (is_second notes) line) mentions ≡ None) × (find (passes_on (is_first_use notes) line) mentions ≡ Some o)
      × (f ≡ Undriven line (get_or names o.signal [])))

-- a name has no fault on any line
pub record IsQuiet (blif : Blif) (m : BlifModel) (name : List ℕ) : Type 0 where
  pub once : (line : ℕ) → is_driven_twice_on blif m line name ≡ false
  pub unused : (line : ℕ) → is_undriven_on blif m line name ≡ false

-- what notes by names show of a model; a name without a note has no fault
pub record AreNotesOf (blif : Blif) (m : BlifModel) (notes : List Note) (names : List (List ℕ)) : Type 0 where
  pub others : (name : List ℕ) → has_name names name ≡ false → IsQuiet blif m name
  pub count : length notes ≡ length names
  pub notes_are : AreNotes notes (map (numbered names) (drivers_in blif m)) (map (numbered names) (uses_in blif m))

abbrev pub MentionsGive : {T : Type 0} → List Note → List (List ℕ) → List Mention → Result T ModelFault → Type 0
MentionsGive notes names mentions (Ok x) = (i : ℕ) (o : Mention) → At mentions i o → is_bad notes o ≡ false
MentionsGive notes names mentions (Err f) = (f ≡ NoMemory) ⊎ ((line : ℕ) × IsOnLine notes names mentions line f)
