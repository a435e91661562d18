use Rattle.std.proofs.Common.{◌≡◌, [], length, take}
use Rattle.blif_checks.specs.Notes.{AreNotes}
use Rattle.blif_checks.proofs.notes.notes_of.Given as goal

-- the drivers so far are noted
abbrev pub invariant-loop-driver : goal.invariant-loop-driver
invariant-loop-driver l = record { notes : AreNotes l.notes.items (take l.driver-index l.drivers) []; count : length l.notes.items ≡ l.count }

-- and the uses so far
abbrev pub invariant-loop-used : goal.invariant-loop-used
invariant-loop-used l = record { notes : AreNotes l.notes.items l.drivers (take l.used-index l.uses); count : length l.notes.items ≡ l.count }
