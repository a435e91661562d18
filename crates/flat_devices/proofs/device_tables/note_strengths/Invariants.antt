use Rattle.std.proofs.Common.{List, ℕ, drop}
use Rattle.flat_devices.specs.DeviceTables.{first_some, level_at}
use Rattle.rule_index.proofs.FirstNotes.{IsNoting}
use Rattle.flat_devices.proofs.device_tables.note_strengths.Given as goal

-- what is noted, and else what the rest says
abbrev pub invariant-loop-place : goal.invariant-loop-place
invariant-loop-place l = IsNoting _ l.table (λ (n : List ℕ). first_some (level_at l.rules n) (drop l.place-index l.places)) (λ (n : List ℕ). first_some (level_at l.rules n) l.places)
