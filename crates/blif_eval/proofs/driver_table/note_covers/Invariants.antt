use Rattle.blif_eval.specs.Drivers.{AreNoted}
use Rattle.blif_eval.proofs.driver_table.note_covers.Given as goal

-- the covers so far are noted
abbrev pub invariant-loop-place : goal.invariant-loop-place
invariant-loop-place l = AreNoted l.flat l.place 0 l.drivers.items
