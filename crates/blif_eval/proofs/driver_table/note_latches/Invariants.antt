use Rattle.std.proofs.Common.{length}
use Rattle.blif_eval.specs.Drivers.{AreMade, AreNoted}
use Rattle.blif_eval.proofs.driver_table.note_latches.Given as goal

-- the latches so far are noted, and their elements made
abbrev pub invariant-loop-at : goal.invariant-loop-at
invariant-loop-at l = record {
  noted : AreNoted l.flat (length l.flat.covers) l.at l.drivers.items;
  made : AreMade l.flat l.at l.elements;
}
