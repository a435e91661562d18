use Rattle.std.proofs.Common.{take}
use Rattle.std.specs.Prelude.{filter_map}
use Rattle.latch_match.specs.Looked.{ruled_at}
use Rattle.name_tables.specs.Tables.{IsTable, first_value}
use Rattle.latch_match.proofs.lookups.add_signals.Given as goal

-- the rules at the places so far
abbrev pub invariant-loop-place : goal.invariant-loop-place
invariant-loop-place l = IsTable (filter_map (ruled_at (first_value l.signals) l.rules) (take l.place-index l.places)) l.table
