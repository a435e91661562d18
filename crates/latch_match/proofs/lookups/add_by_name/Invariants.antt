use Rattle.std.proofs.Common.{map, take}
use Rattle.latch_match.specs.Looked.{by_name}
use Rattle.name_tables.specs.Tables.{IsTable}
use Rattle.latch_match.proofs.lookups.add_by_name.Given as goal

-- the signals so far
abbrev pub invariant-loop-signal : goal.invariant-loop-signal
invariant-loop-signal l = IsTable (map (by_name l.flat) (take l.signal-index l.signals)) l.table
