use Rattle.std.proofs.Common.{take}
use Rattle.name_tables.specs.Tables.{IsTable}
use Rattle.prepared_tables.proofs.NotedLaws.{numbered}
use Rattle.prepared_tables.specs.ModelNames.{low_name}
use Rattle.prepared_tables.proofs.by_name.add_all_lowered.Given as goal

-- the models so far
abbrev pub invariant-loop-place : goal.invariant-loop-place
invariant-loop-place l = IsTable (numbered low_name 0 (take l.place l.models)) l.table
