use Rattle.std.proofs.Common.{◌≡◌, ◌++◌, drop, map}
use Rattle.output_joins.specs.Joins.{handle_in}
use Rattle.cell_writer.proofs.texts.add_handles.Given as goal

-- the handles so far, and what is left
abbrev pub invariant-loop-signal : goal.invariant-loop-signal
invariant-loop-signal l =
    l.chosen.items ++ map (handle_in l.handles) (drop l.signal-index l.signals) ≡ l.initial.chosen.items ++ map (handle_in l.handles) l.signals
