use Rattle.phase_wishes.proofs.TableLaws.{IsOfEntersTo}
use Rattle.phase_wishes.specs.Held.{Puts}
use Rattle.phase_wishes.proofs.tables.put_enters.Given as goal

-- what the holds before this one ought to have
abbrev pub invariant-loop-place : goal.invariant-loop-place
invariant-loop-place l = Puts (IsOfEntersTo l.fn.circuit l.fn.phase l.place) l.fn.table.items l.table.items
