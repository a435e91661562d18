use Rattle.flat_holds.proofs.NoteLaws.{IsNoting, from}
use Rattle.flat_holds.specs.Falls.{best_from}
use Rattle.flat_holds.proofs.falls.note_places.Given as goal

-- what is noted, and what the rules at the places that are left will note
abbrev pub invariant-loop-number : goal.invariant-loop-number
invariant-loop-number l =
    IsNoting (λ n. best_from l.design l.rules l.holds l.unrolled n 0 l.unrolled.places) l.initial.table.items l.table.items (from l.design l.rules l.holds l.unrolled l.number)
