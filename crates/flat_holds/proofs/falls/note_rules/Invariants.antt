use Rattle.std.proofs.Common.{length}
use Rattle.flat_holds.proofs.NoteLaws.{IsNoting}
use Rattle.flat_holds.specs.Falls.{best_at}
use Rattle.flat_holds.proofs.falls.note_rules.Given as goal

-- what is noted, and what the rules that are left will note
abbrev pub invariant-lines : goal.invariant-lines
invariant-lines l =
    IsNoting (λ n. best_at l.design l.rules l.unrolled n l.number l.place l.lines) l.initial.table.items l.table.items
    (λ n. best_at l.design l.rules l.unrolled n l.number l.place l.left)

abbrev pub decreases-lines : goal.decreases-lines
decreases-lines l = length l.left
