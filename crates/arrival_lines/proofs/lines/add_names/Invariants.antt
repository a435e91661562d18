use Rattle.std.proofs.Common.{◌≡◌, ◌++◌, ℕ, List, drop, map}
use Rattle.arrival_lines.proofs.lines.add_names.Given as goal

-- the names so far, and those that are left
abbrev pub invariant-loop-name : goal.invariant-loop-name
invariant-loop-name l =
    l.names ++ map (λ (name : List ℕ). name ++ l.behind) (drop l.name-index l.more) ≡ l.fn.names ++ map (λ (name : List ℕ). name ++ l.behind) l.more
