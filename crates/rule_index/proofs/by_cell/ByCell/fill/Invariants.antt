use Rattle.std.proofs.Common.{◌≡◌, ◌++◌, ℕ, List, Some, map, filter, drop}
use Rattle.std.specs.Prelude.{bytes_eq, slice_get}
use Rattle.rule_index.specs.Lines.{IsPaired, places_in}
use Rattle.rule_index.proofs.by_cell.ByCell.fill.Given as goal

-- the rules at the places so far, and those of the rest, are the rules of each cell
abbrev pub invariant-loop-place : goal.invariant-loop-place
invariant-loop-place g l = record {
  paired : IsPaired l.self;
  so_far : (n : List ℕ) → map (slice_get l.rules) (places_in l.self n) ++ map Some (filter (λ q. bytes_eq (g.R.OfCell.cell_of q) n) (drop l.place l.rules)) ≡ map Some (filter (λ q. bytes_eq (g.R.OfCell.cell_of q) n) l.rules);
}
