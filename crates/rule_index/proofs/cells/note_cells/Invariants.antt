use Rattle.std.proofs.Common.{◌≡◌, ℕ, List, drop}
use Rattle.std.specs.Option.{option_or}
use Rattle.rule_index.proofs.CellLaws.{from}
use Rattle.name_tables.specs.Firsts.{IsEven, value_in}
use Rattle.rule_index.specs.Tables.{cell_numbered}
use Rattle.rule_index.proofs.cells.note_cells.Given as goal

-- the number so far, and else that among the rest, is the number of the cell
abbrev pub invariant-loop-number : goal.invariant-loop-number
invariant-loop-number l = record {
  even : IsEven l.table;
  so_far : (n : List ℕ) → option_or (value_in l.table n) (from l.number (cell_numbered (drop l.number l.cells) n)) ≡ cell_numbered l.cells n;
}
