-- A cell and those that stand in it.
use Rattle.std.specs.Prelude.{◌≡◌, ◌⊎◌, ◌↔◌, ℕ, List, Bool, true, filter}
use Rattle.rule_index.specs.Firsts.{value_in}
use Rattle.rule_index.specs.Tables.{cell_numbered}
use Rattle.rule_index.specs.declared.index.RuleIndex.{RuleIndex}
use Rattle.vrt_model.specs.Hierarchy.{cells_in}
use Rattle.vrt_model.specs.Nesting.{IsWithin}
use Rattle.vrt_model.specs.declared.design.Design.{Design}

-- the tables have the numbers of the cells by their names
abbrev pub AreNumbered : Design → RuleIndex → Type 0
AreNumbered design index = (name : List ℕ) → value_in index.cells name ≡ cell_numbered design.cells name

-- a cell is this one, or stands in it at any depth
abbrev pub IsBelow : Design → ℕ → ℕ → Type 0
IsBelow design top n = (n ≡ top) ⊎ IsWithin (cells_in design) n top

-- a cell and those that stand in it at any depth, in the order of all
pub record AreBelow (design : Design) (top : ℕ) (order cells : List ℕ) : Type 0 where
  pub keeps : ℕ → Bool
  pub kept : (n : ℕ) → (keeps n ≡ true) ↔ IsBelow design top n
  pub are : cells ≡ filter keeps order
