-- Numbers of cells by their names, and the cells that are kept.
use Rattle.std.specs.Prelude.{◌==◌, ◌||◌, ℕ, Bool, List, map, unwrap_or}
use Rattle.rule_index.specs.Firsts.{value_in}
use Rattle.rule_index.specs.declared.index.RuleIndex.{RuleIndex}
use Rattle.vrt_model.specs.Lists.{mark_at}
use Rattle.vrt_model.specs.declared.design.InstanceCard.{InstanceCard}

-- the number of the cell of a name, 0 where there is none
abbrev pub number_in : RuleIndex → List ℕ → ℕ
number_in index name = unwrap_or (value_in index.cells name) 0

-- the numbers of the cells on instance cards
abbrev pub numbers_on : RuleIndex → List InstanceCard → List ℕ
numbers_on index cards = map (λ (i : InstanceCard). number_in index i.cell) cards

-- the cell is kept: it is this one, or is marked
abbrev pub keeps : ℕ → List Bool → ℕ → Bool
keeps top marks n = (n == top) || mark_at marks n
