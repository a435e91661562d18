-- Which cells stand in one another as they may.
use Rattle.std.specs.Prelude.{◌≡◌, ◌⊎◌, ℕ, ◌<◌, ◌≤◌, List, map, length, position, unwrap_or, bytes_eq, Result, Ok, Err}
use Rattle.vrt_model.specs.Comparison.{cell_at}
use Rattle.vrt_model.specs.Hierarchy.{IsRecursive, IsTooDeep, cells_in, depth_of_cell}
use Rattle.vrt_model.specs.Nesting.{ContainsItself, IsRecursion}
use Rattle.vrt_model.specs.Unrolled.{cell_named, deepest}
use Rattle.vrt_model.specs.declared.design.Cell.{Cell}
use Rattle.vrt_model.specs.declared.design.Design.{Design}
use Rattle.vrt_model.specs.declared.design.InstanceCard.{InstanceCard}
use Rattle.hierarchy.specs.declared.faults.HierFault.{HierFault}
use Rattle.hierarchy.specs.declared.faults.HierFault.TheVariants.{Recursion, Depth, NoMemory}

-- the cells of a cell's instances, by their numbers
abbrev pub numbers_in : List (List ℕ) → Cell → List ℕ
numbers_in names cell = map (λ (i : InstanceCard). unwrap_or (position (bytes_eq i.cell) names) 0) cell.instances

-- the same for each cell
abbrev pub AreInner : Design → List (List ℕ) → Type 0
AreInner design all = all ≡ map (λ (c : Cell). map (λ (i : InstanceCard). cell_named design i.cell) c.instances) design.cells

-- no cell contains itself
abbrev pub AreFounded : Design → Type 0
AreFounded design = (n : ℕ) → n < length design.cells → ¬ ContainsItself (cells_in design) n

-- and none is deeper than 32
pub record AreNested (design : Design) : Type 0 where
  pub well_founded : AreFounded design
  pub shallow : (n : ℕ) → n < length design.cells → depth_of_cell design n ≤ deepest

-- the first cell that contains itself, and a chain from it down to it again
abbrev pub IsRecursionFault : Design → HierFault → Type 0
IsRecursionFault design f = (n : ℕ) × (chain : List ℕ) × IsRecursive design n × IsRecursion (cells_in design) n chain × (f ≡ Recursion (cell_at design n).line chain)

-- the first cell deeper than 32
abbrev pub IsDepthFault : Design → HierFault → Type 0
IsDepthFault design f = (n : ℕ) × IsTooDeep design n × (f ≡ Depth (cell_at design n).line (depth_of_cell design n))

-- a cell that contains itself comes before one that is too deep
abbrev pub IsNestingFault : Design → HierFault → Type 0
IsNestingFault design f = IsRecursionFault design f ⊎ (AreFounded design × IsDepthFault design f)

-- A call refuses the first cell that contains itself, else the first deeper than 32. Memory may run out.
abbrev pub NestingGives : {T : Type 0} → Design → Result T HierFault → Type 0
NestingGives design (Ok x) = AreNested design
NestingGives design (Err f) = (f ≡ NoMemory) ⊎ IsNestingFault design f
