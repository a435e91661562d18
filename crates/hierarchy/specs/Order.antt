-- The order of the cells, or the first fault.
use Rattle.std.specs.Prelude.{◌≡◌, ◌⊎◌, ◌<◌, ℕ, List, length, get_or, None, Some, option_map, Result, Ok, Err}
use Rattle.vrt_model.specs.Hierarchy.{IsOrdered, Missing, bad_card, cell_order, depth_of_cell, missing_name}
use Rattle.vrt_model.specs.declared.design.Design.{Design}
use Rattle.vrt_model.specs.declared.rules.Rules.{Rules}
use Rattle.hierarchy.specs.Cards.{IsCardFault}
use Rattle.hierarchy.specs.Nested.{AreNested, IsNestingFault}
use Rattle.hierarchy.specs.declared.faults.HierFault.{HierFault}
use Rattle.hierarchy.specs.declared.faults.HierFault.TheVariants.{NoSuchName, NoMemory}

-- the fault of a rules line that names what is not there
abbrev pub name_fault : Missing → HierFault
name_fault missing = NoSuchName missing.line missing.name

-- the first such line, with the first such name on it
abbrev pub IsNameFault : Design → Rules → HierFault → Type 0
IsNameFault design rules f = option_map name_fault (missing_name design rules) ≡ Some f

-- A call refuses the first such line. Memory may run out.
abbrev pub NamesGive : {T : Type 0} → Design → Rules → Result T HierFault → Type 0
NamesGive design rules (Ok x) = missing_name design rules ≡ None
NamesGive design rules (Err f) = (f ≡ NoMemory) ⊎ IsNameFault design rules f

-- The fault of the netlist that stands: that of the first instance card that does not fit; else that of a cell that
-- contains itself or is too deep.
abbrev pub IsDesignFault : Design → HierFault → Type 0
IsDesignFault design f = IsCardFault design f ⊎ ((bad_card design ≡ None) × IsNestingFault design f)

-- the depth of each cell
pub record AreCellDepths (design : Design) (depths : List ℕ) : Type 0 where
  pub count : length depths ≡ length design.cells
  pub each : (n : ℕ) → n < length design.cells → get_or depths n 0 ≡ depth_of_cell design n

-- each card fits, and cells stand in one another as they may
pub record HasDepths (design : Design) (depths : List ℕ) : Type 0 where
  pub cards : bad_card design ≡ None
  pub nested : AreNested design
  pub are : AreCellDepths design depths

-- A call gives the depths of the cells, or the fault of the netlist. Memory may run out.
abbrev pub DepthsGive : Design → Result (List ℕ) HierFault → Type 0
DepthsGive design (Ok depths) = HasDepths design depths
DepthsGive design (Err f) = (f ≡ NoMemory) ⊎ IsDesignFault design f

-- The fault that stands: that of the netlist; else that of a name in the rules that is not there.
abbrev pub IsHierFault : Design → Rules → HierFault → Type 0
IsHierFault design rules f = IsDesignFault design f ⊎ ((bad_card design ≡ None) × AreNested design × IsNameFault design rules f)

-- A call gives the cells in their order exactly where no fault stands, and else the first fault. Memory may run out.
abbrev pub OrderGives : Design → Rules → Result (List ℕ) HierFault → Type 0
OrderGives design rules (Ok order) = IsOrdered design rules × (order ≡ cell_order design)
OrderGives design rules (Err f) = (f ≡ NoMemory) ⊎ IsHierFault design rules f
