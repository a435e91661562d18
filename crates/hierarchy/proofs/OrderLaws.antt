-- The order of the cells, and all faults in their order.
use Rattle.std.proofs.Common.{◌≡◌, ◌<◌, ◌≤◌, inl, inr, ℕ, List, length, get_or, flat_map, None, ap, ◌∙◌, arith}
use Rattle.std.specs.Prelude.{◌⊎◌, Ok}
use Rattle.nesting.specs.Depths.{AreDepths}
use Rattle.vrt_model.specs.Hierarchy.{cell_order, depth_of_cell, missing_name, numbers}
use Rattle.vrt_model.specs.Nesting.{depth_in}
use Rattle.vrt_model.specs.Unrolled.{deepest}
use Rattle.vrt_model.specs.declared.design.Design.{Design}
use Rattle.vrt_model.specs.declared.rules.Rules.{Rules}
use Rattle.hierarchy.proofs.ListedLaws.{listed}
use Rattle.hierarchy.proofs.NestedLaws.{count_is, of_cells}
use Rattle.hierarchy.specs.Cards.{IsCardFault}
use Rattle.hierarchy.specs.Listed.{at_depth}
use Rattle.hierarchy.specs.Nested.{AreInner}
use Rattle.hierarchy.specs.Order.{AreCellDepths, HasDepths, IsDesignFault, IsHierFault, IsNameFault, OrderGives}
use Rattle.hierarchy.specs.declared.faults.HierFault.{HierFault}
use Rattle.hierarchy.specs.declared.faults.HierFault.TheVariants.{NoMemory}

-- ---- depths

pub depths_are : (design : Design) (all given : List (List ℕ)) (depths : List ℕ) → AreInner design all → given ≡ all → AreDepths given (length given) depths → AreCellDepths design depths
depths_are design all given depths inner same are =
    let is : AreInner design given = same ∙ inner in
    record {
      count = are.count ∙ count_is design given is;
      each = of_cells (λ children count. (n : ℕ) → n < count → get_or depths n 0 ≡ depth_in children count n) design given is are.each;
    }

pub few_depths : (design : Design) (depths given : List ℕ) → HasDepths design depths → given ≡ depths → length design.cells ≤ 4096 → length given ≤ 4096
few_depths design depths given has same few = omega (arith, ap length same, has.are.count, few)

pub order_is : (design : Design) (depths given order : List ℕ) → HasDepths design depths → given ≡ depths → order ≡ flat_map (at_depth given) (numbers 1 32) → order ≡ cell_order design
order_is design depths given order has same e = e ∙ listed (depth_of_cell design) depths given design.cells (numbers 1 deepest) has.are.count has.are.each same

-- ---- faults

pub card_told : (design : Design) (f : HierFault) → (f ≡ NoMemory) ⊎ IsCardFault design f → (f ≡ NoMemory) ⊎ IsDesignFault design f
card_told design f (inl e) = inl e
card_told design f (inr h) = inr (inl h)

pub design_told : (design : Design) (rules : Rules) (f : HierFault) → (f ≡ NoMemory) ⊎ IsDesignFault design f → (f ≡ NoMemory) ⊎ IsHierFault design rules f
design_told design rules f (inl e) = inl e
design_told design rules f (inr h) = inr (inl h)

pub names_told : (design : Design) (rules : Rules) (depths : List ℕ) (f : HierFault) → HasDepths design depths → (f ≡ NoMemory) ⊎ IsNameFault design rules f → (f ≡ NoMemory) ⊎ IsHierFault design rules f
names_told design rules depths f has (inl e) = inl e
names_told design rules depths f has (inr h) = inr (inr (has.cards, has.nested, h))

pub ordered : (design : Design) (rules : Rules) (depths given order : List ℕ) → HasDepths design depths → missing_name design rules ≡ None → given ≡ depths → order ≡ flat_map (at_depth given) (numbers 1 32)
    → OrderGives design rules (Ok order)
ordered design rules depths given order has names same e = (
  record { cards = has.cards; well_founded = has.nested.well_founded; shallow = has.nested.shallow; names = names },
  order_is design depths given order has same e,
)
