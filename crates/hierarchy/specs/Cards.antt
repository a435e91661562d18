-- The first instance card that does not fit.
use Rattle.std.specs.Prelude.{◌≡◌, ◌⊎◌, if◌then◌else◌, length, None, Some, option_map, Result, Ok, Err}
use Rattle.vrt_model.specs.Comparison.{cell_at}
use Rattle.vrt_model.specs.Hierarchy.{bad_card, has_cell}
use Rattle.vrt_model.specs.Unrolled.{cell_named}
use Rattle.vrt_model.specs.declared.design.Design.{Design}
use Rattle.vrt_model.specs.declared.design.InstanceCard.{InstanceCard}
use Rattle.hierarchy.specs.declared.faults.HierFault.{HierFault}
use Rattle.hierarchy.specs.declared.faults.HierFault.TheVariants.{UnknownCell, PortCount, NoMemory}

-- the fault of a card that is not good: its cell is not there, or has another count of ports than the card has nets
abbrev pub card_fault : Design → InstanceCard → HierFault
card_fault design i =
    if has_cell design i then PortCount i.line (length i.nets) (length (cell_at design (cell_named design i.cell)).ports) else UnknownCell i.line i.cell

-- this is the fault of the first such card
abbrev pub IsCardFault : Design → HierFault → Type 0
IsCardFault design f = option_map (card_fault design) (bad_card design) ≡ Some f

-- A call refuses the first card that is not good. Memory may run out.
abbrev pub CardsGive : {T : Type 0} → Design → Result T HierFault → Type 0
CardsGive design (Ok x) = bad_card design ≡ None
CardsGive design (Err f) = (f ≡ NoMemory) ⊎ IsCardFault design f
