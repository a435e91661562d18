-- What the instances of a cell have in common where they are left whole, and the place of one.
use Rattle.std.specs.Prelude.{◌≡◌, ℕ, ◌+◌, true, List, Option, Some, filter, length, map, take}
use Rattle.std.specs.List.{AllZip}
use Rattle.net_places.specs.Links.{bare, shown}
use Rattle.net_places.specs.declared.places.Place.{Place}
use Rattle.net_places.specs.declared.whole.Unrolled.{Unrolled}
use Rattle.phase_ports.specs.Ports.{unnamed}
use Rattle.whole_circuits.specs.Links.{ArePhaseLinks}
use Rattle.whole_circuits.specs.Pins.{AreDrivesOf, AreObserved}
use Rattle.whole_circuits.specs.declared.whole_cell.WholeCell.{WholeCell}
use Rattle.vrt_model.specs.Comparison.{Comparison, ports_of}
use Rattle.vrt_model.specs.Cut.{Cut, NumberedPlace, is_whole, numbered_places}
use Rattle.vrt_model.specs.Lists.{At}
use Rattle.vrt_model.specs.PairedPorts.{Model, paired_model}
use Rattle.vrt_model.specs.Unrolled.{Top}
use Rattle.vrt_model.specs.Unsupported.{comparison_of}
use Rattle.vrt_model.specs.WholeInstances.{IsWholeAt}
use Rattle.vrt_model.specs.declared.blif.Blif.{Blif}
use Rattle.vrt_model.specs.declared.rules.Phase.{Phase}
use Rattle.vrt_model.specs.declared.whole.CellFacts.{CellFacts}
use Rattle.vrt_model.specs.declared.whole.Whole.{Whole}

-- of the comparison of a cell: its model, what carries clocks, its ports, its observed nets, and the links of its ports
pub record HasWholeCell (k : Comparison) (own : WholeCell) : Type 0 where
  pub model : own.model ≡ k.model
  pub clocked : own.clocked ≡ k.pairing.clocked
  pub ports : own.ports.items ≡ map unnamed (ports_of k)
  pub observed : AreObserved k own.observed.items
  pub links : ArePhaseLinks k own.links

-- so of a cell that pairs with a model, and the drives that are told of its outputs
pub record IsWholeCell (t : Top) (blif : Blif) (facts : List CellFacts) (cell : ℕ) (own : WholeCell) : Type 0 where
  pub number : ℕ
  pub paired : paired_model t.design blif t.rules cell ≡ Model number
  pub has : HasWholeCell (comparison_of t.design blif t.rules cell number) own
  pub drives : AreDrivesOf facts cell own.drives

-- a place of a table is this one, which ties each port of its cell to a net
pub record IsPlacedWhole (t : Top) (blif : Blif) (p : NumberedPlace) (place : Place) : Type 0 where
  pub shows : shown place ≡ bare p.at
  pub tied :
      (m : ℕ) → paired_model t.design blif t.rules p.at.cell ≡ Model m → length p.at.ports ≡ length (ports_of (comparison_of t.design blif t.rules p.at.cell m))

-- for each place that is left whole a table has what the instances of its cell have in common
pub record AreWholeCells (cut : Cut) (blif : Blif) (facts : List CellFacts) (unrolled : Unrolled) (phases : List Phase) (cells : List (Option WholeCell)) : Type 0 where
  pub phases_are : cut.top.rules.phases ≡ phases
  pub cells_are :
      (n : ℕ) (place : Place) (p : NumberedPlace) → At unrolled.places n place → At (numbered_places cut.top) n p → is_whole cut.choice n ≡ true
      → (own : WholeCell) × At cells place.cell (Some own) × IsWholeCell cut.top blif facts p.at.cell own × IsPlacedWhole cut.top blif p place

-- the places before one that are left whole
abbrev pub wholes_before : Cut → ℕ → List NumberedPlace
wholes_before cut n = filter (λ (p : NumberedPlace). is_whole cut.choice p.number) (take n (numbered_places cut.top))

-- where there were the instances at the places before one, there are now those before the next
abbrev pub GrowsTo : Cut → Blif → List CellFacts → ℕ → List Whole → List Whole → Type 0
GrowsTo cut blif facts n old new = AllZip (IsWholeAt cut blif facts) (wholes_before cut n) old → AllZip (IsWholeAt cut blif facts) (wholes_before cut (n + 1)) new
