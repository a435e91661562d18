-- The instances of a cell that are chosen so far.
use Rattle.std.specs.Prelude.{◌≡◌, ℕ, suc, ◌*◌, Bool, false, List, length, Some}
use Rattle.known_nets.specs.Incidence.{AreHeldMarks}
use Rattle.net_places.specs.declared.places.Place.{Place}
use Rattle.whole_circuits.specs.Insides.{AreMarkedBefore}
use Rattle.whole_circuits.specs.Counts.{AreCounts}
use Rattle.whole_circuits.specs.Taken.{AreTaken}
use Rattle.whole_circuits.specs.declared.taken.Taken.{Taken}
use Rattle.whole_circuits.specs.Pins.{AreDrivesOf, IsAtPorts}
use Rattle.whole_circuits.specs.Shown.{device_places}
use Rattle.whole_circuits.specs.declared.whole_cell.WholeCell.{WholeCell}
use Rattle.vrt_model.specs.Comparison.{Comparison}
use Rattle.vrt_model.specs.CheckedParts.{checked_devices}
use Rattle.vrt_model.specs.Cut.{Cut, is_inside_whole}
use Rattle.vrt_model.specs.FlatCircuit.{flat_circuit_of}
use Rattle.vrt_model.specs.Levels.{level_counts}
use Rattle.vrt_model.specs.Lists.{At, mark_at}
use Rattle.vrt_model.specs.Unrolled.{Place as FlatPlace, Top, all_places}
use Rattle.vrt_model.specs.WholeInstances.{all_outputs, driven_pins}
use Rattle.vrt_model.specs.declared.blif.Blif.{Blif}
use Rattle.vrt_model.specs.declared.whole.CellFacts.{CellFacts}
use Rattle.vrt_model.specs.declared.whole.WholePin.{WholePin}
use Rattle.whole_cells.specs.Entered.{AreEntered, IsEntered}
use Rattle.substitute.specs.Candidates.{IsGround}
use Rattle.substitute.specs.Chosen.{AreRightly, NoneFrom, cut_of}
use Rattle.substitute.specs.declared.choice.Chosen.{Chosen}
use Rattle.substitute.specs.declared.tables.Tables.{Tables}

-- the tables are those of a cell, on sound ground
pub record AreTables (t : Top) (blif : Blif) (facts : List CellFacts) (tables : Tables) : Type 0 where
  pub ground : IsGround t blif facts tables.flat.now
  pub flat_is : tables.flat.now ≡ flat_circuit_of t
  pub phases_are : t.rules.phases ≡ tables.phases.now
  pub owners_are : tables.owners.now ≡ device_places t
  pub each : length tables.cells.now ≡ length t.design.cells
  pub entered : IsEntered t blif facts tables.unrolled.now tables.cells.now

-- so many nets have counts of the channels that are not inside the whole instances of a cut
pub record AreCountsOf (cut : Cut) (count : ℕ) (counts : List ℕ) : Type 0 where
  pub each : length counts ≡ level_counts * count
  pub are : AreCounts count (checked_devices cut) counts

-- the instances before a number are rightly chosen or not, and none is chosen from there on; the marks are at their places, at those inside them
-- of so many, and at the nets with holds; the list of outputs has theirs; and the counts are those of the channels that are not inside them
pub record AreChosenBy (asked : Bool) (t : Top) (blif : Blif) (facts : List CellFacts) (tables : Tables) (i reached : ℕ) (whole inside holds : List Bool) (outputs : List Taken) (counts : List ℕ) : Type 0 where
  pub tables_are : AreTables t blif facts tables
  pub each : length whole ≡ length tables.unrolled.now.places
  pub outermost : mark_at whole 0 ≡ false
  pub none : NoneFrom (cut_of t whole) i
  pub decided : AreRightly asked (cut_of t whole) blif facts (suc i)
  pub entered : AreEntered (cut_of t whole) tables.unrolled.now tables.cells.now
  pub marked : AreMarkedBefore (cut_of t whole) reached inside
  pub held : AreHeldMarks tables.flat.now holds
  pub taken : AreTaken (all_outputs (cut_of t whole) blif facts) outputs
  pub room : length outputs ≡ length tables.flat.now.nets
  pub counted : AreCountsOf (cut_of t whole) (length tables.flat.now.nets) counts

-- with marks at the places of those before it
abbrev pub AreChosen : Bool → Top → Blif → List CellFacts → Tables → ℕ → Chosen → Type 0
AreChosen asked t blif facts tables i chosen =
    AreChosenBy asked t blif facts tables i (suc i) chosen.whole.items chosen.inside.items chosen.nets.held.items chosen.nets.taken.items chosen.nets.channels.items

-- and at that of the next instance
abbrev pub AreReached : Bool → Top → Blif → List CellFacts → Tables → ℕ → Chosen → Type 0
AreReached asked t blif facts tables i chosen =
    AreChosenBy asked t blif facts tables i (suc (suc i)) chosen.whole.items chosen.inside.items chosen.nets.held.items chosen.nets.taken.items chosen.nets.channels.items

-- so of the instances whose places are below one
abbrev pub AreChosenBelow : Bool → Top → Blif → List CellFacts → Tables → ℕ → Chosen → Type 0
AreChosenBelow asked t blif facts tables at chosen = (i : ℕ) → at ≡ suc i → AreChosen asked t blif facts tables i chosen

-- the next instance is of a cell with an entry in the table
pub record HasEntry (asked : Bool) (t : Top) (blif : Blif) (facts : List CellFacts) (tables : Tables) (i : ℕ) (chosen : Chosen) (own : WholeCell) : Type 0 where
  pub chosen_are : AreReached asked t blif facts tables i chosen
  pub place : Place
  pub here : At tables.unrolled.now.places (suc i) place
  pub entry : At tables.cells.now place.cell (Some own)

-- and outside the chosen ones
pub record IsOutside (asked : Bool) (t : Top) (blif : Blif) (facts : List CellFacts) (tables : Tables) (i : ℕ) (chosen : Chosen) (own : WholeCell) : Type 0 where
  pub has : HasEntry asked t blif facts tables i chosen own
  pub outside : (p : FlatPlace) → At (all_places t) (suc i) p → is_inside_whole (cut_of t chosen.whole.items) p ≡ false

-- and it has these output pins
pub record IsNextTrial (asked : Bool) (t : Top) (blif : Blif) (facts : List CellFacts) (tables : Tables) (i : ℕ) (chosen : Chosen) (own : WholeCell) (pins : List WholePin) : Type 0 where
  pub is : IsOutside asked t blif facts tables i chosen own
  pub pins_are : (k : Comparison) (p : FlatPlace) → IsAtPorts k p own.ports.items is.has.place.ports → AreDrivesOf facts p.cell own.drives → pins ≡ driven_pins facts k p
