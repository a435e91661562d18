-- The tables by which the circuit of instances that are tried is made.
use Rattle.std.specs.Prelude.{◌≡◌, List}
use Rattle.whole_circuits.specs.Insides.{IsCutAt}
use Rattle.whole_circuits.specs.Shown.{AreMarks, device_places}
use Rattle.whole_circuits.specs.WholeCells.{AreWholeCells}
use Rattle.whole_circuits.specs.declared.marks.Marks.{Marks}
use Rattle.substitution_laws.specs.Chosen.{IsTrial}
use Rattle.vrt_model.specs.Circuits.{IsCircuit}
use Rattle.vrt_model.specs.Cut.{Cut}
use Rattle.vrt_model.specs.FlatCircuit.{flat_circuit_of}
use Rattle.vrt_model.specs.declared.blif.Blif.{Blif}
use Rattle.vrt_model.specs.declared.whole.CellFacts.{CellFacts}
use Rattle.substitute.specs.declared.tables.Tables.{Tables}

-- the well-formed flat circuit, the places, the table of cells and the marks are those of a cut
pub record IsTriedBy (cut : Cut) (blif : Blif) (facts : List CellFacts) (tables : Tables) (own : Marks) : Type 0 where
  pub flat_is : tables.flat.now ≡ flat_circuit_of cut.top
  pub formed : IsCircuit tables.flat.now
  pub cut_at : IsCutAt cut tables.unrolled.now own.whole.items
  pub marks : AreMarks cut own
  pub places : tables.owners.now ≡ device_places cut.top
  pub cells : AreWholeCells cut blif facts tables.unrolled.now tables.phases.now tables.cells.now

-- and its instances are allowed, each besides those before it
pub record IsTriedSoundly (cut : Cut) (blif : Blif) (facts : List CellFacts) (tables : Tables) (own : Marks) : Type 0 where
  pub by : IsTriedBy cut blif facts tables own
  pub trial : IsTrial cut blif facts
