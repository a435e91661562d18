-- What is so of the exposed outputs of an instance inside its cell.
use Rattle.std.specs.Prelude.{◌≡◌, ℕ, ◌<◌, Bool, true, List, length}
use Rattle.cell_inside.specs.Unjoined.{AreInDifferentParts}
use Rattle.placed_cells.specs.Above.{net_above}
use Rattle.replaced_instances.specs.Steps.{IsStep, compared_at, drive_at, exposed_at}
use Rattle.vrt_model.specs.Comparison.{CellPort, is_observed, phase_at}
use Rattle.vrt_model.specs.Constraints.{Meets}
use Rattle.vrt_model.specs.Cut.{Cut, NumberedPlace}
use Rattle.vrt_model.specs.Facts.{IsTrueDrive, output_ports}
use Rattle.vrt_model.specs.Faults.{Solves}
use Rattle.vrt_model.specs.Held.{setting_of}
use Rattle.vrt_model.specs.Lists.{Among}
use Rattle.vrt_model.specs.Networks.{HasRanges}
use Rattle.vrt_model.specs.Reading.{Partial}
use Rattle.vrt_model.specs.Response.{IsStrength}
use Rattle.vrt_model.specs.Solution.{Agrees}
use Rattle.vrt_model.specs.State.{IsState, State, network_of}
use Rattle.vrt_model.specs.declared.blif.Blif.{Blif}
use Rattle.vrt_model.specs.declared.whole.CellFacts.{CellFacts}
use Rattle.vrt_model.specs.declared.whole.Drive.TheVariants.{Level}

-- The law: what is told of an exposed output is so: its net in the cell always has the level of its drive, and is alone inside.
abbrev pub ExposedDrivesAreTrue : Type 0
ExposedDrivesAreTrue =
    (cut : Cut) (blif : Blif) (facts : List CellFacts) (i : ℕ) (p : NumberedPlace) (m n : ℕ) → IsStep cut blif facts i p m
    → let k = compared_at cut.top blif p m in
    exposed_at cut blif facts i p k n ≡ true
    → (port : CellPort) × Among (output_ports k) port × (port.net ≡ n) × IsTrueDrive k port (Level (drive_at facts p k n))

-- The law: so no two of them are in one part of the cell, bare or kept.
abbrev pub ExposedOutputsAreApart : Type 0
ExposedOutputsAreApart =
    (cut : Cut) (blif : Blif) (facts : List CellFacts) (i : ℕ) (p : NumberedPlace) (m phase : ℕ) (which : Bool)
    → IsStep cut blif facts i p m → phase < length cut.top.rules.phases
    → let k = compared_at cut.top blif p m in
    AreInDifferentParts k.circuit (phase_at k.rules phase) which (net_above cut.top p.at) (exposed_at cut blif facts i p k)

-- The law: in each state of the cell that agrees with its solution, where its constraints are met, an exposed output has the strength
-- of its drive, bare and kept, and that is above 0.
abbrev pub ExposedOutputsHaveDrives : Type 0
ExposedOutputsHaveDrives =
    (cut : Cut) (blif : Blif) (facts : List CellFacts) (i : ℕ) (p : NumberedPlace) (m phase n : ℕ) (bits : List Bool) (a : Partial) (s : State) (which : Bool)
    → IsStep cut blif facts i p m → phase < length cut.top.rules.phases
    → let k = compared_at cut.top blif p m in
    HasRanges k.circuit → exposed_at cut blif facts i p k n ≡ true
    → Meets k phase bits → Solves k phase (setting_of k phase bits) a
    → IsState k.circuit (phase_at k.rules phase) (setting_of k phase bits).inputs s → Agrees (is_observed k phase) a s.reading
    → IsStrength (network_of k.circuit which (setting_of k phase bits).held s) n (drive_at facts p k n) × (0 < drive_at facts p k n)
