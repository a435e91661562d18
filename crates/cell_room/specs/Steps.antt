-- What the steps before the phases give: the cell flattened, or the first cause.
use Rattle.std.specs.Prelude.{◌≡◌, ℕ, Option, Some, None, Result, Ok, Err}
use Rattle.std.specs.Option.{option_or}
use Rattle.cell_room.specs.Compared.{IsFlattened, IsGrouped}
use Rattle.cell_room.specs.Flat.{Flattened}
use Rattle.cell_room.specs.declared.flattening.Placed.{Placed}
use Rattle.cell_room.specs.declared.hindrance.Hindrance.{Hindrance}
use Rattle.cell_room.specs.declared.hindrance.Hindrance.TheVariants.{Because, NoMemory}
use Rattle.flatten.specs.Circuits.{IsFlatCircuit}
use Rattle.flatten.specs.Structures.{IsStructured}
use Rattle.latch_match.specs.Paired.{IsPairing}
use Rattle.vrt_model.specs.Comparison.{cell_at}
use Rattle.vrt_model.specs.FlatBlif.{flat_model_of}
use Rattle.vrt_model.specs.FlatCircuit.{flat_circuit}
use Rattle.vrt_model.specs.FlatModels.{IsFlatModel}
use Rattle.vrt_model.specs.Groups.{groups_of}
use Rattle.vrt_model.specs.PairedPorts.{output_is_input, paired_model, ports_fault}
use Rattle.vrt_model.specs.Unrolled.{Top}
use Rattle.vrt_model.specs.Unsupported.{circuit_limits, device_without_kind, latch_without_clock, model_limits, supply_tie, too_large, unmatched, why_early, why_of}
use Rattle.vrt_model.specs.declared.blif.Blif.{Blif}
use Rattle.vrt_model.specs.declared.circuit.Circuit.{Circuit}
use Rattle.vrt_model.specs.declared.design.Design.{Design}
use Rattle.vrt_model.specs.declared.flat_model.FlatModel.{FlatModel}
use Rattle.vrt_model.specs.declared.pairing.Pairing.{Pairing}
use Rattle.vrt_model.specs.declared.rules.Rules.{Rules}
use Rattle.vrt_model.specs.declared.verdict.Why.{Why}
use Rattle.whole_cells.specs.Own.{AreItsPlaces}
use Rattle.vrt_model.specs.declared.verdict.Why.TheVariants.{Ports, Cycle, ModelCycle, Unmatched, DeviceModel, SupplyTie, OutputIsInput, TooManyVars, TooLarge, NoModel, NoClock}

-- a step stops for a cause of which this holds, or for want of memory
abbrev pub Stops : (Why → Type 0) → Hindrance → Type 0
Stops P (Because why) = P why
Stops P NoMemory = Unit {0}

-- a cause for which neither circuit nor model is made: no count of variables, and no cycle
abbrev pub IsInTheWay : Why → Type 0
IsInTheWay (Cycle phase nets) = ⊥
IsInTheWay (ModelCycle phase signals) = ⊥
IsInTheWay (Ports name) = Unit {0}
IsInTheWay (Unmatched name) = Unit {0}
IsInTheWay (DeviceModel model) = Unit {0}
IsInTheWay (SupplyTie path) = Unit {0}
IsInTheWay (OutputIsInput signal) = Unit {0}
IsInTheWay (TooManyVars count) = ⊥
IsInTheWay (TooLarge count) = Unit {0}
IsInTheWay NoModel = Unit {0}
IsInTheWay (NoClock latch) = Unit {0}

-- what tests find
abbrev pub IsFoundBy : Option Why → Why → Type 0
IsFoundBy found why = (found ≡ Some why) × IsInTheWay why

-- the counts of a circuit; its devices and ties; the counts of a model; the ports of a cell and the outputs of a model; the
-- clock of a latch; the elements without a hold
abbrev pub circuit_why : Top → Option Why
circuit_why t = why_of (λ count. TooLarge count) (too_large (circuit_limits t))

abbrev pub device_why : Top → Option Why
device_why t = option_or (why_of (λ model. DeviceModel model) (device_without_kind t)) (why_of (λ path. SupplyTie path) (supply_tie t))

abbrev pub model_why : Blif → ℕ → Option Why
model_why blif m = why_of (λ count. TooLarge count) (too_large (model_limits blif m))

abbrev pub pairing_why : Design → ℕ → FlatModel → Rules → Option Why
pairing_why design cell flat rules =
    option_or (why_of (λ name. Ports name) (ports_fault design cell flat rules)) (why_of (λ signal. OutputIsInput signal) (output_is_input flat))

abbrev pub clock_why : FlatModel → Rules → Option Why
clock_why flat rules = why_of (λ latch. NoClock latch) (latch_without_clock flat rules)

abbrev pub group_why : Design → Rules → ℕ → Circuit → FlatModel → Option Why
group_why design rules cell circuit flat = why_of (λ name. Unmatched name) (unmatched rules (cell_at design cell).name flat (groups_of circuit flat))

-- the counts of a circuit are tested first; a device or a tie is kept
abbrev pub CircuitTells : Top → Result (Option Why) Hindrance → Type 0
CircuitTells t (Ok None) = IsStructured t
CircuitTells t (Ok (Some why)) = (too_large (circuit_limits t) ≡ None) × IsFoundBy (device_why t) why
CircuitTells t (Err stop) = Stops (IsFoundBy (circuit_why t)) stop

abbrev pub ModelTells : Blif → ℕ → Result FlatModel Hindrance → Type 0
ModelTells blif m (Ok flat) = (too_large (model_limits blif m) ≡ None) × (flat ≡ flat_model_of blif m) × IsFlatModel flat
ModelTells blif m (Err stop) = Stops (IsFoundBy (model_why blif m)) stop

abbrev pub PairingTells : Design → ℕ → ℕ → FlatModel → Rules → Result Pairing Hindrance → Type 0
PairingTells design cell m flat rules (Ok pairing) = IsPairing design cell m flat rules pairing
PairingTells design cell m flat rules (Err stop) = Stops (IsFoundBy (pairing_why design cell flat rules)) stop

abbrev pub ClockTells : FlatModel → Rules → Result Unit Hindrance → Type 0
ClockTells flat rules (Ok none) = latch_without_clock flat rules ≡ None
ClockTells flat rules (Err stop) = Stops (IsFoundBy (clock_why flat rules)) stop

abbrev pub GroupsTell : Design → Rules → ℕ → Pairing → Circuit → FlatModel → Result Flattened Hindrance → Type 0
GroupsTell design rules cell pairing circuit flat (Ok f) = IsGrouped design rules cell pairing circuit flat f
GroupsTell design rules cell pairing circuit flat (Err stop) = Stops (IsFoundBy (group_why design rules cell circuit flat)) stop

-- the flat circuit with its groups
abbrev pub CircuitGrouped : Design → Rules → ℕ → Pairing → FlatModel → Result Flattened Hindrance → Type 0
CircuitGrouped design rules cell pairing flat (Ok f) =
    IsFlatCircuit design rules cell pairing f.circuit × IsGrouped design rules cell pairing (flat_circuit design rules cell pairing) flat f
CircuitGrouped design rules cell pairing flat (Err stop) =
    Stops (IsFoundBy (group_why design rules cell (flat_circuit design rules cell pairing) flat)) stop

-- with the places of the cell and its instances
abbrev pub PlacedWith : Design → Rules → ℕ → Pairing → FlatModel → Result Placed Hindrance → Type 0
PlacedWith design rules cell pairing flat (Ok p) = AreItsPlaces design rules cell p.unrolled × CircuitGrouped design rules cell pairing flat (Ok p.flattened)
PlacedWith design rules cell pairing flat (Err stop) = CircuitGrouped design rules cell pairing flat (Err stop)

-- the first cause of a cell, of those that stand in the way of its circuit or its model
abbrev pub IsEarlyWhy : Design → Blif → Rules → ℕ → Why → Type 0
IsEarlyWhy design blif rules cell = IsFoundBy (why_early design blif rules cell (paired_model design blif rules cell))

-- all of these
abbrev pub FlattenedTells : Design → Blif → Rules → ℕ → ℕ → Result Flattened Hindrance → Type 0
FlattenedTells design blif rules cell m (Ok f) = IsFlattened design blif rules cell m f
FlattenedTells design blif rules cell m (Err stop) = Stops (IsEarlyWhy design blif rules cell) stop

-- a cell that pairs with a model, flattened, with the places of the cell and its instances
abbrev pub IsPlacedCell : Design → Blif → Rules → ℕ → ℕ → Placed → Type 0
IsPlacedCell design blif rules cell m p = AreItsPlaces design rules cell p.unrolled × IsFlattened design blif rules cell m p.flattened

abbrev pub PlacedTells : Design → Blif → Rules → ℕ → ℕ → Result Placed Hindrance → Type 0
PlacedTells design blif rules cell m (Ok p) = IsPlacedCell design blif rules cell m p
PlacedTells design blif rules cell m (Err stop) = Stops (IsEarlyWhy design blif rules cell) stop
