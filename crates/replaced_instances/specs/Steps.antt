-- One further instance of a circuit is left whole. Its outputs then meet gates alone, or are exposed to channels and to other outputs.
use Rattle.std.specs.Prelude.{◌≡◌, ℕ, suc, ◌+◌, ◌<◌, ◌&&◌, ◌||◌, Bool, true, false, not, List, filter, length, None, nat_le, nat_lt, option_map, slice_get, unwrap_or, ◌==◌, []}
use Rattle.std.specs.List.{list_any}
use Rattle.cell_inside.specs.LeftWhole.{IsLeftWhole}
use Rattle.cell_inside.specs.Placed.{IsPlaced}
use Rattle.placed_cells.specs.Above.{net_above, place_alone}
use Rattle.placed_cells.specs.Instances.{HasPlacedPorts}
use Rattle.placed_cells.specs.Rows.{size_inside}
use Rattle.placed_cells.specs.Splits.{IsSplit}
use Rattle.vrt_model.specs.Checked.{IsCircuitWith, before, circuit_with, is_cell_allowed, with_one}
use Rattle.vrt_model.specs.CheckedParts.{checked_devices}
use Rattle.vrt_model.specs.Comparison.{CellPort, Comparison, cell_at}
use Rattle.vrt_model.specs.Cut.{Cut, NumberedPlace, is_inside_whole, numbered_places}
use Rattle.vrt_model.specs.Facts.{IsTrueOf, output_ports}
use Rattle.vrt_model.specs.FlatBlif.{model_at}
use Rattle.vrt_model.specs.Hierarchy.{IsOrdered}
use Rattle.vrt_model.specs.Inputs.{IsDesign}
use Rattle.vrt_model.specs.Known.{IsHeld, IsPlain, is_plain_at}
use Rattle.vrt_model.specs.Lists.{Among, At}
use Rattle.vrt_model.specs.PairedPorts.{HasRoles, Model, paired_model}
use Rattle.vrt_model.specs.Path.{level_of_drive}
use Rattle.vrt_model.specs.Unrolled.{Place, Top}
use Rattle.vrt_model.specs.Unsupported.{comparison_of, supply_tie}
use Rattle.vrt_model.specs.Variables.{places}
use Rattle.vrt_model.specs.WholeInstances.{OutputAt, all_outputs, drive_in, is_output_allowed, meets_gates_only, outputs_of_place}
use Rattle.vrt_model.specs.declared.blif.Blif.{Blif}
use Rattle.vrt_model.specs.declared.circuit.Circuit.{Circuit}
use Rattle.vrt_model.specs.declared.whole.CellFacts.{CellFacts}

-- ---- a step

-- what is asked of a netlist: each of its instances has a place of its own, tied port by port
pub record IsSoundNetlist (t : Top) : Type 0 where
  pub design : IsDesign t.design
  pub ordered : IsOrdered t.design t.rules
  pub there : t.cell < length t.design.cells
  pub ties : supply_tie t ≡ None

-- the comparison of the cell at a place with a model
abbrev pub compared_at : Top → Blif → NumberedPlace → ℕ → Comparison
compared_at t blif p m = comparison_of t.design blif t.rules p.at.cell m

-- an instance meets what is asked of one that is left whole besides those of the choice, but for cycles: its cell allows it, its model has no
-- don't-care network, and its outputs are plain nets without holds and are allowed
pub record IsAllowedInstance (cut : Cut) (blif : Blif) (facts : List CellFacts) (i : ℕ) (p : NumberedPlace) (m : ℕ) : Type 0 where
  pub paired : paired_model cut.top.design blif cut.top.rules p.at.cell ≡ Model m
  pub cell : is_cell_allowed cut.top facts (compared_at cut.top blif p m) ≡ true
  pub cared : (model_at blif m).exdc ≡ []
  pub plain :
      (o : OutputAt) → Among (outputs_of_place cut.top blif facts p) o
      → IsPlain (circuit_with (with_one cut i) blif facts) o.pin.net.0 × (¬ IsHeld (circuit_with (with_one cut i) blif facts) o.pin.net.0)
  pub allowed :
      (o : OutputAt) → Among (outputs_of_place cut.top blif facts p) o
      → is_output_allowed (checked_devices (with_one cut i)) (all_outputs (with_one cut i) blif facts) o ≡ true

-- so does each chosen instance besides those before it, and it is not inside one of these
abbrev pub AreAllowed : Cut → Blif → List CellFacts → Type 0
AreAllowed cut blif facts =
    (i : ℕ) (p : NumberedPlace) → At (numbered_places cut.top) (suc i) p → cut.choice i ≡ true
    → (is_inside_whole (before cut i) p.at ≡ false) × ((m : ℕ) × IsAllowedInstance (before cut i) blif facts i p m)

-- the instance at place i, whose cell pairs with model m, is among those that are left whole, which are tried one by one; and what is told
-- of cells is so
pub record IsStep (cut : Cut) (blif : Blif) (facts : List CellFacts) (i : ℕ) (p : NumberedPlace) (m : ℕ) : Type 0 where
  pub netlist : IsSoundNetlist cut.top
  pub told : (cell : ℕ) (f : CellFacts) → At facts cell f → IsTrueOf cut.top.design blif cut.top.rules cell f
  pub tried : AreAllowed cut blif facts
  pub chosen : cut.choice i ≡ true
  pub place : At (numbered_places cut.top) (suc i) p
  pub paired : paired_model cut.top.design blif cut.top.rules p.at.cell ≡ Model m
  pub roles : HasRoles cut.top.rules (cell_at cut.top.design p.at.cell) (compared_at cut.top blif p m).pairing

-- ---- what the outputs meet

-- the place, among the output ports of a cell, of the one at this net: their nets rise
abbrev pub output_place : Comparison → ℕ → ℕ
output_place k n = length (filter (λ (port : CellPort). nat_lt port.net n) (output_ports k))

-- the output is that of the output port at this net of its cell
abbrev pub is_output_at : Comparison → ℕ → OutputAt → Bool
is_output_at k n o = unwrap_or (option_map (λ (port : CellPort). port.net == n) (slice_get (output_ports k) o.output)) false

-- the output at the net n of the cell is exposed: it does not meet gates alone in the circuit after the step
abbrev pub exposed_at : Cut → Blif → List CellFacts → ℕ → NumberedPlace → Comparison → ℕ → Bool
exposed_at cut blif facts i p k n =
    list_any (λ (o : OutputAt). is_output_at k n o && not (meets_gates_only (checked_devices (before cut (suc i))) (all_outputs (before cut (suc i)) blif facts) o))
    (outputs_of_place cut.top blif facts p)

-- the level of the drive that is told of the output at this net of the cell
abbrev pub drive_at : List CellFacts → NumberedPlace → Comparison → ℕ → ℕ
drive_at facts p k n = level_of_drive 0 (drive_in facts p.at.cell (output_place k n))

-- ---- the cell in the circuit before

-- The law: in the circuit before the step the cell's ports are as they have to be, with these exposed, by these drives.
abbrev pub ChosenPortsArePlaced : Type 0
ChosenPortsArePlaced =
    (cut : Cut) (blif : Blif) (facts : List CellFacts) (i : ℕ) (p : NumberedPlace) (m : ℕ) (c : Circuit)
    → IsStep cut blif facts i p m → 0 < length cut.top.rules.phases → IsCircuitWith (before cut i) blif facts c
    → let k = compared_at cut.top blif p m in
    HasPlacedPorts k.circuit c (net_above cut.top p.at) (place_alone cut.top p.at).base (exposed_at cut blif facts i p k) (drive_at facts p k)

-- The law: so the cell's flat circuit stands there.
abbrev pub ChosenStepIsPlaced : Type 0
ChosenStepIsPlaced =
    (cut : Cut) (blif : Blif) (facts : List CellFacts) (i : ℕ) (p : NumberedPlace) (m : ℕ) (c : Circuit)
    → IsStep cut blif facts i p m → 0 < length cut.top.rules.phases → IsCircuitWith (before cut i) blif facts c
    → let k = compared_at cut.top blif p m in
    IsPlaced k.circuit c (net_above cut.top p.at) (exposed_at cut blif facts i p k) (drive_at facts p k)

-- ---- the circuit after the step

-- the net is no own net of the place or of those in it at most so deep
abbrev pub is_outside_at : Top → ℕ → Place → ℕ → Bool
is_outside_at t depth p n = nat_lt n p.base || nat_le (p.base + size_inside t depth p.cell) n

-- the net is that of a plain net of the cell that is not exposed
abbrev pub is_hidden_at : Circuit → (ℕ → Bool) → (ℕ → ℕ) → ℕ → Bool
is_hidden_at cell exposed at n = list_any (λ j. not (exposed j) && (is_plain_at cell j && (at j == n))) (places 0 cell.nets)

-- compared are all nets but plain nets of the cell that are not exposed
abbrev pub compared_at_step : Cut → Blif → List CellFacts → ℕ → NumberedPlace → Comparison → ℕ → Bool
compared_at_step cut blif facts i p k n = not (is_hidden_at k.circuit (exposed_at cut blif facts i p k) (net_above cut.top p.at) n)

-- where the pin of an output at a net of the cell stands among those of the circuit after the step: behind all pins that were there, and
-- behind those of the outputs at lower nets
abbrev pub fresh_place : Cut → Blif → List CellFacts → Comparison → ℕ → ℕ
fresh_place cut blif facts k n = length (all_outputs cut blif facts) + output_place k n

-- The law: what is left is the circuit after the step. All nets keep their numbers, and own nets of the instance are no more met; all
-- but plain nets of the cell that are not exposed are compared. The pins that were there keep their places and drives.
abbrev pub ChosenStepIsLeftWhole : Type 0
ChosenStepIsLeftWhole =
    (cut : Cut) (blif : Blif) (facts : List CellFacts) (i : ℕ) (p : NumberedPlace) (m depth : ℕ) (front back : List Place) (c whole_circuit : Circuit)
    → IsStep cut blif facts i p m → 0 < length cut.top.rules.phases → IsSplit cut.top (suc i) p.at depth front back
    → IsCircuitWith (before cut i) blif facts c → IsCircuitWith (before cut (suc i)) blif facts whole_circuit
    → let k = compared_at cut.top blif p m in
    IsLeftWhole k.circuit c whole_circuit (net_above cut.top p.at) (λ n. n) (λ j. j) (fresh_place (before cut i) blif facts k)
    (is_outside_at cut.top depth p.at) (compared_at_step cut blif facts i p k) (exposed_at cut blif facts i p k) (drive_at facts p k)
