-- The checked circuit of a cell: it may be made, and it is looked through as the flat one is.
use Rattle.std.proofs.Common.{◌≡◌, ℕ, ◌+◌, ◌*◌, ◌<◌, ◌≤◌, List, [], Option, length, arith, ap, sym, subst, ◌∙◌}
use Rattle.std.specs.Prelude.{min}
use Rattle.std.proofs.Math.Nat.{min-le_left}
use Rattle.blif_eval.specs.declared.plan.ModelPlan.{ModelPlan}
use Rattle.cell_room.proofs.Causes.{comparison_is}
use Rattle.cell_room.proofs.CheckedReady.{ready_over}
use Rattle.cell_room.proofs.GroundLaws.{ground_of}
use Rattle.cell_room.proofs.SupportedLaws.{read_cell, supported}
use Rattle.cell_room.specs.Checked.{IsCheckable, over}
use Rattle.cell_room.specs.Compared.{AreInputs, IsFlattened, comparison}
use Rattle.cell_room.specs.Works.{AreVars, IsPlanned}
use Rattle.cell_room.specs.Flat.{Flattened}
use Rattle.checked_cells.proofs.CircuitLaws.{checked_circuits_are_formed, checked_circuits_share}
use Rattle.checked_cells.proofs.GivenLaws.{checked_cells_are_by_facts}
use Rattle.checked_cells.proofs.VerdictLaws.{checked_variables_are_same}
use Rattle.checked_cells.proofs.WholeLaws.{checked_circuits_are_acyclic, checked_circuits_are_wired, checked_wholes_are_determined, checked_wholes_are_logic}
use Rattle.checked_cells.specs.Given.{AreTrueFacts, IsCheckedOf}
use Rattle.circuit_faults.specs.Wholes.{HasSoundWholes}
use Rattle.path_fixpoint.specs.Parts.{pins_of}
use Rattle.phase_laws.specs.Sums.{HasFewOutputs}
use Rattle.phase_terms.specs.Ready.{IsReady}
use Rattle.substitution_laws.specs.Agreement.{IsCheckedByFacts}
use Rattle.vrt_model.specs.Checked.{top_of, with_circuit}
use Rattle.vrt_model.specs.Comparison.{Comparison, is_observed, phase_at}
use Rattle.vrt_model.specs.Cut.{Cut}
use Rattle.vrt_model.specs.FlatCircuit.{flat_circuit_of}
use Rattle.vrt_model.specs.Unrolled.{Top}
use Rattle.vrt_model.specs.Unsupported.{AcyclicBefore}
use Rattle.vrt_model.specs.declared.blif.Blif.{Blif}
use Rattle.vrt_model.specs.declared.circuit.Circuit.{Circuit}
use Rattle.vrt_model.specs.declared.circuit.FlatNet.{FlatNet}
use Rattle.vrt_model.specs.declared.design.Design.{Design}
use Rattle.vrt_model.specs.declared.groups.Group.{Group}
use Rattle.vrt_model.specs.declared.groups.Vars.{Vars}
use Rattle.vrt_model.specs.declared.rules.Rules.{Rules}
use Rattle.vrt_model.specs.declared.whole.CellFacts.{CellFacts}
use Rattle.substitute.specs.Whole.{IsWholeGround}
use Rattle.vrt_model.specs.State.{output_pins}
use Rattle.whole_steps.proofs.OrderLaws.{whole_table}
use Rattle.whole_steps.specs.Tables.{AreDrivers, AreOrders, IsWholeTable}
use Rattle.whole_steps.specs.declared.table.OutputPlace.{OutputPlace}
use Rattle.cell_room.specs.Made.{most_outputs}
use Rattle.circuit_faults.proofs.FlatWholes.{flat_table}
use Rattle.vrt_model.specs.Circuits.{IsCircuit}

-- what is flattened of a cell may be looked through by its checked circuit
pub checkable : (design : Design) (blif : Blif) (rules : Rules) (cell m : ℕ) (f : Flattened) → AreInputs design blif rules cell → IsFlattened design blif rules cell m f
    → (facts : List CellFacts) → AreTrueFacts design blif rules facts → IsCheckable (comparison design rules cell f) blif facts
checkable design blif rules cell m f inputs is facts true_facts =
    let given = read_cell design blif rules cell inputs in
    let same = comparison_is design blif rules cell m f is in
    record {
      flat = is.circuit_is;
      ground = ground_of design blif rules cell m f inputs is facts true_facts;
      by_facts = λ c planned checked.
          subst (λ (x : Comparison). (y : IsCheckedOf x blif facts c) → IsCheckedByFacts x y.0 blif facts c) (sym same)
          (λ y. checked_cells_are_by_facts design blif rules cell m facts y.0 c given (supported design blif rules cell m f is planned) true_facts y.1 y.2) checked;
    }

-- so its checked circuit may be asked for
pub whole_ground : (k : Comparison) (blif : Blif) (facts : List CellFacts) → IsCheckable k blif facts → IsPlanned k
    → IsWholeGround k.design blif k.rules k.cell k.pairing.ports facts k.circuit
whole_ground k blif facts able planned = record { ground = able.ground planned; flat_is = able.flat }

-- a flat circuit has no whole instance
pub no_whole : (t : Top) (c : Circuit) → c ≡ flat_circuit_of t → c.wholes ≡ []
unfolding flat_circuit_of
no_whole t c e = ap (λ (x : Circuit). x.wholes) e

-- so no output of one is in it
pub flat_wholes : (k : Comparison) (blif : Blif) (facts : List CellFacts) → IsCheckable k blif facts → IsCircuit k.circuit → IsWholeTable k.circuit [] []
flat_wholes k blif facts able formed =
    flat_table k.circuit (record { wholes = no_whole (top_of k) k.circuit able.flat; devices = formed.devices; holds = formed.holds })

-- ---- another circuit

-- a checked circuit has the groups of the flat one
pub over_is : (k : Comparison) (cut : Cut) (blif : Blif) (facts : List CellFacts) (c : Circuit) → IsCheckedByFacts k cut blif facts c → with_circuit k c ≡ over k c
over_is k cut blif facts c h =
    ap (λ (gs : List Group). let one : Comparison = record k { circuit = c; groups = gs } in one) (checked_circuits_share k cut blif facts c h).groups

-- and its variables
pub vars_over : (k : Comparison) (cut : Cut) (blif : Blif) (facts : List CellFacts) (c : Circuit) (upto : ℕ) (vars : List Vars) → IsCheckedByFacts k cut blif facts c
    → AreVars k upto vars → AreVars (with_circuit k c) upto vars
vars_over k cut blif facts c upto vars h are = record {
  count = are.count;
  each = λ p v at.
      (let one = are.each p v at in
      let same = checked_variables_are_same k cut blif facts c p h in
      record { few = one.few; sources = one.sources ∙ sym same.0; names = one.names ∙ sym same.1 });
}

-- its numbers are in range, and its whole instances determined
sound_wholes : (k : Comparison) (cut : Cut) (blif : Blif) (facts : List CellFacts) (c : Circuit) (phase : ℕ) → IsCheckedByFacts k cut blif facts c → phase < length k.rules.phases
    → HasSoundWholes c (phase_at k.rules phase) (is_observed (with_circuit k c) phase)
sound_wholes k cut blif facts c phase h lt = record {
  ranges = (checked_circuits_are_wired k cut blif facts c h).ranges;
  determined = checked_wholes_are_determined k cut blif facts c phase h lt;
}

-- so it is looked through phase by phase
pub ready_with : (k : Comparison) (cut : Cut) (blif : Blif) (facts : List CellFacts) (c : Circuit) → IsReady k → IsCheckedByFacts k cut blif facts c → IsReady (over k c)
ready_with k cut blif facts c ready h =
    ready_over k c ready (checked_circuits_share k cut blif facts c h) (checked_circuits_are_formed k cut blif facts c h)
    (λ phase lt. subst (λ (x : Comparison). HasSoundWholes c (phase_at k.rules phase) (is_observed x phase)) (over_is k cut blif facts c h) (sound_wholes k cut blif facts c phase h lt))

-- neither its arcs nor those of its model lead around
pub acyclic_over : (k : Comparison) (cut : Cut) (blif : Blif) (facts : List CellFacts) (c : Circuit) → IsCheckedByFacts k cut blif facts c → IsPlanned k
    → AcyclicBefore (over k c) (length k.rules.phases)
acyclic_over k cut blif facts c h planned p lt = (checked_circuits_are_acyclic k cut blif facts c p h lt, (planned.acyclic p lt).1)

-- by the outputs of its whole instances and the orders of their models
pub table_with : (k : Comparison) (cut : Cut) (blif : Blif) (facts : List CellFacts) (c : Circuit) (drivers : List (Option OutputPlace)) (orders : List ModelPlan) → IsCheckedByFacts k cut blif facts c
    → AreDrivers c (output_pins c) drivers → AreOrders c.wholes (length c.wholes) orders → IsWholeTable c drivers orders
table_with k cut blif facts c drivers orders h outputs plans = whole_table c drivers orders outputs plans (λ w on. checked_wholes_are_logic k cut blif facts c w h on)

-- a circuit with no more outputs than this has few
pub few_outputs : (k : Comparison) (cut : Cut) (blif : Blif) (facts : List CellFacts) (c : Circuit) (most : ℕ) → IsCheckedByFacts k cut blif facts c
    → most ≡ most_outputs k.circuit → length (pins_of c) ≤ most → HasFewOutputs c (length k.circuit.devices)
few_outputs k cut blif facts c most h is le =
    let devices : ℕ = length k.circuit.devices in
    let pairs : ℕ = 40 * ((length k.circuit.nets + 1) * (length k.circuit.nets + devices + 1)) in
    let low : min pairs 1000000 ≤ pairs = min-le_left pairs 1000000 in
    subst (λ (nets : List FlatNet). length (pins_of c) ≤ 40 * ((length nets + 1) * (length nets + devices + 1))) (sym (checked_circuits_share k cut blif facts c h).nets) (omega (arith, le, is, low))
