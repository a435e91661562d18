-- One step of the chain of circuits: what the laws of one more whole instance ask of it holds.
use Rattle.std.specs.Prelude.{ℕ, suc, ◌<◌, List, length}
use Rattle.checked_chain.specs.Holds.{IsOfChain}
use Rattle.placed_cells.specs.Above.{net_above}
use Rattle.replaced_cells.specs.OneMoreWhole.{IsOneMoreWhole}
use Rattle.replaced_instances.specs.Steps.{compared_at, compared_at_step, drive_at, exposed_at, fresh_place, is_outside_at}
use Rattle.substitution_laws.specs.Pins.{IsChainStep}
use Rattle.vrt_model.specs.Checked.{before, with_circuit}
use Rattle.vrt_model.specs.Circuits.{IsCircuit}
use Rattle.vrt_model.specs.Comparison.{Comparison}
use Rattle.vrt_model.specs.Cut.{Cut, NumberedPlace}
use Rattle.vrt_model.specs.FlatCircuit.{flat_circuit_of}
use Rattle.vrt_model.specs.Unrolled.{Place}
use Rattle.vrt_model.specs.declared.blif.Blif.{Blif}
use Rattle.vrt_model.specs.declared.circuit.Circuit.{Circuit}
use Rattle.vrt_model.specs.declared.whole.CellFacts.{CellFacts}

-- both circuits are of the chain of k, whose flat circuit is well formed
pub record IsStepOf (k : Comparison) (cut : Cut) (blif : Blif) (facts : List CellFacts) (i : ℕ) (p : NumberedPlace) (m depth : ℕ) (front back : List Place) (c whole_circuit : Circuit) : Type 0 where
  pub step : IsChainStep cut blif facts i p m depth front back c whole_circuit
  pub flat : IsCircuit (flat_circuit_of cut.top)
  pub first : IsOfChain k blif facts (before cut i) c
  pub next : IsOfChain k blif facts (before cut (suc i)) whole_circuit

-- The law: the step leaves one more instance whole, as the laws of what both circuits have in common ask.
abbrev pub StepsAreOneMoreWhole : Type 0
StepsAreOneMoreWhole =
    (k : Comparison) (cut : Cut) (blif : Blif) (facts : List CellFacts) (i : ℕ) (p : NumberedPlace) (m depth : ℕ) (front back : List Place) (c whole_circuit : Circuit) (phase : ℕ)
    → phase < length cut.top.rules.phases → IsStepOf k cut blif facts i p m depth front back c whole_circuit
    → let q = compared_at cut.top blif p m in
    IsOneMoreWhole (with_circuit k c) q phase whole_circuit (net_above cut.top p.at) (λ j. j) (fresh_place (before cut i) blif facts q)
    (is_outside_at cut.top depth p.at) (compared_at_step cut blif facts i p q) (exposed_at cut blif facts i p q) (drive_at facts p q)
