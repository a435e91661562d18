-- What is made of a cell before its phases are looked through.
use Rattle.std.specs.Prelude.{◌≡◌, ℕ, ◌+◌, ◌*◌, ◌<◌, All, List, length, map, min, Option, None, Some, unwrap_or}
use Rattle.cell_room.specs.Checked.{over}
use Rattle.cell_room.specs.Compared.{IsFlattened, comparison}
use Rattle.cell_room.specs.Works.{ArePlans, AreVars, AreWithin, HasRoom, IsPlanned}
use Rattle.cell_room.specs.declared.checked.Searched.{Searched}
use Rattle.cell_room.specs.declared.lone.Outputs.{Outputs}
use Rattle.cell_room.specs.declared.made.Made.{Made}
use Rattle.cell_room.specs.declared.planned.Planned.{Planned}
use Rattle.cell_room.specs.declared.room.Room.{Room}
use Rattle.drive_levels.specs.PhaseLevels.{HasTables}
use Rattle.drive_levels.specs.PortLevels.{AreAsked}
use Rattle.lone_outputs.specs.Lone.{AreLoneBefore, AreOutputNets}
use Rattle.phase_laws.specs.Sums.{HasFewOutputs}
use Rattle.phase_open.specs.Given.{AreFew}
use Rattle.phase_terms.specs.Ready.{IsReady}
use Rattle.phase_terms.specs.Stores.{counts_of}
use Rattle.phase_terms.specs.declared.plan.PhasePlan.{PhasePlan}
use Rattle.phase_terms.specs.declared.words.WordCounts.{WordCounts}
use Rattle.vrt_model.specs.Comparison.{Comparison}
use Rattle.vrt_model.specs.declared.blif.Blif.{Blif}
use Rattle.vrt_model.specs.declared.circuit.Circuit.{Circuit}
use Rattle.vrt_model.specs.declared.design.Design.{Design}
use Rattle.vrt_model.specs.declared.groups.Vars.{Vars}
use Rattle.vrt_model.specs.declared.ids.Net.{Net}
use Rattle.vrt_model.specs.declared.rules.Rules.{Rules}
use Rattle.whole_steps.specs.Tables.{IsWholeTable}

-- for how many outputs of whole instances there are words: forty for each pair of a net with a net or a device of the flat circuit, and no more
-- than a million
abbrev pub most_outputs : Circuit → ℕ
most_outputs flat = min (40 * ((length flat.nets + 1) * (length flat.nets + length flat.devices + 1))) 1000000

-- the words of a phase of this comparison, with a variable for each that a phase has
pub record AreWords (k : Comparison) (vars : List Vars) (counts : WordCounts) : Type 0 where
  pub within : AreWithin vars counts.variables
  pub counts_are : counts ≡ counts_of k counts.variables
  pub few : AreFew counts

-- the plans of a checked circuit, or those of the flat one where there is none beside it
abbrev pub ArePlansOf : Comparison → Option Circuit → Option (List PhasePlan) → Type 0
ArePlansOf k (Some c) (Some plans) = ArePlans (over k c) (length k.rules.phases) plans
ArePlansOf k None None = Unit {0}
ArePlansOf k (Some c) None = ⊥
ArePlansOf k None (Some plans) = ⊥

-- the circuit that is looked through in place of the flat one of a comparison with these variables
pub record IsSearched (k : Comparison) (each : List Vars) (s : Searched) : Type 0 where
  pub ready : IsReady (over k (unwrap_or s.checked k.circuit))
  pub wholes : IsWholeTable (unwrap_or s.checked k.circuit) s.drivers.items s.orders
  pub vars : AreVars (over k (unwrap_or s.checked k.circuit)) (length k.rules.phases) each
  pub plans : ArePlansOf k s.checked s.plans
  pub words : AreWords (over k (unwrap_or s.checked k.circuit)) each s.counts
  pub few : HasFewOutputs (unwrap_or s.checked k.circuit) (length k.circuit.devices)

-- ---- all of it

-- of a planned cell, the circuit that is looked through, and the output ports
abbrev pub made_from : Planned → Searched → Outputs → Made
made_from p s o = record {
  flattened = p.flattened;
  checked = s.checked;
  drivers = s.drivers;
  orders = s.orders;
  vars = p.vars;
  plans = unwrap_or s.plans p.plans;
  counts = s.counts;
  outputs = o.nets;
  lone = o.lone;
}

-- the circuit that is looked through: the checked one, which is the flat one where there is none beside it
abbrev pub circuit_in : Made → Circuit
circuit_in m = unwrap_or m.checked m.flattened.circuit

-- the comparison over it
abbrev pub searched : Design → Rules → ℕ → Made → Comparison
searched design rules cell m = over (comparison design rules cell m.flattened) (circuit_in m)

-- A cell in whose way nothing stands, with the circuit that is looked through, the variables and the plan of each phase, the words of a phase, the
-- nets of its output ports, and which of these are alone inside the flat circuit.
pub record IsMade (design : Design) (blif : Blif) (rules : Rules) (cell : ℕ) (m : Made) : Type 0 where
  pub flattened : (n : ℕ) × IsFlattened design blif rules cell n m.flattened
  pub planned : IsPlanned (comparison design rules cell m.flattened)
  pub ready : IsReady (searched design rules cell m)
  pub wholes : IsWholeTable (circuit_in m) m.drivers.items m.orders
  pub vars : AreVars (searched design rules cell m) (length rules.phases) m.vars
  pub plans : ArePlans (searched design rules cell m) (length rules.phases) m.plans
  pub words : AreWords (searched design rules cell m) m.vars m.counts
  pub few : HasFewOutputs (circuit_in m) (length m.flattened.circuit.devices)
  pub outputs : AreOutputNets (comparison design rules cell m.flattened) m.outputs
  pub there : All (λ (n : Net). n.0 < length (circuit_in m).nets) m.outputs
  pub lone : AreLoneBefore (comparison design rules cell m.flattened) (length rules.phases) (map (λ (n : Net). n.0) m.outputs) m.lone.items

-- the room for the phases of a comparison with so many variables: a store as it was opened, and tables in which these nets are asked for
pub record IsRoom (k : Comparison) (budget variables : ℕ) (outputs : List Net) (r : Room) : Type 0 where
  pub nodes : length r.store.nodes ≡ 2
  pub start : r.start.nodes ≡ 2
  pub store : HasRoom k budget variables r.start.words r.store
  pub levels : HasTables (length k.circuit.nets) r.levels
  pub asked : AreAsked outputs r.levels
