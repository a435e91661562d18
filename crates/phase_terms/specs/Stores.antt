-- The store of a phase: its words, and how many nodes it has.
use Rattle.std.specs.Prelude.{◌≡◌, ℕ, ◌+◌, ◌*◌, ◌^◌, ◌≤◌, List, [], ◌∷◌, length, max}
use Rattle.bdd_core.specs.Diagram.{TestsWithin}
use Rattle.bdd_core.specs.Store.{Diagrams}
use Rattle.path_fixpoint.specs.Parts.{pins_of}
use Rattle.path_fixpoint.specs.Strengths.{net_words}
use Rattle.phase_terms.specs.declared.words.PhaseWords.{PhaseWords}
use Rattle.phase_terms.specs.declared.words.WordCounts.{WordCounts}
use Rattle.vrt_model.specs.Comparison.{Comparison}
use Rattle.vrt_model.specs.Elements.{element_names}
use Rattle.vrt_model.specs.Held.{sources_of}
use Rattle.vrt_model.specs.Levels.{source_level}
use Rattle.vrt_model.specs.declared.whole.Whole.{Whole}
use Rattle.whole_steps.specs.Words.{model_words}

-- the words in which the greatest model of some whole instances is evaluated
abbrev pub most_model_words : List Whole → ℕ
most_model_words [] = 0
most_model_words (w ∷ ws) = max (model_words w.model) (most_model_words ws)

-- how many words a phase takes
abbrev pub word_count : WordCounts → ℕ
word_count c = net_words c.source * c.nets + 4 * c.nets + c.pins + c.models + (2 * c.signals + 1) + 2 * c.elements + c.variables

-- the words of a comparison in a store of so many variables
abbrev pub counts_of : Comparison → ℕ → WordCounts
counts_of k variables = record {
  nets = length k.circuit.nets;
  source = source_level k.circuit;
  pins = length (pins_of k.circuit);
  models = most_model_words k.circuit.wholes;
  signals = length k.model.signals;
  elements = length (element_names k.model);
  variables = variables;
}

-- The spans of a phase, one behind the other.
pub record HasPhaseWords (c : WordCounts) (w : PhaseWords) (d : Diagrams) : Type 0 where
  pub first : d.own ≤ w.roots.start
  pub gates_behind : w.roots.start + w.roots.len ≤ w.gates.start
  pub zeros_behind : w.gates.start + w.gates.len ≤ w.zeros.start
  pub ones_behind : w.zeros.start + w.zeros.len ≤ w.ones.start
  pub out_behind : w.ones.start + w.ones.len ≤ w.out.start
  pub inputs_behind : w.out.start + w.out.len ≤ w.inputs.start
  pub held_behind : w.inputs.start + w.inputs.len ≤ w.held.start
  pub values_behind : w.held.start + w.held.len ≤ w.values.start
  pub least_behind : w.values.start + w.values.len ≤ w.least.start
  pub last : w.least.start + w.least.len ≤ length d.words
  pub roots_len : w.roots.len ≡ c.nets + c.pins
  pub gates_len : w.gates.len ≡ c.nets
  pub zeros_len : w.zeros.len ≡ c.nets
  pub ones_len : w.ones.len ≡ c.nets
  pub out_len : w.out.len ≡ net_words c.source * c.nets + c.models
  pub inputs_len : w.inputs.len ≡ c.signals + 1
  pub held_len : w.held.len ≡ c.elements
  pub values_len : w.values.len ≡ c.signals + c.elements
  pub least_len : w.least.len ≡ c.variables

-- so many operations on functions of the first u variables were made since the store had two nodes
pub record IsUsed (budget u operations : ℕ) (d : Diagrams) : Type 0 where
  pub budget_is : d.budget ≡ budget
  pub few : length d.nodes ≤ 2 + operations * 2 ^ u
  pub within : TestsWithin u d.nodes

-- the words of the phase are there, the store has a variable for each of the phase, and so many operations were made
pub record IsPhaseStore (k : Comparison) (phase budget operations : ℕ) (w : PhaseWords) (d : Diagrams) : Type 0 where
  pub words : HasPhaseWords (counts_of k d.vars) w d
  pub vars : length (sources_of k phase) ≤ d.vars
  pub used : IsUsed budget (length (sources_of k phase)) operations d
