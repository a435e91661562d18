-- Inputs that rise in a phase, and the words of a step.
use Rattle.std.specs.Prelude.{◌≡◌, ℕ, ◌+◌, ◌*◌, ◌<◌, ◌≤◌, true, List, length}
use Rattle.node_pool.specs.declared.region.Span.{Span}
use Rattle.bdd_core.specs.Store.{Adds, Diagrams}
use Rattle.bdd_core.specs.Diagram.{Valuation}
use Rattle.bdd_core.specs.Words.{IsFilled, shows}
use Rattle.circuit_faults.specs.Steps.{part_list}
use Rattle.circuit_faults.specs.declared.spans.KeptSpans.{KeptSpans}
use Rattle.domino_order.specs.declared.step.Rising.{Rising}
use Rattle.domino_order.specs.declared.step.StepWords.{StepWords}
use Rattle.path_fixpoint.specs.Strengths.{net_words}
use Rattle.phase_terms.specs.Plans.{IsPhasePlan}
use Rattle.phase_terms.specs.Ready.{IsReady, comparison_in}
use Rattle.setting_faults.specs.Settling.{settling_operations}
use Rattle.vrt_model.specs.Circuits.{IsFlat}
use Rattle.vrt_model.specs.Comparison.{Comparison}
use Rattle.vrt_model.specs.Lists.{At, has_number}
use Rattle.vrt_model.specs.declared.circuit.Circuit.{Circuit}
use Rattle.vrt_model.specs.declared.circuit.FlatNet.{FlatNet}
use Rattle.vrt_model.specs.Levels.{source_level}
use Rattle.vrt_model.specs.declared.circuit.NetKind.TheVariants.{Input}

-- ---- inputs that rise

-- these nets are those of inputs
abbrev pub AreInputs : Circuit → List ℕ → Type 0
AreInputs c nets = (n : ℕ) → has_number nets n ≡ true → (net : FlatNet) × At c.nets n net × (net.kind ≡ Input)

-- the comparison that the code has
abbrev pub of_rising : Rising → Comparison
of_rising s = comparison_in s.compared

-- inputs of a comparison without whole instances rise in a phase that is planned
pub record IsRising (s : Rising) : Type 0 where
  pub ready : IsReady (of_rising s)
  pub there : s.phase < length (of_rising s).rules.phases
  pub flat : IsFlat (of_rising s).circuit
  pub planned : IsPhasePlan (of_rising s) s.phase s.plan.now
  pub steps : s.steps.now ≡ part_list (length s.plan.now.parts.list)
  pub inputs : AreInputs (of_rising s).circuit s.nets.now

-- ---- words

-- the spans of a step, one behind the other: one word for each net of the circuit, and those in which its parts are solved
pub record HasStepWords (c : Circuit) (w : StepWords) (d : Diagrams) : Type 0 where
  pub first : d.own ≤ w.given.start
  pub rose_behind : w.given.start + w.given.len ≤ w.rose.start
  pub zeros_behind : w.rose.start + w.rose.len ≤ w.zeros.start
  pub ones_behind : w.zeros.start + w.zeros.len ≤ w.ones.start
  pub out_behind : w.ones.start + w.ones.len ≤ w.out.start
  pub setting_behind : w.out.start + w.out.len ≤ w.setting.start
  pub together_behind : w.setting.start + w.setting.len ≤ w.together.start
  pub last : w.together.start + w.together.len ≤ length d.words
  pub given_len : w.given.len ≡ length c.nets
  pub rose_len : w.rose.len ≡ length c.nets
  pub zeros_len : w.zeros.len ≡ length c.nets
  pub ones_len : w.ones.len ≡ length c.nets
  pub out_len : net_words (source_level c) * length c.nets ≤ w.out.len
  pub setting_len : w.setting.len ≡ length c.nets
  pub together_len : w.together.len ≡ length c.nets

-- these words are there, and four spans have live handles
pub record HasStepHandles (c : Circuit) (w : StepWords) (d : Diagrams) : Type 0 where
  pub words : HasStepWords c w d
  pub given : IsFilled d w.given
  pub setting : IsFilled d w.setting
  pub rose : IsFilled d w.rose
  pub together : IsFilled d w.together

-- the spans in which the circuit is settled at the setting, into these gates
abbrev pub settle_spans : StepWords → Span → KeptSpans
settle_spans w gates = record { roots = w.setting; gates = gates; zeros = w.zeros; ones = w.ones; out = w.out }

-- the handles of a span are live still, and show what they showed
pub record StaysFilled (span : Span) (old new : Diagrams) : Type 0 where
  pub live : IsFilled new span
  pub shown : (n : ℕ) (v : Valuation) → n < span.len → shows new span n v ≡ shows old span n v

-- nodes were only added, and no word came or went
pub record KeepsWords (old new : Diagrams) : Type 0 where
  pub adds : Adds old new new.words
  pub len : length new.words ≡ length old.words

-- ---- operations

-- to settle the circuit once
abbrev pub settle_operations : Rising → ℕ
settle_operations s = settling_operations (of_rising s).circuit s.plan.now.parts.list s.plan.now.kept.list

-- a step: thrice, and three for each net
abbrev pub step_operations : Rising → ℕ
step_operations s = 3 * settle_operations s + 3 * length (of_rising s).circuit.nets
