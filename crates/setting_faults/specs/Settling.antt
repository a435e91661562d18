-- At which settings a circuit settles, where inputs and holds have the bits of handles.
use Rattle.std.specs.Prelude.{◌≡◌, ◌≢◌, ℕ, ◌+◌, ◌⊎◌, ◌↔◌, Bool, true, List, length, Option, Some, None, slice_index}
use Rattle.node_pool.specs.declared.region.Span.{Span}
use Rattle.bdd_core.specs.Diagram.{Valuation}
use Rattle.bdd_core.specs.Store.{Adds, Diagrams, IsLive, function_of}
use Rattle.bdd_core.specs.Words.{IsBeside, shows}
use Rattle.bdd_core.specs.declared.handle.H.{H}
use Rattle.channel_parts.specs.declared.part.Part.{Part}
use Rattle.circuit_faults.specs.Faults.{HasFault, IsSolvedAt}
use Rattle.circuit_faults.specs.KeptFaults.{HasKeptFault}
use Rattle.circuit_faults.specs.Operations.{circuit_operations, kept_operations}
use Rattle.circuit_faults.specs.Results.{root_at}
use Rattle.circuit_faults.specs.declared.spans.KeptSpans.{KeptSpans}
use Rattle.vrt_model.specs.Reading.{Partial}
use Rattle.vrt_model.specs.State.{Setting}
use Rattle.vrt_model.specs.declared.circuit.Circuit.{Circuit}
use Rattle.vrt_model.specs.declared.rules.Phase.{Phase}
use Rattle.vrt_model.specs.declared.verdict.FaultKind.{FaultKind}

-- ---- one setting

-- a fault of the circuit itself stands at the net, where a is a solution: a fight or a float of the bare circuit, a fight or a lost bit of the
-- kept one
abbrev pub HasCircuitFault : Circuit → Phase → (ℕ → Bool) → Setting → Partial → FaultKind → ℕ → Type 0
HasCircuitFault c phase observed setting a kind n = HasFault c phase observed setting a kind n ⊎ HasKeptFault c phase observed setting a kind n

-- ---- all settings that the roots give

-- In the care set no fault of the circuit stands, and each solution gives the observed nets the bits of their handles.
pub record IsSettled (c : Circuit) (phase : Phase) (observed : ℕ → Bool) (care : H) (roots gates : Span) (old new : Diagrams) : Type 0 where
  pub bits :
      (v : Valuation) (setting : Setting) (a : Partial) → function_of old care v ≡ true → IsSolvedAt c phase observed (root_at old roots v) setting a
      → (n : ℕ) → observed n ≡ true → a n ≡ Some (shows new gates n v)
  pub clear :
      (v : Valuation) (setting : Setting) (a : Partial) → function_of old care v ≡ true → IsSolvedAt c phase observed (root_at old roots v) setting a
      → (kind : FaultKind) (n : ℕ) → ¬ HasCircuitFault c phase observed setting a kind n

-- A fault of the circuit stands somewhere: the handle is live, not that of the constant 0, and says where in the care set this fault stands.
pub record IsUnsettled (c : Circuit) (phase : Phase) (observed : ℕ → Bool) (care : H) (roots : Span) (at : H) (old new : Diagrams) : Type 0 where
  pub live : IsLive new at
  pub some : at.0 ≢ 0
  pub kind : FaultKind
  pub net : ℕ
  pub exact :
      (v : Valuation) (setting : Setting) (a : Partial) → IsSolvedAt c phase observed (root_at old roots v) setting a
      → (function_of new at v ≡ true) ↔ ((function_of old care v ≡ true) × HasCircuitFault c phase observed setting a kind net)

-- it settles everywhere in the care set, or the handle says where it does not
abbrev pub SettleGives : Circuit → Phase → (ℕ → Bool) → H → Span → Span → Diagrams → Diagrams → Option H → Type 0
SettleGives c phase observed care roots gates old new None = IsSettled c phase observed care roots gates old new
SettleGives c phase observed care roots gates old new (Some at) = IsUnsettled c phase observed care roots at old new

-- ---- the store

-- nodes were only added, and words of four spans alone changed
pub record WritesSettled (spans : KeptSpans) (old new : Diagrams) : Type 0 where
  pub adds : Adds old new new.words
  pub len : length new.words ≡ length old.words
  pub others :
      (j : ℕ) → IsBeside spans.gates j → IsBeside spans.zeros j → IsBeside spans.ones j → IsBeside spans.out j
      → slice_index new.words j ≡ slice_index old.words j

-- of the bare circuit, and of the kept one
abbrev pub settling_operations : Circuit → List Part → List Part → ℕ
settling_operations c parts kept = circuit_operations c parts + kept_operations c kept
