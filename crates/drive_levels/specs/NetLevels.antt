-- The level that a net has in the bare and in the kept circuit of a phase, at every valuation of a care set.
use Rattle.std.specs.Prelude.{◌≡◌, ℕ, ◌+◌, ◌<◌, ◌==◌, Bool, true, cond, List, Option, Some, None, length, sum_by}
use Rattle.bdd_core.specs.Diagram.{Function, Valuation}
use Rattle.bdd_core.specs.Store.{Diagrams, function_of}
use Rattle.bdd_core.specs.Words.{shows}
use Rattle.bdd_core.specs.declared.handle.H.{H}
use Rattle.channel_parts.specs.PartLists.{IsPartOf}
use Rattle.channel_parts.specs.Orders.{IsSolvedOnce}
use Rattle.channel_parts.specs.declared.part.Part.{Part}
use Rattle.circuit_faults.specs.Faults.{HasFixedBits, IsSettingAt}
use Rattle.circuit_faults.specs.KeptFaults.{AreKeptObserved}
use Rattle.circuit_faults.specs.Results.{root_at}
use Rattle.circuit_faults.specs.Scans.{IsInside}
use Rattle.circuit_faults.specs.Wholes.{HasSoundWholes}
use Rattle.node_pool.specs.declared.region.Span.{Span}
use Rattle.output_levels.specs.PartLevels.{level_at, level_operations}
use Rattle.vrt_model.specs.Known.{IsPlain, is_plain_at}
use Rattle.vrt_model.specs.Levels.{source_level}
use Rattle.vrt_model.specs.Lists.{Among, mark_at}
use Rattle.vrt_model.specs.Reading.{bare, kept}
use Rattle.vrt_model.specs.Response.{IsStrength}
use Rattle.vrt_model.specs.Solution.{Agrees, IsSolution}
use Rattle.vrt_model.specs.State.{IsState, Setting, State, network_of}
use Rattle.vrt_model.specs.declared.circuit.Circuit.{Circuit}
use Rattle.vrt_model.specs.declared.rules.Phase.{Phase}

-- ---- what a level is

-- the net has this strength in the bare or the kept circuit, at each valuation with care, in each state that agrees with a
-- solution there
abbrev pub HasLevelOf : Circuit → Phase → (ℕ → Bool) → (Valuation → Setting) → Function → Bool → ℕ → ℕ → Type 0
HasLevelOf c phase observed setting care which n level =
    (v : Valuation) (a : ℕ → Option Bool) (s : State) → care v ≡ true → IsSolution c phase observed (setting v) a → IsState c phase (setting v).inputs s → Agrees observed a s.reading
    → IsStrength (network_of c which (setting v).held s) n level

-- in both
abbrev pub HasLevelIn : Circuit → Phase → (ℕ → Bool) → (Valuation → Setting) → Function → ℕ → ℕ → Type 0
HasLevelIn c phase observed setting care n level = (which : Bool) → HasLevelOf c phase observed setting care which n level

-- the level that the net has in one of the two, or in both; or there is none
abbrev pub OneGives : Circuit → Phase → (ℕ → Bool) → (Valuation → Setting) → Function → Bool → ℕ → Option ℕ → Type 0
OneGives c phase observed setting care which n (Some level) = HasLevelOf c phase observed setting care which n level
OneGives c phase observed setting care which n None = (level : ℕ) → ¬ HasLevelOf c phase observed setting care which n level

abbrev pub NetGives : Circuit → Phase → (ℕ → Bool) → (Valuation → Setting) → Function → ℕ → Option ℕ → Type 0
NetGives c phase observed setting care n (Some level) = HasLevelIn c phase observed setting care n level
NetGives c phase observed setting care n None = (level : ℕ) → ¬ HasLevelIn c phase observed setting care n level

-- ---- what is there

-- At each valuation the setting is that of the roots, the care set is not empty, the circuit has one solution, and wherever
-- there is care each solution gives the observed nets the bits of their handles.
pub record IsSolvedPhase (c : Circuit) (phase : Phase) (observed : ℕ → Bool) (setting : Valuation → Setting) (care : H) (roots gates : Span) (d : Diagrams) : Type 0 where
  pub wholes : HasSoundWholes c phase observed
  pub seen : AreKeptObserved c observed
  pub fixed : (v : Valuation) → HasFixedBits c phase (root_at d roots v)
  pub given : (v : Valuation) → IsSettingAt c (root_at d roots v) (setting v)
  pub once : IsSolvedOnce c phase
  pub bits :
      (v : Valuation) (a : ℕ → Option Bool) → function_of d care v ≡ true → IsSolution c phase observed (setting v) a → (n : ℕ) → observed n ≡ true
      → a n ≡ Some (shows d gates n v)
  pub some : (v : Valuation) × (function_of d care v ≡ true)

-- parts of the bare or of the kept circuit, and each plain net is in one
pub record ArePartsOf (c : Circuit) (phase : Phase) (which : Bool) (parts : List Part) : Type 0 where
  pub rank : ℕ → ℕ
  pub each : (part : Part) → Among parts part → IsPartOf c phase which rank part
  pub all : (n : ℕ) → IsPlain c n → (part : Part) × Among parts part × IsInside part n

-- ---- by tables

-- the level that both have
abbrev pub same_level : Option ℕ → Option ℕ → Option ℕ
same_level None other = None
same_level (Some level) None = None
same_level (Some level) (Some other) = cond (level == other) (Some level) None

-- of a plain net by tables of the bare and of the kept circuit; each other net is a source
abbrev pub level_by : Circuit → List (Option ℕ) → List (Option ℕ) → ℕ → Option ℕ
level_by c bare_levels kept_levels n = cond (is_plain_at c n) (same_level (level_at bare_levels n) (level_at kept_levels n)) (Some (source_level c))

-- of each net that is asked for this is the level in each phase of which these are the parts and the handles
abbrev pub LevelsGive : Circuit → List Part → List Part → List Bool → H → Span → Diagrams → (ℕ → Option ℕ) → Type 0
LevelsGive c bare_parts kept_parts asked care gates d level =
    (phase : Phase) (observed : ℕ → Bool) (setting : Valuation → Setting) (roots : Span) → IsSolvedPhase c phase observed setting care roots gates d
    → ArePartsOf c phase bare bare_parts → ArePartsOf c phase kept kept_parts
    → (n : ℕ) → n < length c.nets → mark_at asked n ≡ true → NetGives c phase observed setting (function_of d care) n (level n)

-- the same of a phase in which the marked nets are observed
abbrev pub SeenLevelsGive : Circuit → List Part → List Part → List Bool → List Bool → H → Span → Diagrams → (ℕ → Option ℕ) → Type 0
SeenLevelsGive c bare_parts kept_parts asked marks care gates d level =
    (phase : Phase) (observed : ℕ → Bool) (setting : Valuation → Setting) (roots : Span) → ((n : ℕ) → mark_at marks n ≡ true → observed n ≡ true)
    → IsSolvedPhase c phase observed setting care roots gates d → ArePartsOf c phase bare bare_parts → ArePartsOf c phase kept kept_parts
    → (n : ℕ) → n < length c.nets → mark_at asked n ≡ true → NetGives c phase observed setting (function_of d care) n (level n)

-- ---- operations

-- those of the parts of the bare and of the kept circuit
abbrev pub drive_operations : Circuit → List Part → List Part → ℕ
drive_operations c bare_parts kept_parts = sum_by (level_operations c) bare_parts + sum_by (level_operations c) kept_parts
