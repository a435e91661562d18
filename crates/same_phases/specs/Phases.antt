-- Phases of a cell without clock ports: they differ in which outputs are observed, and in nothing else.
use Rattle.std.specs.Prelude.{◌≡◌, ℕ, Bool, true, List, [], IsSome}
use Rattle.vrt_model.specs.Comparison.{Comparison, is_observed}
use Rattle.vrt_model.specs.Constraints.{Meets}
use Rattle.vrt_model.specs.Equal.{IsPhaseEqual}
use Rattle.vrt_model.specs.Faults.{Solves}
use Rattle.vrt_model.specs.Groups.{groups_of}
use Rattle.vrt_model.specs.Held.{setting_of}
use Rattle.vrt_model.specs.Lists.{Among}
use Rattle.vrt_model.specs.Networks.{HasRanges}
use Rattle.vrt_model.specs.Reading.{Partial}
use Rattle.vrt_model.specs.Solution.{SameObserved}
use Rattle.vrt_model.specs.State.{Setting}
use Rattle.vrt_model.specs.declared.circuit.Circuit.{Circuit}
use Rattle.vrt_model.specs.declared.circuit.FlatNet.{FlatNet}
use Rattle.vrt_model.specs.declared.circuit.NetKind.TheVariants.{Clock}
use Rattle.vrt_model.specs.declared.rules.ClockRef.{ClockRef}

-- a well-formed circuit in which no instance is whole and no net carries a clock
pub record IsUnclocked (c : Circuit) : Type 0 where
  pub ranges : HasRanges c
  pub wholes : c.wholes ≡ []
  pub clocks : (net : FlatNet) (clock : ClockRef) → Among c.nets net → ¬ (net.kind ≡ Clock clock)

-- neither holds nor groups of them
pub record IsStateless (k : Comparison) : Type 0 where
  pub holds : k.circuit.holds ≡ []
  pub groups : k.groups ≡ groups_of k.circuit k.model

-- a is the one solution of a phase at a setting, with a bit at each observed net
pub record IsTheSolution (k : Comparison) (phase : ℕ) (s : Setting) (a : Partial) : Type 0 where
  pub solves : Solves k phase s a
  pub one : (b : Partial) → Solves k phase s b → SameObserved (is_observed k phase) a b
  pub defined : (n : ℕ) → is_observed k phase n ≡ true → IsSome (a n)

-- two solutions have the same bits at the nets that are observed in both phases
abbrev pub AreAlike : Comparison → ℕ → ℕ → Partial → Partial → Type 0
AreAlike k p q a b = (n : ℕ) → is_observed k p n ≡ true → is_observed k q n ≡ true → a n ≡ b n

-- The law: at a setting two phases of a circuit without clocks have solutions that are alike.
abbrev pub UnclockedPhasesAreAlike : Type 0
UnclockedPhasesAreAlike =
    (k : Comparison) (p q : ℕ) (s : Setting) (a b : Partial)
    → IsUnclocked k.circuit → IsTheSolution k p s a → IsTheSolution k q s b → AreAlike k p q a b

-- The law: without holds a valuation gives the same setting in all phases.
abbrev pub StatelessSettingsAreAlike : Type 0
StatelessSettingsAreAlike = (k : Comparison) (p q : ℕ) (bits : List Bool) → IsStateless k → setting_of k p bits ≡ setting_of k q bits

-- The law: so at a valuation that meets the constraints of two equal phases these have solutions that are alike.
abbrev pub EqualPhasesAreAlike : Type 0
EqualPhasesAreAlike =
    (k : Comparison) (p q : ℕ) (bits : List Bool) (a b : Partial)
    → IsUnclocked k.circuit → IsStateless k → IsPhaseEqual k p → IsPhaseEqual k q → Meets k p bits → Meets k q bits
    → Solves k p (setting_of k p bits) a → Solves k q (setting_of k q bits) b → AreAlike k p q a b
