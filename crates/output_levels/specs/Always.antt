-- The level that a net has at each valuation of a care set, by the words that say whether its strength is at least each level.
use Rattle.std.specs.Prelude.{◌≡◌, ℕ, ◌+◌, ◌<◌, ◌≤◌, ◌↔◌, true, false, Option, Some, None}
use Rattle.bdd_core.specs.Diagram.{Function, Valuation}
use Rattle.bdd_core.specs.Store.{Diagrams}
use Rattle.path_fixpoint.specs.Strengths.{strong}
use Rattle.path_fixpoint.specs.declared.words.NetWords.{NetWords}

-- 1, or 0, wherever there is care
abbrev pub IsAlways : Function → Function → Type 0
IsAlways care f = (v : Valuation) → care v ≡ true → f v ≡ true

abbrev pub IsNever : Function → Function → Type 0
IsNever care f = (v : Valuation) → care v ≡ true → f v ≡ false

-- where the strength of the net at a place of a part is at least a level
abbrev pub strong_at : Diagrams → NetWords → ℕ → ℕ → Function
strong_at d out place level = λ v. strong d out level place v

-- these functions say of a strength, wherever there is care, whether it is at least each level up to the source level
pub record AreStrengths (source : ℕ) (care : Function) (is_strong : ℕ → Function) (s : Valuation → ℕ) : Type 0 where
  pub most : (v : Valuation) → care v ≡ true → s v ≤ source
  pub says : (v : Valuation) (level : ℕ) → care v ≡ true → 1 ≤ level → level ≤ source → (is_strong level v ≡ true) ↔ (level ≤ s v)

-- the greatest level up to which the strength is everywhere, and 0 where there is none
pub record IsLeastStrength (source : ℕ) (care : Function) (is_strong : ℕ → Function) (level : ℕ) : Type 0 where
  pub most : level ≤ source
  pub always : 1 ≤ level → IsAlways care (is_strong level)
  pub above : level < source → ¬ IsAlways care (is_strong (level + 1))

-- the strength is this level wherever there is care; or no level is
abbrev pub LevelGives : Function → (Valuation → ℕ) → Option ℕ → Type 0
LevelGives care s (Some level) = (v : Valuation) → care v ≡ true → s v ≡ level
LevelGives care s None = (level : ℕ) → ¬ ((v : Valuation) → care v ≡ true → s v ≡ level)
