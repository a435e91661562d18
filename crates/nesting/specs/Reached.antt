-- A search down from one: a mark for each number, and a list of those that were met.
use Rattle.std.specs.Prelude.{◌≡◌, ◌⊎◌, ◌↔◌, ℕ, ◌≤◌, ◌<◌, Bool, true, List, length}
use Rattle.vrt_model.specs.Lists.{At, Among, mark_at}
use Rattle.vrt_model.specs.Nesting.{IsWithin}

-- a number stands in the list of what was met, at a place from this one on
abbrev pub Waits : ℕ → List ℕ → ℕ → Type 0
Waits from met n = (i : ℕ) × (from ≤ i) × At met i n

-- Numbers are met: those that are new are marked and put behind the others.
pub record HasMet (marks marks' : List Bool) (met met' numbers : List ℕ) : Type 0 where
  pub size : length marks' ≡ length marks
  pub longer : length met ≤ length met'
  pub stays : (n : ℕ) → mark_at marks n ≡ true → mark_at marks' n ≡ true
  pub marked : (n : ℕ) → Among numbers n → n < length marks → mark_at marks' n ≡ true
  pub fresh : (n : ℕ) → mark_at marks' n ≡ true → (mark_at marks n ≡ true) ⊎ (Among numbers n × Waits (length met) met' n)
  pub front : (i n : ℕ) → At met i n → At met' i n
  pub behind : (i n : ℕ) → At met' i n → At met i n ⊎ Among numbers n

-- each number that stands in another is below this count
abbrev pub AreUnder : (ℕ → List ℕ) → ℕ → Type 0
AreUnder children count = (m n : ℕ) → Among (children m) n → n < count

-- What was met stands in the one from which the search goes down; each that is marked waits, or those that stand directly in it are marked.
pub record GoesDown (children : ℕ → List ℕ) (count top at : ℕ) (marks : List Bool) (met : List ℕ) : Type 0 where
  pub size : length marks ≡ count
  pub within : (n : ℕ) → mark_at marks n ≡ true → IsWithin children n top
  pub listed : (i n : ℕ) → At met i n → IsWithin children n top
  pub first : (n : ℕ) → Among (children top) n → mark_at marks n ≡ true
  pub done : (m : ℕ) → mark_at marks m ≡ true → Waits at met m ⊎ ((n : ℕ) → Among (children m) n → mark_at marks n ≡ true)

-- the marks are at exactly those that stand in one, at any depth
abbrev pub AreWithin : (ℕ → List ℕ) → ℕ → List Bool → Type 0
AreWithin children top marks = (n : ℕ) → (mark_at marks n ≡ true) ↔ IsWithin children n top
