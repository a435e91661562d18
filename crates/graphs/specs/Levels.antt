-- Levels of a graph: each number is one above the greatest of those from which arcs lead to it, its sources.
use Rattle.std.specs.Prelude.{◌≡◌, ℕ, suc, ◌<◌, ◌≤◌, ◌⊎◌, cond, List, Option, None, Some, length, slice_index, sum_by, ◌==◌}
use Rattle.graphs.specs.Graphs.{sources_at}
use Rattle.graphs.specs.declared.levels.Waiter.{Waiter}
use Rattle.vrt_model.specs.Lists.{At, Among}

-- where a number has a level, its sources have lower ones, and it is the first level or one above a source
pub record AreLevels (sources : List (List ℕ)) (levels : List ℕ) : Type 0 where
  pub above :
      (n q : ℕ) → Among (sources_at sources n) q → 0 < slice_index levels n → (0 < slice_index levels q) × (slice_index levels q < slice_index levels n)
  pub reached :
      (n : ℕ) → 0 < slice_index levels n
      → (slice_index levels n ≡ 1) ⊎ ((q : ℕ) × Among (sources_at sources n) q × (slice_index levels n ≡ suc (slice_index levels q)))

-- a number without a level has a source without one
abbrev pub AreStuck : List (List ℕ) → List ℕ → Type 0
AreStuck sources levels =
    (n : ℕ) → n < length sources → slice_index levels n ≡ 0 → (q : ℕ) × Among (sources_at sources n) q × (slice_index levels q ≡ 0)

-- how many numbers have no level
abbrev pub without_level : List ℕ → ℕ
without_level levels = sum_by (λ (level : ℕ). cond (level == 0) 1 0) levels

-- ---- numbers that wait for sources

-- the sources that a waiter has passed have levels
abbrev pub HasPassed : List (List ℕ) → List ℕ → Waiter → Type 0
HasPassed sources levels waiter =
    (waiter.node < length sources)
    × ((i q : ℕ) → i < waiter.from → At (sources_at sources waiter.node) i q → 0 < slice_index levels q)

-- a number is to be looked at, from a place of the list on, or waits for a source without a level
abbrev pub IsListed : List Waiter → ℕ → ℕ → Type 0
IsListed queue at n = (i : ℕ) × (waiter : Waiter) × At queue i waiter × (at ≤ i) × (waiter.node ≡ n)

abbrev pub IsWaiting : List (List ℕ) → List ℕ → List (List Waiter) → ℕ → Type 0
IsWaiting sources levels waiting n =
    (q : ℕ) × (row : List Waiter) × (waiter : Waiter) × At waiting q row × Among row waiter × (waiter.node ≡ n)
    × Among (sources_at sources n) q × (slice_index levels q ≡ 0)

-- the levels so far, and where the numbers without one stand
pub record IsLevelling (sources : List (List ℕ)) (levels : List ℕ) (waiting : List (List Waiter)) (queue : List Waiter) (at : ℕ) : Type 0 where
  pub size : length levels ≡ length sources
  pub room : length waiting ≡ length sources
  pub so_far : AreLevels sources levels
  pub stand : (n : ℕ) → n < length sources → slice_index levels n ≡ 0 → IsListed queue at n ⊎ IsWaiting sources levels waiting n
  pub listed : (waiter : Waiter) → Among queue waiter → HasPassed sources levels waiter
  pub held : (q : ℕ) (row : List Waiter) (waiter : Waiter) → At waiting q row → Among row waiter → HasPassed sources levels waiter

-- ---- one look at a waiter

-- a waiter more waits for a number, and all others as before
pub record IsWaitingAt (at : ℕ) (waiter : Waiter) (old new : List (List Waiter)) : Type 0 where
  pub count : length new ≡ length old
  pub there : (row : List Waiter) × At new at row × Among row waiter
  pub stays : (k : ℕ) (row : List Waiter) (w : Waiter) → At old k row → Among row w → (wider : List Waiter) × At new k wider × Among wider w
  pub each :
      (k : ℕ) (row : List Waiter) (w : Waiter) → At new k row → Among row w
      → (w ≡ waiter) ⊎ ((before : List Waiter) × At old k before × Among before w)

-- the first source from a place on that has no level, if there is one
abbrev pub IsFirstOpen : List ℕ → List ℕ → ℕ → Option ℕ → Type 0
IsFirstOpen numbers levels from None = (i q : ℕ) → from ≤ i → At numbers i q → 0 < slice_index levels q
IsFirstOpen numbers levels from (Some place) =
    ((q : ℕ) × At numbers place q × (slice_index levels q ≡ 0))
    × ((i q : ℕ) → from ≤ i → i < place → At numbers i q → 0 < slice_index levels q)

-- a number gets the level above its sources, which all have one; other levels stay
pub record IsLevelled (sources : List (List ℕ)) (n : ℕ) (old new : List ℕ) : Type 0 where
  pub size : length new ≡ length old
  pub none : slice_index old n ≡ 0
  pub others : (m : ℕ) → (m ≡ n → ⊥) → slice_index new m ≡ slice_index old m
  pub above : (q : ℕ) → Among (sources_at sources n) q → (0 < slice_index old q) × (slice_index old q < slice_index new n)
  pub reached : (slice_index new n ≡ 1) ⊎ ((q : ℕ) × Among (sources_at sources n) q × (slice_index new n ≡ suc (slice_index old q)))
  pub some : 0 < slice_index new n
  pub fewer : without_level new < without_level old
