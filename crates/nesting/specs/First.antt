-- Which stand in one another as they may, and the first that does not.
use Rattle.std.specs.Prelude.{◌≡◌, ℕ, ◌<◌, ◌≤◌, List, length, get_or, Option, Some, None}
use Rattle.vrt_model.specs.Nesting.{ContainsItself, depth_in}
use Rattle.nesting.specs.declared.first.NestingFault.{NestingFault}
use Rattle.nesting.specs.declared.first.NestingFault.TheVariants.{Recursion, Depth}

-- Here `children` says which stand directly in one, and `count` how many there are.

-- none contains itself
abbrev pub AreFounded : (ℕ → List ℕ) → ℕ → Type 0
AreFounded children count = (n : ℕ) → n < count → ¬ ContainsItself children n

-- none is deeper than a limit
abbrev pub AreWithin : (ℕ → List ℕ) → ℕ → ℕ → Type 0
AreWithin children count limit = (n : ℕ) → n < count → depth_in children count n ≤ limit

pub record AreShallow (children : ℕ → List ℕ) (count limit : ℕ) : Type 0 where
  pub founded : AreFounded children count
  pub within : AreWithin children count limit

-- the first that contains itself, if any does
abbrev pub IsFirstItself : (ℕ → List ℕ) → ℕ → Option ℕ → Type 0
IsFirstItself children count None = AreFounded children count
IsFirstItself children count (Some n) = (n < count) × ContainsItself children n × ((k : ℕ) → k < n → ¬ ContainsItself children k)

-- the first that is deeper than a limit
pub record IsFirstDeep (children : ℕ → List ℕ) (count limit n : ℕ) : Type 0 where
  pub there : n < count
  pub deep : limit < depth_in children count n
  pub first : (k : ℕ) → k < n → depth_in children count k ≤ limit

-- the first depth of a table above a limit, if any is
abbrev pub IsFirstAbove : List ℕ → ℕ → Option ℕ → Type 0
IsFirstAbove depths limit None = (n : ℕ) → n < length depths → get_or depths n 0 ≤ limit
IsFirstAbove depths limit (Some n) = (n < length depths) × (limit < get_or depths n 0) × ((k : ℕ) → k < n → get_or depths k 0 ≤ limit)

-- the fault of depth, if there is one
abbrev pub IsDepthFault : (ℕ → List ℕ) → ℕ → ℕ → Option NestingFault → Type 0
IsDepthFault children count limit None = AreWithin children count limit
IsDepthFault children count limit (Some (Recursion n)) = ⊥
IsDepthFault children count limit (Some (Depth n depth)) = IsFirstDeep children count limit n × (depth ≡ depth_in children count n)

-- the fault, if there is one: one that contains itself comes before one that is too deep
abbrev pub IsFirstFault : (ℕ → List ℕ) → ℕ → ℕ → Option NestingFault → Type 0
IsFirstFault children count limit None = AreShallow children count limit
IsFirstFault children count limit (Some (Recursion n)) = IsFirstItself children count (Some n)
IsFirstFault children count limit (Some (Depth n depth)) = AreFounded children count × IsFirstDeep children count limit n × (depth ≡ depth_in children count n)
