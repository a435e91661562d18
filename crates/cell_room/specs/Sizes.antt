-- How many elements latches have.
use Rattle.std.specs.Prelude.{ℕ, ◌+◌, ◌<◌, ◌≤◌, List, [], ◌∷◌, length}
use Rattle.vrt_model.specs.Elements.{element_count}
use Rattle.vrt_model.specs.Lists.{At}
use Rattle.vrt_model.specs.declared.flat_model.FlatLatch.{FlatLatch}
use Rattle.vrt_model.specs.declared.groups.Vars.{Vars}

abbrev pub elements_in : List FlatLatch → ℕ
elements_in [] = 0
elements_in (l ∷ ls) = element_count l.kind + elements_in ls

-- each of the first phases has so many variables at most
abbrev pub AreWithinTo : List Vars → ℕ → ℕ → Type 0
AreWithinTo vars upto variables = (p : ℕ) (v : Vars) → p < upto → At vars p v → length v.sources ≤ variables
