-- Where two lists of handles, one handle for each net, have different bits at observed nets.
use Rattle.std.specs.Prelude.{◌≡◌, ◌≢◌, ℕ, ◌↔◌, Bool, true, false, Option, Some, None}
use Rattle.node_pool.specs.declared.region.Span.{Span}
use Rattle.bdd_core.specs.Diagram.{Function, Valuation}
use Rattle.bdd_core.specs.Store.{Diagrams, IsLive, Means, function_of}
use Rattle.bdd_core.specs.Words.{shows}
use Rattle.bdd_core.specs.declared.handle.H.{H}
use Rattle.bdd_ops.specs.Ops.{and_of, xor_of}

-- ---- one net

-- where there is care and two functions have different values
abbrev pub difference_of : Function → Function → Function → Function
difference_of care f g = and_of care (xor_of f g)

-- where the net is seen, nowhere; or the handle says where, which is somewhere
abbrev pub NetDiffers : Bool → Function → Diagrams → Option H → Type 0
NetDiffers seen different d None = seen ≡ true → (v : Valuation) → different v ≡ false
NetDiffers seen different d (Some at) = (seen ≡ true) × Means d at different × (at.0 ≢ 0)

-- ---- all observed nets

-- in the care set the observed nets have the same bits in both
abbrev pub AreAlike : (ℕ → Bool) → Function → Span → Span → Diagrams → Type 0
AreAlike observed care left right d = (n : ℕ) (v : Valuation) → observed n ≡ true → care v ≡ true → shows d left n v ≡ shows d right n v

-- An observed net has different bits somewhere in the care set: the handle is live, not that of the constant 0, and says where.
pub record IsDifference (observed : ℕ → Bool) (care : Function) (left right : Span) (at : H) (old new : Diagrams) : Type 0 where
  pub live : IsLive new at
  pub some : at.0 ≢ 0
  pub net : ℕ
  pub seen : observed net ≡ true
  pub exact : (v : Valuation) → (function_of new at v ≡ true) ↔ ((care v ≡ true) × (shows old left net v ≢ shows old right net v))

-- they are alike, or the handle says where they are not
abbrev pub DifferGives : (ℕ → Bool) → Function → Span → Span → Diagrams → Diagrams → Option H → Type 0
DifferGives observed care left right old new None = AreAlike observed care left right old
DifferGives observed care left right old new (Some at) = IsDifference observed care left right at old new
