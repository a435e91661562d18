-- Functions that stand behind variables, and functions composed of them.
use Rattle.std.specs.Prelude.{◌≡◌, ℕ, ◌<◌, ◌≤◌, ◌⊎◌, length, slice_index}
use Rattle.bdd_core.specs.Diagram.{Function, IsWithin, Valuation, meaning}
use Rattle.bdd_core.specs.Store.{Diagrams}
use Rattle.part_functions.specs.declared.few.PartFunctions.{PartFunctions}

-- the handle of a number; that of the constant 0 where there is none
abbrev pub handle_at : PartFunctions → ℕ → ℕ
handle_at f x = slice_index f.handles x

-- a list of handles, with that of the constant 0 behind them
pub record IsList (f : PartFunctions) : Type 0 where
  pub sized : length f.handles ≡ 6
  pub few : f.count ≤ 6
  pub rest : (x : ℕ) → f.count ≤ x → handle_at f x ≡ 0

-- the handle is that of a constant, or has a number
abbrev pub HasHandle : PartFunctions → ℕ → Type 0
HasHandle f h = (h < 2) ⊎ ((x : ℕ) × (x < f.count) × (handle_at f x ≡ h))

-- at a valuation: the bits of the functions, for the variables that stand for them
abbrev pub inner : PartFunctions → Diagrams → Valuation → Valuation
inner f d v = λ x. meaning d.nodes (handle_at f x) v

-- a function with the functions in place of the variables
abbrev pub composed_of : PartFunctions → Diagrams → Function → Function
composed_of f d g = λ v. g (inner f d v)

-- the handles are live
abbrev pub AreLive : PartFunctions → Diagrams → Type 0
AreLive f d = (x : ℕ) → handle_at f x < length d.nodes

-- the functions read only the first u variables
abbrev pub AreWithin : ℕ → PartFunctions → Diagrams → Type 0
AreWithin u f d = (x : ℕ) → IsWithin u (meaning d.nodes (handle_at f x))

-- the same handles in another order
pub record IsReordered (f g : PartFunctions) : Type 0 where
  pub list : IsList g
  pub count : g.count ≡ f.count
  pub has : (h : ℕ) → HasHandle f h → HasHandle g h
  pub from : (x : ℕ) → (y : ℕ) × (handle_at g x ≡ handle_at f y)
