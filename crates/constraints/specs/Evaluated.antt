-- The function of an expression, by the handles of its names.
use Rattle.std.specs.Prelude.{ℕ, ◌+◌, ◌*◌, ◌<◌, List, length, Result}
use Rattle.node_pool.specs.declared.region.Span.{Span}
use Rattle.bdd_core.specs.Diagram.{Function, IsWithin, meaning}
use Rattle.bdd_core.specs.Store.{Diagrams, Gives}
use Rattle.bdd_core.specs.declared.handle.H.{H}
use Rattle.bdd_core.specs.declared.handle.Spent.{Spent}
use Rattle.bdd_ops.specs.Counting.{Counts}
use Rattle.vrt_model.specs.Expressions.{names_in, operators_in, value_of}
use Rattle.vrt_model.specs.declared.rules.Expr.{Expr}
use Rattle.constraints.specs.Handles.{handle_listed}

-- the function of an expression, where each name has a handle
abbrev pub value_in : Diagrams → (List ℕ → ℕ) → Expr → Function
value_in d handle e = λ v. value_of (λ name. meaning d.nodes (handle name) v) e

-- each name has a live handle
abbrev pub AreLive : Diagrams → (List ℕ → ℕ) → Type 0
AreLive d handle = (name : List ℕ) → handle name < length d.nodes

-- each name has a function of the first u variables
abbrev pub AreWithin : ℕ → Diagrams → (List ℕ → ℕ) → Type 0
AreWithin u d handle = (name : List ℕ) → IsWithin u (meaning d.nodes (handle name))

-- the function of the expression was made, by at most two operations for each operator
pub record Evaluates (old new : Diagrams) (handle : List ℕ → ℕ) (e : Expr) (result : Result H Spent) : Type 0 where
  pub gives : Gives old new (value_in old handle e) result
  pub counts : (u : ℕ) → AreWithin u old handle → Counts u (2 * operators_in e) old new result

-- the function of an expression over listed names
abbrev pub value_listed : Diagrams → List (List ℕ) → Span → Expr → Function
value_listed d names values e = value_in d (handle_listed d.words names values) e

-- the operators and names of an expression
abbrev pub expression_size : Expr → ℕ
expression_size e = operators_in e + length (names_in e)
