-- The span of the handles after an operation.
use Rattle.std.proofs.Common.{◌≡◌, ℕ, List, Result, ap, subst}
use Rattle.node_pool.specs.declared.region.Span.{Span}
use Rattle.bdd_core.specs.Diagram.{Function}
use Rattle.bdd_core.specs.Store.{Diagrams, Gives}
use Rattle.bdd_core.specs.declared.handle.H.{H}
use Rattle.bdd_core.specs.declared.handle.Spent.{Spent}
use Rattle.bdd_core.proofs.Frames.{adds_words, filled_added, span_added}
use Rattle.vrt_model.specs.declared.rules.Expr.{Expr}
use Rattle.constraints.specs.Evaluated.{Evaluates}
use Rattle.constraints.specs.Handles.{HasHandles, IsReady, handle_in}
use Rattle.constraints.specs.Obliged.{AddsTest}
use Rattle.constraints.specs.declared.ports.Ports.{Ports}
use Rattle.constraints.specs.declared.ports.Ports.TheVariants.{Listed, Tied, Given}

-- what is ready stays so
pub ready_kept : (a b : Diagrams) (f : Function) (r : Result H Spent) (values : Span) → Gives a b f r → IsReady a values → IsReady b values
ready_kept a b f r values g ready = (span_added values a b g.adds ready.0, filled_added values a b g.adds ready.1)

has_kept : (a b : Diagrams) (f : Function) (r : Result H Spent) (ports : Ports) → Gives a b f r → HasHandles a ports → HasHandles b ports
has_kept a b f r (Listed names values) g has = (ready_kept a b f r values g has.0, has.1)
has_kept a b f r (Tied names nets values) g has = (ready_kept a b f r values g has.0, has.1)
has_kept a b f r (Given given) g has = (ready_kept a b f r given.values g has.0, has.1)

module _ (old mid : Diagrams) (f : Function) (r : Result H Spent) (first : Gives old mid f r) where
  words_next : mid.words ≡ old.words
  words_next = adds_words old mid old.words first.adds

  -- the handles stay where they are
  pub handles_next : (ports : Ports) → handle_in mid.words ports ≡ handle_in old.words ports
  handles_next ports = ap (λ (ws : List ℕ). handle_in ws ports) words_next

  pub evaluates_next : (ports : Ports) (new : Diagrams) (e : Expr) (q : Result H Spent) → Evaluates mid new (handle_in mid.words ports) e q → Evaluates mid new (handle_in old.words ports) e q
  evaluates_next ports new e q = subst (λ (handle : List ℕ → ℕ). Evaluates mid new handle e q) (handles_next ports)

  pub handles_after : (ports : Ports) → HasHandles old ports → HasHandles mid ports
  handles_after ports has = has_kept old mid f r ports first has

  pub adds_next : (by_words : List ℕ → List ℕ → ℕ) (operations : ℕ) (start : Function) (test : (List ℕ → ℕ) → Function) (new : Diagrams) (q : Result H Spent)
      → AddsTest (by_words mid.words) operations start (test (by_words mid.words)) mid new q → AddsTest (by_words old.words) operations start (test (by_words old.words)) mid new q
  adds_next by_words operations start test new q = subst (λ (ws : List ℕ). AddsTest (by_words ws) operations start (test (by_words ws)) mid new q) words_next

-- after an expression was evaluated, each port still has its handle
pub handles_stay : (old mid : Diagrams) (handle : List ℕ → ℕ) (e : Expr) (r : Result H Spent) (ports : Ports) → HasHandles old ports → Evaluates old mid handle e r → HasHandles mid ports
handles_stay old mid handle e r ports has first = has_kept old mid _ r ports first.gives has
