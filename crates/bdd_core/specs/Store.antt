-- What a caller sees of a store, and what its calls say.
use Rattle.std.specs.Prelude.{◌≡◌, ℕ, ◌+◌, ◌-◌, ◌^◌, ◌<◌, ◌≤◌, ◌↔◌, List, length, Result, IfOk, IfErr, IsErr}
use Rattle.node_pool.specs.declared.region.Node.{Node}
use Rattle.node_pool.specs.declared.region.Span.{Span}
use Rattle.bdd_core.specs.declared.handle.H.{H}
use Rattle.bdd_core.specs.declared.handle.Spent.{Spent}
use Rattle.bdd_core.specs.Diagram.{Function, IsSame, IsReduced, IsWithin, HasWhole, Lacks, MissesMore, Grows, meaning, top}

-- the nodes, of which the first two are the constants; the words, and the room for them; the budget of nodes, the
-- number of variables, and how many words the store took for itself at opening
pub record Diagrams : Type 0 where
  pub nodes : List Node
  pub words : List ℕ
  pub word_room : ℕ
  pub budget : ℕ
  pub vars : ℕ
  pub own : ℕ

abbrev pub IsLive : Diagrams → H → Type 0
IsLive d f = f.0 < length d.nodes

abbrev pub function_of : Diagrams → H → Function
function_of d f = meaning d.nodes f.0

-- a span that was taken, by a caller, and not left
abbrev pub IsSpan : Diagrams → Span → Type 0
IsSpan d span = (d.own ≤ span.start) × (span.start + span.len ≤ length d.words)

-- two live handles are equal exactly where their functions are
abbrev pub IsCanonical : Diagrams → Type 0
IsCanonical d = (f g : H) → IsLive d f → IsLive d g → IsSame (function_of d f) (function_of d g) ↔ (f.0 ≡ g.0)

-- a store as it opens
pub record IsOpened (budget words vars : ℕ) (d : Diagrams) : Type 0 where
  pub count : length d.nodes ≡ 2
  pub left : d.word_room ≡ length d.words + words
  pub own : d.own ≡ length d.words
  pub budget_is : d.budget ≡ budget
  pub vars_is : d.vars ≡ vars

-- f is there and has this function
pub record Means (d : Diagrams) (f : H) (is : Function) : Type 0 where
  pub live : IsLive d f
  pub same : IsSame (meaning d.nodes f.0) is

-- the budget is used up, and a node of the diagram of f is still missing
pub record IsSpent (d : Diagrams) (f : Function) (spent : Spent) : Type 0 where
  pub number : spent.nodes ≡ d.budget
  pub full : length d.nodes ≡ d.budget
  pub lacks : Lacks d.nodes f

-- what each step over a store leaves as it was: from `old` to `new` nodes were only added, and nothing else changed but
-- the words, which are these now; what was there keeps its function
pub record Adds (old new : Diagrams) (words : List ℕ) : Type 0 where
  pub rest : new ≡ record old { nodes = new.nodes; words = words }
  pub sound : IsReduced new.vars new.nodes
  pub within : length new.nodes ≤ new.budget
  pub longer : length old.nodes ≤ length new.nodes
  pub kept : (h : ℕ) → h < length old.nodes → IsSame (meaning new.nodes h) (meaning old.nodes h)

-- nodes were only added, and no word changed
abbrev pub AddsNodes : Diagrams → Diagrams → Type 0
AddsNodes old new = Adds old new old.words

-- a store went from `old` to `new` by adding nodes of the diagram of f alone: all that were missing, or as many as the
-- budget had left
pub record Makes (old new : Diagrams) (f : Function) (result : Result H Spent) : Type 0 where
  pub adds : AddsNodes old new
  pub canonical : IsCanonical new
  pub grows : Grows old.nodes new.nodes f
  pub ok : IfOk result (λ r. Means new r f)
  pub spent : IfErr result (IsSpent new f)

-- the refusal comes exactly where more nodes of the diagram of f are missing than the budget has left; else the whole
-- diagram is there; either way the handles from before keep their functions; and where f reads only the first u
-- variables, fewer than 2 ^ u nodes are added, which test these
pub record IsExact (old new : Diagrams) (f : Function) (result : Result H Spent) : Type 0 where
  pub refused : IsErr result ↔ MissesMore old.nodes f (old.budget - length old.nodes)
  pub whole : IfOk result (λ _. HasWhole new.nodes f)
  pub kept : (h : H) → IsLive old h → IsLive new h × IsSame (function_of new h) (function_of old h)
  pub few : (u : ℕ) → IsWithin u f → length new.nodes ≤ length old.nodes + (2 ^ u - 1)
  pub early : (u : ℕ) → IsWithin u f → (i : ℕ) → length old.nodes ≤ i → i < length new.nodes → top new.nodes i < u

-- after several operations: nodes were added, and nothing else; the answer has this function, or the budget is used up
pub record Gives (old new : Diagrams) (f : Function) (result : Result H Spent) : Type 0 where
  pub adds : AddsNodes old new
  pub ok : IfOk result (λ r. Means new r f)
  pub spent : IfErr result (λ s. (s.nodes ≡ new.budget) × (length new.nodes ≡ new.budget))
