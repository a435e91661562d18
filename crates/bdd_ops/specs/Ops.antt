-- Boolean operations on functions, and what the calls of this crate say.
use Rattle.std.specs.Prelude.{◌≡◌, ℕ, ◌+◌, ◌-◌, ◌*◌, ◌^◌, ◌<◌, ◌≤◌, ◌≢◌, Bool, true, false, cond, eqb, not, ◌&&◌, ◌||◌, ◌⊎◌, ◌++◌, List, length, slice_index, slice_index_or, ◌↔◌, Result, IfOk, IfErr, IsErr}
use Rattle.node_pool.specs.declared.region.Node.{Node}
use Rattle.bdd_core.specs.declared.handle.H.{H}
use Rattle.bdd_core.specs.declared.handle.Spent.{Spent}
use Rattle.bdd_core.specs.Diagram.{Valuation, Function, IsSame, IsSubfunction, IsWithin, HasWhole, MissesMoreOf, meaning, top}
use Rattle.bdd_core.specs.Store.{AddsNodes, Diagrams, IsLive, function_of, Means, IsSpent, IsCanonical}

abbrev pub and_of : Function → Function → Function
and_of f g = λ v. f v && g v

abbrev pub or_of : Function → Function → Function
or_of f g = λ v. f v || g v

abbrev pub not_of : Function → Function
not_of f = λ v. not (f v)

abbrev pub implies_of : Function → Function → Function
implies_of f g = λ v. not (f v) || g v

abbrev pub xor_of : Function → Function → Function
xor_of f g = λ v. cond (f v) (not (g v)) (g v)

-- a store went from `old` to `new` by adding nodes of two diagrams alone, of which f has the second: all that were
-- missing, or as many as the budget had left
pub record MakesBoth (old new : Diagrams) (first f : Function) (result : Result H Spent) : Type 0 where
  pub adds : AddsNodes old new
  pub canonical : IsCanonical new
  pub more : List Node
  pub is : new.nodes ≡ old.nodes ++ more
  pub added : (i : ℕ) → length old.nodes ≤ i → i < length new.nodes → IsSubfunction (meaning new.nodes i) first ⊎ IsSubfunction (meaning new.nodes i) f
  pub ok : IfOk result (λ r. Means new r f)
  pub both : IfOk result (λ _. (n : H) × Means new n first)
  pub spent : IfErr result (λ s. IsSpent new first s ⊎ IsSpent new f s)

-- the refusal comes exactly where more nodes of the two diagrams, counted together, are missing than the budget has
-- left; else both are there whole; either way the handles from before keep their functions; and where both functions
-- read only the first u variables, each of the two adds fewer than 2 ^ u nodes, which test these
pub record IsExactBoth (old new : Diagrams) (first f : Function) (result : Result H Spent) : Type 0 where
  pub refused : IsErr result ↔ MissesMoreOf old.nodes (λ g. IsSubfunction g first ⊎ IsSubfunction g f) (old.budget - length old.nodes)
  pub whole : IfOk result (λ _. HasWhole new.nodes first × HasWhole new.nodes f)
  pub kept : (h : H) → IsLive old h → IsLive new h × IsSame (function_of new h) (function_of old h)
  pub few : (u : ℕ) → IsWithin u first → IsWithin u f → length new.nodes ≤ length old.nodes + 2 * (2 ^ u - 1)
  pub early : (u : ℕ) → IsWithin u first → IsWithin u f → (i : ℕ) → length old.nodes ≤ i → i < length new.nodes → top new.nodes i < u

-- a bit for each variable, from a list
abbrev pub bits_of : List Bool → Valuation
bits_of bits = λ x. slice_index_or bits x false

-- the bits that stand in words from a place on
abbrev pub bits_in : List ℕ → ℕ → Valuation
bits_in words start = λ x. eqb (slice_index words (start + x)) 1

-- f is 1 at b, and 0 at each valuation before it: of two valuations the lesser has 0 at the first variable where they
-- differ
pub record IsLeast (vars : ℕ) (f : Function) (b : Valuation) : Type 0 where
  pub holds : (v : Valuation) → ((y : ℕ) → y < vars → v y ≡ b y) → f v ≡ true
  pub least : (w : Valuation) (k : ℕ) → k < vars → ((y : ℕ) → y < k → w y ≡ b y) → w k ≡ false → b k ≡ true → f w ≡ false

-- from a place that is not the constant 0 to the one below it that has the least valuation, past the variable x
pub record IsTurn (nodes : List Node) (place x next bit : ℕ) : Type 0 where
  pub live : next < length nodes
  pub some : next ≢ 0
  pub later : x + 1 ≤ top nodes next
  pub bit_is : bit < 2
  pub same : (v : Valuation) → v x ≡ eqb bit 1 → meaning nodes next v ≡ meaning nodes place v
  pub none : bit ≡ 1 → (w : Valuation) → w x ≡ false → meaning nodes place w ≡ false
