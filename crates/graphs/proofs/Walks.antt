-- Walks and cycles: one arc further, over other arcs, and where something rises along the arcs.
use Rattle.std.proofs.Common.{ℕ, ◌<◌, ◌≤◌, List, [], ◌∷◌, ◌++◌, ap, arith, subst, sym, refl}
use Rattle.vrt_model.specs.Known.{IsCycle, IsFirstCycle, IsWalk}

pub walk_further : (Arc : ℕ → ℕ → Type 0) (nodes : List ℕ) (n l m : ℕ) → IsWalk Arc n nodes l → Arc l m → IsWalk Arc n (nodes ++ m ∷ []) m
walk_further Arc [] n l m e arc = (subst (λ (x : ℕ). Arc x m) (sym e) arc, refl)
walk_further Arc (k ∷ nodes) n l m walk arc = (walk.0, walk_further Arc nodes k l m walk.1 arc)

-- ---- over other arcs

-- what is a walk, a cycle or the first cycle of some arcs is one of the same arcs named otherwise
pub walk_over : (A B : ℕ → ℕ → Type 0) → ((from to : ℕ) → A from to → B from to) → (nodes : List ℕ) (n last : ℕ) → IsWalk A n nodes last → IsWalk B n nodes last
walk_over A B over [] n last e = e
walk_over A B over (m ∷ nodes) n last walk = (over n m walk.0, walk_over A B over nodes m last walk.1)

pub cycle_over : (A B : ℕ → ℕ → Type 0) → ((from to : ℕ) → A from to → B from to) → (nodes : List ℕ) → IsCycle A nodes → IsCycle B nodes
cycle_over A B over [] cycle = cycle
cycle_over A B over (n ∷ nodes) cycle = (cycle.0, walk_over A B over nodes n cycle.0 cycle.1, over cycle.0 n cycle.2)

pub first_over : (A B : ℕ → ℕ → Type 0) → ((from to : ℕ) → A from to → B from to) → ((from to : ℕ) → B from to → A from to) → (nodes : List ℕ) → IsFirstCycle A nodes → IsFirstCycle B nodes
first_over A B over back [] first = absurd first.0
first_over A B over back (n ∷ nodes) first = (cycle_over A B over (n ∷ nodes) first.0, λ m others cycle. first.1 m others (cycle_over B A back (m ∷ others) cycle))

-- ---- arcs along which something rises

pub walk_rises : (Arc : ℕ → ℕ → Type 0) (rank : ℕ → ℕ) → ((from to : ℕ) → Arc from to → rank from ≤ rank to) → (nodes : List ℕ) (n last : ℕ) → IsWalk Arc n nodes last → rank n ≤ rank last
walk_rises Arc rank rises [] n last e = let same = ap rank e in omega (arith, same)
walk_rises Arc rank rises (m ∷ nodes) n last walk =
    let first = rises n m walk.0 in
    let rest = walk_rises Arc rank rises nodes m last walk.1 in
    omega (arith, first, rest)

-- have no cycle
pub rises_acyclic : (Arc : ℕ → ℕ → Type 0) (rank : ℕ → ℕ) → ((from to : ℕ) → Arc from to → rank from < rank to) → (nodes : List ℕ) → ¬ IsCycle Arc nodes
rises_acyclic Arc rank rises [] cycle = cycle
rises_acyclic Arc rank rises (n ∷ nodes) cycle =
    let along = walk_rises Arc rank (λ from to arc. let less = rises from to arc in omega (arith, less)) nodes n cycle.0 cycle.1 in
    let back = rises cycle.0 n cycle.2 in
    omega (arith, along, back)
