-- Where no arc leads to a lower group, a cycle stays in one.
use Rattle.std.proofs.Common.{◌≡◌, ℕ, zero, suc, ◌<◌, Bool, List, [], ◌∷◌, length, slice_index, arith, subst, sym, refl}
use Rattle.std.proofs.lemmas.Option.{none-some, same_Some}
use Rattle.graphs.proofs.Walks.{walk_rises}
use Rattle.graphs.specs.Graphs.{ArcIn}
use Rattle.graphs.specs.Groups.{HasCycles, HasStays, NoneFalls}
use Rattle.vrt_model.specs.Lists.{At}

pub cycles_stay : (sources : List (List ℕ)) (groups : List ℕ) (marks : List Bool) → NoneFalls sources groups → HasStays sources groups marks → HasCycles sources marks
cycles_stay sources groups marks none stays n [] cycle = stays n n (subst (λ (x : ℕ). ArcIn sources x n) (sym cycle.1) cycle.2) refl
cycles_stay sources groups marks none stays n (m ∷ nodes) cycle =
    let up = none n m cycle.1.0 in
    let along = walk_rises (ArcIn sources) (slice_index groups) none nodes m cycle.0 cycle.1.1 in
    let back = none cycle.0 n cycle.2 in
    stays n m cycle.1.0 (omega (arith, up, along, back))

-- ---- arcs

-- arcs lead to numbers of the graph alone
pub arc_within : (sources : List (List ℕ)) (from to : ℕ) → ArcIn sources from to → to < length sources
arc_within [] from to arc = absurd (none-some from arc.1)
arc_within (numbers ∷ sources) from zero arc = omega arith
arc_within (numbers ∷ sources) from (suc to) arc = let rest = arc_within sources from to arc in omega (arith, rest)

pub index_at : (xs : List ℕ) (i x : ℕ) → At xs i x → slice_index xs i ≡ x
index_at [] i x e = absurd (none-some x e)
index_at (y ∷ xs) zero x e = same_Some y x e
index_at (y ∷ xs) (suc i) x e = index_at xs i x e
