-- A memo: pairs of entries, each of which is empty, or a right answer to `ite` or to `restrict`.
use Rattle.std.specs.Prelude.{◌≡◌, ℕ, ◌<◌, ◌⊎◌, Bool, cond, List, length, slice_index_or}
use Rattle.node_pool.specs.declared.region.Node.{Node}
use Rattle.bdd_core.specs.declared.memo.Entry.{Entry}
use Rattle.bdd_core.specs.declared.memo.Pair.{Pair}
use Rattle.bdd_core.specs.Diagram.{IsSame, meaning, choice, fixed}

abbrev pub no_pair : Pair
no_pair = record { newer = record { f = 0; g = 0; h = 0; r = 0 }; older = record { f = 0; g = 0; h = 0; r = 0 } }

abbrev pub pair_at : List Pair → ℕ → Pair
pair_at memo k = slice_index_or memo k no_pair

-- an entry is one of the two of a pair
abbrev pub IsOf : Pair → Entry → Type 0
IsOf pair e = (pair.newer ≡ e) ⊎ (pair.older ≡ e)

-- an entry is in some pair of a memo
pub record Holds (memo : List Pair) (e : Entry) : Type 0 where
  pub at : ℕ
  pub within : at < length memo
  pub is : IsOf (pair_at memo at) e

-- every entry is empty
abbrev pub IsEmpty : List Pair → Type 0
IsEmpty memo = (e : Entry) → Holds memo e → e.f ≡ 0

-- each entry is empty, or one that was there
abbrev pub HoldsOnly : List Pair → List Pair → Type 0
HoldsOnly old new = (e : Entry) → Holds new e → (e.f ≡ 0) ⊎ Holds old e

-- each entry is this one, empty, or one that was there
abbrev pub HoldsOnlyAlso : Entry → List Pair → List Pair → Type 0
HoldsOnlyAlso entry old new = (e : Entry) → Holds new e → (entry ≡ e) ⊎ (e.f ≡ 0) ⊎ Holds old e

-- in the place of h, the mark of an answer of `restrict`; no node has a place so high
abbrev pub fixed_mark : Bool → ℕ
fixed_mark b = cond b 4294967295 4294967294

-- r is `ite` of f, g and h
pub record Recalls (nodes : List Node) (e : Entry) : Type 0 where
  pub f_in : e.f < length nodes
  pub g_in : e.g < length nodes
  pub h_in : e.h < length nodes
  pub r_in : e.r < length nodes
  pub is : IsSame (meaning nodes e.r) (choice (meaning nodes e.f) (meaning nodes e.g) (meaning nodes e.h))

-- r is f with a bit at the variable g, by the mark h
pub record RecallsFixed (nodes : List Node) (e : Entry) : Type 0 where
  pub f_in : e.f < length nodes
  pub r_in : e.r < length nodes
  pub bit : Bool
  pub mark : e.h ≡ fixed_mark bit
  pub is : IsSame (meaning nodes e.r) (fixed (meaning nodes e.f) e.g bit)

abbrev pub IsRight : List Node → Entry → Type 0
IsRight nodes e = (e.f ≡ 0) ⊎ Recalls nodes e ⊎ RecallsFixed nodes e

abbrev pub Remembers : List Node → List Pair → Type 0
Remembers nodes memo = (e : Entry) → Holds memo e → IsRight nodes e
