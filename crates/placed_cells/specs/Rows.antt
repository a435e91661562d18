-- How the own nets of the places of an unrolled cell stand one behind the other.
use Rattle.std.specs.Prelude.{◌≡◌, ℕ, ◌+◌, ◌<◌, ◌≤◌, List, [], ◌∷◌, length}
use Rattle.vrt_model.specs.Comparison.{cell_at}
use Rattle.vrt_model.specs.FlatCircuit.{flat_nets, plain_net}
use Rattle.vrt_model.specs.Lists.{Among, At, path_name}
use Rattle.vrt_model.specs.Unrolled.{Place, Top, all_places, own_count, own_nets, path_text, places_in}

-- how many own nets a cell has itself
abbrev pub own_size : Top → ℕ → ℕ
own_size t cell = length (own_nets t.design t.rules (cell_at t.design cell))

-- how many it has together with the cells in it, at most so deep
abbrev pub size_inside : Top → ℕ → ℕ → ℕ
size_inside t depth cell = own_count t.design t.rules depth (cell_at t.design cell)

-- the own nets of places stand one behind the other, from a number up to another
abbrev pub AreInRow : Top → List Place → ℕ → ℕ → Type 0
AreInRow t [] from to = from ≡ to
AreInRow t (p ∷ places) from to = (p.base ≡ from) × AreInRow t places (from + own_size t p.cell) to

-- The law: a place and all places in it have their own nets in a row, in the order of the places.
abbrev pub PlacesAreInRow : Type 0
PlacesAreInRow = (t : Top) (depth : ℕ) (q : Place) → AreInRow t (places_in t depth q) q.base (q.base + size_inside t depth q.cell)

-- The law: so the own nets of an earlier place end where those of a later one begin, or before.
abbrev pub OwnNetsAreApart : Type 0
OwnNetsAreApart =
    (t : Top) (depth : ℕ) (q : Place) (i j : ℕ) (a b : Place)
    → At (places_in t depth q) i a → At (places_in t depth q) j b → i < j → a.base + own_size t a.cell ≤ b.base

-- The law: each own net of a place stands in the list of all nets, with its path name, as far behind the first one of that place
-- as it is mentioned behind it.
abbrev pub OwnNetsAreListed : Type 0
OwnNetsAreListed =
    (t : Top) (p : Place) (k : ℕ) (name : List ℕ)
    → Among (all_places t) p → At (own_nets t.design t.rules (cell_at t.design p.cell)) k name
    → At (flat_nets t) (p.base + k) (plain_net (path_name (path_text p.path) name))
