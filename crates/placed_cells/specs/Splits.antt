-- The places in a place stand together among all places, and no other place names their own nets.
use Rattle.std.specs.Prelude.{◌≡◌, ℕ, ◌+◌, ◌-◌, ◌<◌, ◌≤◌, ◌⊎◌, Bool, true, false, ◌&&◌, ◌||◌, List, ◌++◌, drop, length, nat_le}
use Rattle.cell_inside.specs.Shifted.{IsWithinDepth}
use Rattle.placed_cells.specs.Rows.{size_inside}
use Rattle.vrt_model.specs.Comparison.{cell_at}
use Rattle.vrt_model.specs.FlatCircuit.{same_path}
use Rattle.vrt_model.specs.Inputs.{IsDesign}
use Rattle.vrt_model.specs.Lists.{Among, At, has_name}
use Rattle.vrt_model.specs.Unrolled.{Place, Top, all_places, deepest, mentions, net_at, places_in, top_place}
use Rattle.vrt_model.specs.declared.design.Cell.{Cell}

-- a net of a cell is a port, or a card names it
abbrev pub is_net_in : Cell → List ℕ → Bool
is_net_in cell name = has_name cell.ports name || has_name (mentions cell) name

-- the net is no own net of a place, or of a place in it at most so deep
abbrev pub IsOutsideOf : Top → ℕ → Place → ℕ → Type 0
IsOutsideOf t depth p n = (n < p.base) ⊎ (p.base + size_inside t depth p.cell ≤ n)

-- the path to the inner place leads through the outer one, or to it
abbrev pub leads_through : Place → Place → Bool
leads_through inner outer =
    nat_le (length outer.path) (length inner.path) && same_path (drop (length inner.path - length outer.path) inner.path) outer.path

-- among all places of an unrolled cell, a place of a number is followed by those in it, at most so deep; others stand before them
-- and behind them
pub record IsSplit (t : Top) (number : ℕ) (p : Place) (depth : ℕ) (before behind : List Place) : Type 0 where
  pub number_is : length before ≡ number
  pub whole : all_places t ≡ before ++ (places_in t depth p ++ behind)
  -- so deep is left below it
  pub depth_is : depth + length p.path ≡ deepest
  pub within : IsWithinDepth t deepest t.cell → IsWithinDepth t depth p.cell
  -- the paths to it and to those in it lead through it, and no others where the instances of each cell have different names
  pub through : (r : Place) → Among (places_in t depth p) r → leads_through r p ≡ true
  pub past : IsDesign t.design → (r : Place) → Among (before ++ behind) r → leads_through r p ≡ false
  -- its own nets are behind those that all places share
  pub first : (top_place t).base ≤ p.base
  -- it is tied to nets outside; so is any other place, and no name there is an own net inside
  pub ports : (n : ℕ) → Among p.ports n → IsOutsideOf t depth p n
  pub tied : (r : Place) (n : ℕ) → Among (before ++ behind) r → Among r.ports n → IsOutsideOf t depth p n
  pub names :
      (r : Place) (name : List ℕ) → Among (before ++ behind) r → is_net_in (cell_at t.design r.cell) name ≡ true
      → IsOutsideOf t depth p (net_at t r name)

-- The law: it is so with each place.
abbrev pub PlacesInStandTogether : Type 0
PlacesInStandTogether =
    (t : Top) (number : ℕ) (p : Place) → At (all_places t) number p
    → (depth : ℕ) × (before : List Place) × (behind : List Place) × IsSplit t number p depth before behind
