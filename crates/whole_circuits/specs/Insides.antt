-- The places of an unrolled cell that are left whole, and those inside.
use Rattle.std.specs.Prelude.{◌≡◌, ℕ, ◌<◌, ◌==◌, Bool, not, ◌&&◌, ◌||◌, List, length}
use Rattle.net_places.specs.Links.{IsUnrolled}
use Rattle.net_places.specs.declared.places.Place.{Place}
use Rattle.net_places.specs.declared.whole.Unrolled.{Unrolled}
use Rattle.vrt_model.specs.Cut.{Cut, is_inside_whole, is_whole}
use Rattle.vrt_model.specs.Inputs.{IsDesign}
use Rattle.vrt_model.specs.Lists.{At, mark_at}
use Rattle.vrt_model.specs.Unrolled.{Place as FlatPlace, all_places}

-- the marks are at the places of the instances that are left whole
abbrev pub AreWholeMarks : Cut → List Bool → Type 0
AreWholeMarks cut marks = (n : ℕ) → mark_at marks n ≡ is_whole cut.choice n

-- the marks are at the places inside those, as far as there are marks
abbrev pub AreInsideMarks : Cut → List Bool → Type 0
AreInsideMarks cut marks = (n : ℕ) (at : FlatPlace) → n < length marks → At (all_places cut.top) n at → mark_at marks n ≡ is_inside_whole cut at

-- each place before a number has its mark
pub record AreMarkedBefore (cut : Cut) (n : ℕ) (marks : List Bool) : Type 0 where
  pub count : length marks ≡ n
  pub are : AreInsideMarks cut marks

-- a place is inside where the place around it is whole or inside
abbrev pub is_within : List Bool → List Bool → Place → Bool
is_within whole inside p = not (p.depth == 0) && (mark_at whole p.around || mark_at inside p.around)

-- the places are those of the cut's cell, and the marks those of its whole instances
pub record IsCutAt (cut : Cut) (unrolled : Unrolled) (whole : List Bool) : Type 0 where
  pub netlist : IsDesign cut.top.design
  pub unrolled_is : IsUnrolled cut.top unrolled
  pub marks : AreWholeMarks cut whole
