-- What is left of a flat circuit where some of its instances are whole, by marks at its places.
use Rattle.std.specs.Prelude.{◌≡◌, ℕ, ◌+◌, Bool, cond, ◌||◌, List, [], ◌∷◌, ◌++◌, flat_map, length, replicate, take}
use Rattle.net_places.specs.declared.places.Place.{Place}
use Rattle.whole_circuits.specs.Insides.{AreInsideMarks, AreWholeMarks}
use Rattle.whole_circuits.specs.declared.marks.Marks.{Marks}
use Rattle.vrt_model.specs.Comparison.{cell_at}
use Rattle.vrt_model.specs.Cut.{Cut, NumberedPlace, numbered_places}
use Rattle.vrt_model.specs.Lists.{mark_at}
use Rattle.vrt_model.specs.Unrolled.{Top, all_places}
use Rattle.vrt_model.specs.declared.design.Design.{Design}
use Rattle.vrt_model.specs.declared.circuit.Device.{Device}
use Rattle.vrt_model.specs.declared.circuit.FlatInstance.{FlatInstance}

-- the marks are those of a cut, one for each place
pub record AreMarks (cut : Cut) (marks : Marks) : Type 0 where
  pub whole : AreWholeMarks cut marks.whole.items
  pub inside : AreInsideMarks cut marks.inside.items
  pub count : length marks.inside.items ≡ length (all_places cut.top)

-- a place is marked as whole or as inside a whole one
abbrev pub is_left_at : Marks → ℕ → Bool
is_left_at marks n = mark_at marks.whole.items n || mark_at marks.inside.items n

-- ---- devices

-- how many transistors a cell has
abbrev pub card_count : Design → ℕ → ℕ
card_count design cell = length (cell_at design cell).devices

-- for each device of some places the number of its place
abbrev pub own_places : Top → List NumberedPlace → List ℕ
own_places t places = flat_map (λ (p : NumberedPlace). replicate (card_count t.design p.at.cell) p.number) places

-- for each device of the flat circuit
abbrev pub device_places : Top → List ℕ
device_places t = own_places t (numbered_places t)

-- how many devices stand at places before one
abbrev pub devices_before : Top → ℕ → ℕ
devices_before t n = length (own_places t (take n (numbered_places t)))

-- the same by the places of a table
abbrev pub places_of : Design → ℕ × Place → List ℕ
places_of design q = replicate (card_count design q.1.cell) q.0

-- the devices whose places are not left out
abbrev pub devices_left : Marks → List ℕ → List Device → List Device
devices_left marks [] devices = []
devices_left marks (place ∷ places) [] = []
devices_left marks (place ∷ places) (device ∷ devices) = cond (is_left_at marks place) [] (device ∷ []) ++ devices_left marks places devices

-- ---- instances

-- the instances whose places, from a number on, are not inside whole ones
abbrev pub instances_left : List Bool → ℕ → List FlatInstance → List FlatInstance
instances_left inside n [] = []
instances_left inside n (instance ∷ instances) = cond (mark_at inside n) [] (instance ∷ []) ++ instances_left inside (n + 1) instances
