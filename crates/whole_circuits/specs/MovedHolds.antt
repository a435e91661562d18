-- Holds whose instances have other numbers where some instances are left whole.
use Rattle.std.specs.Prelude.{ℕ, suc, ◌+◌, ◌<◌, Bool, cond, List, [], ◌∷◌, length, option_map, slice_get, unwrap_or}
use Rattle.vrt_model.specs.Cut.{Cut, moved_instance}
use Rattle.vrt_model.specs.Lists.{At}
use Rattle.vrt_model.specs.Unrolled.{all_places}
use Rattle.vrt_model.specs.declared.circuit.Hold.{Hold}
use Rattle.vrt_model.specs.declared.circuit.HoldEnd.{HoldEnd}
use Rattle.vrt_model.specs.declared.circuit.HoldEnd.TheVariants.{Own, Latch}

-- numbers from one on, which rise behind each place without a mark
abbrev pub moved_by : ℕ → List Bool → List ℕ
moved_by number [] = []
moved_by number (mark ∷ marks) = number ∷ moved_by (cond mark number (number + 1)) marks

-- the table has the number of each instance among those that are shown
abbrev pub AreMoved : Cut → List ℕ → Type 0
AreMoved cut moved = (i : ℕ) → suc i < length (all_places cut.top) → At moved i (moved_instance cut i)

-- the number of an instance in a table, 0 past its end
abbrev pub number_by : List ℕ → ℕ → ℕ
number_by moved i = unwrap_or (slice_get moved i) 0

-- an end, and a hold, with the number of the instance by a table
abbrev pub end_by : List ℕ → HoldEnd → HoldEnd
end_by moved (Own n) = Own n
end_by moved (Latch instance element) = Latch (option_map (number_by moved) instance) element

abbrev pub hold_by : List ℕ → Hold → Hold
hold_by moved h = record h { end = end_by moved h.end }
