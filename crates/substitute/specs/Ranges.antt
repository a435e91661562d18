-- An instance and what is inside it.
use Rattle.std.specs.Prelude.{◌≡◌, ℕ, suc, ◌+◌, ◌*◌, ◌<◌, ◌≤◌, ◌==◌, Bool, true, false, cond, ◌&&◌, List, filter, flat_map, length, map, nat_le, nat_lt}
use Rattle.std.specs.List.{slice_index}
use Rattle.whole_circuits.specs.Counts.{changed, channels_of}
use Rattle.vrt_model.specs.Checked.{with_one}
use Rattle.vrt_model.specs.Comparison.{cell_at}
use Rattle.vrt_model.specs.Cut.{Cut, NumberedPlace, is_left_out, numbered_places}
use Rattle.vrt_model.specs.FlatCircuit.{flat_device}
use Rattle.vrt_model.specs.Levels.{level_counts}
use Rattle.vrt_model.specs.Lists.{Among}
use Rattle.vrt_model.specs.Unrolled.{Top}
use Rattle.vrt_model.specs.declared.circuit.Device.{Device}

-- one instance alone is whole
abbrev pub alone : Top → ℕ → Cut
alone t i = record { top = t; choice = λ j. i == j }

-- the devices that go where it is whole: its own, and those of all inside it
abbrev pub devices_gone : Top → ℕ → List Device
devices_gone t i = flat_map (λ (p : NumberedPlace). map (flat_device t p.at) (cell_at t.design p.at.cell).devices) (filter (is_left_out (alone t i)) (numbered_places t))

-- it and the places inside it are those from its own up to a number
pub record IsEnd (t : Top) (i e : ℕ) : Type 0 where
  pub behind : suc i < e
  pub within : e ≤ length (numbered_places t)
  pub range : (p : NumberedPlace) → Among (numbered_places t) p → is_left_out (alone t i) p ≡ (nat_le (suc i) p.number && nat_lt p.number e)

-- the counts with those of some devices again, unless these stay out
abbrev pub AreSettled : Bool → List Device → List ℕ → List ℕ → Type 0
AreSettled out devices old new =
    (n k : ℕ) → k < level_counts → level_counts * n + k < length old
    → slice_index new (level_counts * n + k) ≡ cond out (slice_index old (level_counts * n + k)) (changed true (slice_index old (level_counts * n + k)) (length (channels_of k devices n)))

-- an instance is whole too, where it is chosen
abbrev pub with_chosen : Bool → Cut → ℕ → Cut
with_chosen true cut i = with_one cut i
with_chosen false cut i = cut
