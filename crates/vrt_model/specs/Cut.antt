-- Which instances of a cell are left whole, and what of its flat circuit is then left out.
use Rattle.std.specs.Prelude.{ℕ, zero, suc, ◌-◌, Bool, true, false, not, cond, ◌&&◌, ◌||◌, List, map, filter, length, option_map, unwrap_or, slice_get, drop, nat_lt}
use Rattle.std.specs.List.{list_any, enumerate_from}
use Rattle.vrt_model.specs.FlatCircuit.{same_path}
use Rattle.vrt_model.specs.Unrolled.{Place, Top, all_places}

-- a cell, and which instances of its flat circuit are left whole, by their places there
pub record Cut : Type 0 where
  pub top : Top
  pub choice : ℕ → Bool

-- a place in the unrolled netlist, and its number there: 0 is the checked cell, and n + 1 the instance n
pub record NumberedPlace : Type 0 where
  pub number : ℕ
  pub at : Place

-- all places with their numbers
abbrev pub numbered_places : Top → List NumberedPlace
numbered_places t = map (λ (p : ℕ × Place). let one : NumberedPlace = record { number = p.0; at = p.1 } in one) (enumerate_from 0 (all_places t))

-- a place is that of an instance that is left whole
abbrev pub is_whole : (ℕ → Bool) → ℕ → Bool
is_whole choice zero = false
is_whole choice (suc n) = choice n

-- the places of the instances that are left whole
abbrev pub whole_places : Cut → List NumberedPlace
whole_places cut = filter (λ (p : NumberedPlace). is_whole cut.choice p.number) (numbered_places cut.top)

-- the inner place is inside the outer one
abbrev pub is_inside : Place → Place → Bool
is_inside inner outer =
    nat_lt (length outer.path) (length inner.path) && same_path (drop (length inner.path - length outer.path) inner.path) outer.path

-- the place is inside an instance that is left whole
abbrev pub is_inside_whole : Cut → Place → Bool
is_inside_whole cut at = list_any (λ (o : NumberedPlace). is_whole cut.choice o.number && is_inside at o.at) (numbered_places cut.top)

-- the cards of a place are left out where it is whole or inside a whole one
abbrev pub is_left_out : Cut → NumberedPlace → Bool
is_left_out cut p = is_whole cut.choice p.number || is_inside_whole cut p.at

-- the places whose cards are in the circuit
abbrev pub shown : Cut → List NumberedPlace
shown cut = filter (λ p. not (is_left_out cut p)) (numbered_places cut.top)

-- the instances that are not inside whole ones
abbrev pub is_instance_shown : Cut → ℕ → Bool
is_instance_shown cut i =
    unwrap_or (option_map (λ (at : Place). not (is_inside_whole cut at)) (slice_get (all_places cut.top) (suc i))) true

-- how many numbers below this one pass the test
abbrev pub count_below : (ℕ → Bool) → ℕ → ℕ
count_below test zero = 0
count_below test (suc n) = cond (test n) (suc (count_below test n)) (count_below test n)

-- the place of an instance among those that are shown
abbrev pub moved_instance : Cut → ℕ → ℕ
moved_instance cut i = count_below (is_instance_shown cut) i
