-- Where no instance is left whole, the checked circuit is the flat circuit.
use Rattle.std.proofs.Common.{◌≡◌, ℕ, zero, suc, ◌+◌, Bool, true, false, not, ◌&&◌, ◌||◌, cond, List, [], ◌∷◌, ◌++◌, map, Option, Some, None, sym, subst, refl, ◌∙◌, ap}
use Rattle.std.specs.Prelude.{drop, flat_map, option_map, slice_get, unwrap_or}
use Rattle.std.specs.List.{list_any, enumerate_from, AllZip}
use Rattle.std.proofs.lemmas.Bool.{false≢true}
use Rattle.checked_chain.specs.NoWhole.{none, whole_nowhere}
use Rattle.vrt_model.proofs.Lists.{filter_all, filter_none}
use Rattle.vrt_model.specs.Checked.{IsChecked, IsCircuitWith}
use Rattle.vrt_model.specs.CheckedParts.{checked_devices, checked_holds, checked_instances, moved_end}
use Rattle.vrt_model.specs.Comparison.{cell_at}
use Rattle.vrt_model.specs.Cut.{NumberedPlace, count_below, is_inside, is_inside_whole, is_instance_shown, is_left_out, is_whole, moved_instance, numbered_places, shown, whole_places}
use Rattle.vrt_model.specs.FlatCircuit.{flat_circuit_of, flat_device, flat_devices, flat_holds, flat_instance, flat_instances}
use Rattle.vrt_model.specs.Unrolled.{Place, Top, all_places}
use Rattle.vrt_model.specs.WholeInstances.{IsWholeAt}
use Rattle.vrt_model.specs.declared.blif.Blif.{Blif}
use Rattle.vrt_model.specs.declared.circuit.Device.{Device}
use Rattle.vrt_model.specs.declared.circuit.Hold.{Hold}
use Rattle.vrt_model.specs.declared.circuit.HoldEnd.{HoldEnd}
use Rattle.vrt_model.specs.declared.circuit.HoldEnd.TheVariants.{Own, Latch}
use Rattle.vrt_model.specs.declared.whole.CellFacts.{CellFacts}

-- ---- lists

any_none : {X : Type 0} (f : X → Bool) (xs : List X) → ((x : X) → f x ≡ false) → list_any f xs ≡ false
any_none f [] h = refl
any_none f (x ∷ xs) h = ap (λ b. b || list_any f xs) (h x) ∙ any_none f xs h

map_same : {X : Type 0} (f : X → X) (xs : List X) → ((x : X) → f x ≡ x) → map f xs ≡ xs
map_same f [] h = refl
map_same f (x ∷ xs) h = λ i. h x i ∷ map_same f xs h i

count_all : (test : ℕ → Bool) → ((n : ℕ) → test n ≡ true) → (n : ℕ) → count_below test n ≡ n
count_all test h zero = refl
count_all test h (suc n) = ap (λ b. cond b (suc (count_below test n)) (count_below test n)) (h n) ∙ ap suc (count_all test h n)

-- ---- nothing is left out

not_whole : (n : ℕ) → is_whole none n ≡ false
not_whole zero = refl
not_whole (suc n) = refl

not_inside : (t : Top) (at : Place) → is_inside_whole (whole_nowhere t) at ≡ false
not_inside t at =
    any_none (λ (o : NumberedPlace). is_whole none o.number && is_inside at o.at) (numbered_places t)
    (λ o. ap (λ b. b && is_inside at o.at) (not_whole o.number))

not_out : (t : Top) (p : NumberedPlace) → is_left_out (whole_nowhere t) p ≡ false
not_out t p = ap (λ b. b || is_inside_whole (whole_nowhere t) p.at) (not_whole p.number) ∙ not_inside t p.at

all_shown : (t : Top) → shown (whole_nowhere t) ≡ numbered_places t
all_shown t = filter_all (λ p. not (is_left_out (whole_nowhere t) p)) (numbered_places t) (λ p. ap not (not_out t p))

instance_stays : (t : Top) (i : ℕ) → is_instance_shown (whole_nowhere t) i ≡ true
instance_stays t i = stays (slice_get (all_places t) (suc i))
  where
    stays : (o : Option Place) → unwrap_or (option_map (λ (at : Place). not (is_inside_whole (whole_nowhere t) at)) o) true ≡ true
    stays None = refl
    stays (Some at) = ap not (not_inside t at)

same_instance : (t : Top) (i : ℕ) → moved_instance (whole_nowhere t) i ≡ i
same_instance t i = count_all (is_instance_shown (whole_nowhere t)) (instance_stays t) i

-- ---- the parts of the circuit

end_same : (t : Top) (e : HoldEnd) → moved_end (whole_nowhere t) e ≡ e
end_same t (Own n) = refl
end_same t (Latch None element) = refl
end_same t (Latch (Some i) element) = ap (λ (j : ℕ). Latch (Some j) element) (same_instance t i)

hold_same : (t : Top) (h : Hold) → ◌≡◌ {A = Hold} (record h { end = moved_end (whole_nowhere t) h.end }) h
hold_same t h = λ i. record h { end = end_same t h.end i }

holds_same : (t : Top) → checked_holds (whole_nowhere t) ≡ flat_holds t
holds_same t = map_same (λ (h : Hold). record h { end = moved_end (whole_nowhere t) h.end }) (flat_holds t) (hold_same t)

flat_map_numbered : {X : Type 0} (f : Place → List X) (n : ℕ) (xs : List Place)
    → flat_map (λ (p : NumberedPlace). f p.at) (map (λ (p : ℕ × Place). let one : NumberedPlace = record { number = p.0; at = p.1 } in one) (enumerate_from n xs)) ≡ flat_map f xs
flat_map_numbered f n [] = refl
flat_map_numbered f n (x ∷ xs) = ap (λ ys. f x ++ ys) (flat_map_numbered f (n + 1) xs)

devices_same : (t : Top) → checked_devices (whole_nowhere t) ≡ flat_devices t
devices_same t = ap (flat_map (λ (p : NumberedPlace). cards p.at)) (all_shown t) ∙ flat_map_numbered cards 0 (all_places t)
  where
    cards : Place → List Device
    cards at = map (flat_device t at) (cell_at t.design at.cell).devices

instances_same : (t : Top) → checked_instances (whole_nowhere t) ≡ flat_instances t
instances_same t =
    ap (map flat_instance) (filter_all (λ (at : Place). not (is_inside_whole (whole_nowhere t) at)) (drop 1 (all_places t)) (λ at. ap not (not_inside t at)))

no_whole_place : (t : Top) → whole_places (whole_nowhere t) ≡ []
no_whole_place t = filter_none (λ (p : NumberedPlace). is_whole none p.number) (numbered_places t) (λ p. not_whole p.number)

-- a flat circuit has no whole instance
pub flat_has_no_whole : (t : Top) → (flat_circuit_of t).wholes ≡ []
unfolding flat_circuit_of
flat_has_no_whole t = refl

-- the flat circuit is the circuit with no instance left whole
pub flat_with_none : (t : Top) (blif : Blif) (facts : List CellFacts) → IsCircuitWith (whole_nowhere t) blif facts (flat_circuit_of t)
unfolding flat_circuit_of
flat_with_none t blif facts = record {
  nets = refl;
  devices = sym (devices_same t);
  holds = sym (holds_same t);
  instances = sym (instances_same t);
  wholes = subst (λ (ps : List NumberedPlace). AllZip (IsWholeAt (whole_nowhere t) blif facts) ps []) (sym (no_whole_place t)) tt;
  source = refl;
}

-- where no fact is known, it is the checked circuit
pub flat_is_checked : (t : Top) (blif : Blif) → IsChecked (whole_nowhere t) blif [] (flat_circuit_of t)
flat_is_checked t blif = record {
  chosen = λ i p here. (λ e. absurd (false≢true e), λ may. absurd (false≢true may.1.1.cell));
  circuit = flat_with_none t blif [];
}
