-- A circuit some instances of which are whole needs no more nodes than the flat one.
use Rattle.std.proofs.Common.{◌≡◌, ℕ, ◌+◌, ◌*◌, ◌^◌, ◌≤◌, not, Bool, true, false, cond, List, [], ◌∷◌, drop, length, map, refl, ap, sym, ◌∙◌, arith, inl, inr}
use Rattle.std.specs.Prelude.{filter, Option, None, Some}
use Rattle.std.specs.List.{AllZip, enumerate_from, sum_by}
use Rattle.std.proofs.lemmas.Bool.{cases_Bool, false≢true, not-true, or_cases, or_left, or_right}
use Rattle.std.proofs.lemmas.List.Concat.{length-flat_map}
use Rattle.std.proofs.lemmas.List.Sums.{sum_by-cons}
use Rattle.std.proofs.lemmas.Nat.{mul-le}
use Rattle.std.proofs.lemmas.Option.{none-some}
use Rattle.checked_chain.proofs.EndLaws.{chain_begins_flat}
use Rattle.checked_chain.proofs.SettingLaws.{settings_are_same}
use Rattle.checked_chain.proofs.ThereLaws.{whole_before}
use Rattle.checked_chain.proofs.WholeLaws.{whole_beside}
use Rattle.checked_chain.specs.Holds.{IsOfChain}
use Rattle.substitution_laws.proofs.WholeCells.{inside_of_all}
use Rattle.substitution_laws.specs.Verdicts.{ChainHasNoMoreWork, ChainNeedsNoMore}
use Rattle.vrt_model.specs.Budget.{assume_size, clockport_count, constraints_size, enough_nodes, model_size, paired_size, work, work_of}
use Rattle.vrt_model.specs.Checked.{before, with_circuit}
use Rattle.vrt_model.specs.CheckedParts.{checked_devices, checked_instances}
use Rattle.vrt_model.specs.Comparison.{Comparison, cell_at}
use Rattle.vrt_model.specs.Cut.{Cut, NumberedPlace, is_inside_whole, is_left_out, is_whole, numbered_places, shown, whole_places}
use Rattle.vrt_model.specs.FlatCircuit.{flat_circuit_of, flat_device, flat_instance}
use Rattle.vrt_model.specs.Held.{sources_of}
use Rattle.vrt_model.specs.PairedPorts.{Paired, Missing, Model, Skipped, paired_model}
use Rattle.vrt_model.specs.Unrolled.{Place, Top, all_places}
use Rattle.vrt_model.specs.WholeInstances.{IsWholeAt, all_outputs}
use Rattle.vrt_model.specs.declared.blif.Blif.{Blif}
use Rattle.vrt_model.specs.declared.circuit.Circuit.{Circuit}
use Rattle.vrt_model.specs.declared.circuit.Device.{Device}
use Rattle.vrt_model.specs.declared.circuit.FlatInstance.{FlatInstance}
use Rattle.vrt_model.specs.declared.groups.Source.{Source}
use Rattle.vrt_model.specs.declared.whole.CellFacts.{CellFacts}
use Rattle.vrt_model.specs.declared.whole.Whole.{Whole}

-- ---- sums

-- a sum over what passes a test is no more than that over what passes a weaker one
sum_of_fewer : {X : Type 0} (f : X → ℕ) (p q : X → Bool) → ((x : X) → p x ≡ true → q x ≡ true) → (xs : List X) → sum_by f (filter p xs) ≤ sum_by f (filter q xs)
sum_of_fewer f p q weaker [] = omega arith
sum_of_fewer {X} f p q weaker (x ∷ xs) = by_tests (sum_of_fewer f p q weaker xs) (p x) (q x) (weaker x)
  where
    by_tests : sum_by f (filter p xs) ≤ sum_by f (filter q xs) → (a b : Bool) → (a ≡ true → b ≡ true)
        → sum_by f (cond a (x ∷ filter p xs) (filter p xs)) ≤ sum_by f (cond b (x ∷ filter q xs) (filter q xs))
    by_tests rest true true h = let left = sum_by-cons f x (filter p xs) in let right = sum_by-cons f x (filter q xs) in omega (arith, rest, left, right)
    by_tests rest true false h = absurd (false≢true (h refl))
    by_tests rest false true h = let right = sum_by-cons f x (filter q xs) in omega (arith, rest, right)
    by_tests rest false false h = rest

sum_of_mapped : {X Y : Type 0} (f : Y → ℕ) (g : X → Y) (xs : List X) → sum_by f (map g xs) ≡ sum_by (λ x. f (g x)) xs
sum_of_mapped f g [] = refl
sum_of_mapped {X} {Y} f g (x ∷ xs) =
    let rest = sum_of_mapped f g xs in
    let left = sum_by-cons f (g x) (map g xs) in
    let right = sum_by-cons (λ (y : X). f (g y)) x xs in omega (arith, rest, left, right)

-- ---- what is left out

-- what is shown in the circuit is shown where fewer instances are whole
pub shown_of_fewer : (cut : Cut) (n : ℕ) (p : NumberedPlace) → not (is_left_out cut p) ≡ true → not (is_left_out (before cut n) p) ≡ true
shown_of_fewer cut n p e =
    elim (cases_Bool (is_left_out (before cut n) p)) [
      | inr stays ↦ ap not stays
      | inl out ↦ absurd (false≢true (sym (not-true (is_left_out cut p) e) ∙ more out))
    ]
  where
    more : is_left_out (before cut n) p ≡ true → is_left_out cut p ≡ true
    more out =
        elim (or_cases (is_whole (before cut n).choice p.number) (is_inside_whole (before cut n) p.at) out) [
          | inl whole ↦ or_left (is_whole cut.choice p.number) (is_inside_whole cut p.at) (whole_before cut n p.number whole)
          | inr inside ↦ or_right (is_whole cut.choice p.number) (is_inside_whole cut p.at) (inside_of_all cut n p.at inside)
        ]

-- ---- the models of whole instances

-- the size of the model of the cell at a place
size_at : Top → Blif → Place → ℕ
size_at t blif at = paired_size blif (paired_model t.design blif t.rules at.cell)

-- a whole instance has the model of its cell
model_at : (cut : Cut) (blif : Blif) (facts : List CellFacts) (q : NumberedPlace) (w : Whole) → IsWholeAt cut blif facts q w → model_size w.model ≡ size_at cut.top blif q.at
unfolding size_at
model_at cut blif facts q w is = by_pair (paired_model cut.top.design blif cut.top.rules q.at.cell) is.whole
  where
    by_pair : (x : Paired) → whole_beside cut.top blif facts q (checked_devices cut) (all_outputs cut blif facts) x ≡ Some (record w { links = [] }) → model_size w.model ≡ paired_size blif x
    by_pair (Model j) same = sym (ap (λ (o : Option Whole). elim o [ None ↦ 0 | Some x ↦ model_size x.model ]) same)
    by_pair Skipped same = absurd (none-some (record w { links = [] }) same)
    by_pair Missing same = absurd (none-some (record w { links = [] }) same)

models_at : (cut : Cut) (blif : Blif) (facts : List CellFacts) (places : List NumberedPlace) (wholes : List Whole) → AllZip (IsWholeAt cut blif facts) places wholes
    → sum_by (λ (w : Whole). model_size w.model) wholes ≡ sum_by (λ (q : NumberedPlace). size_at cut.top blif q.at) places
models_at cut blif facts [] [] zip = refl
models_at cut blif facts [] (w ∷ wholes) zip = absurd zip
models_at cut blif facts (q ∷ places) [] zip = absurd zip
models_at cut blif facts (q ∷ places) (w ∷ wholes) zip =
    let rest = models_at cut blif facts places wholes zip.1 in
    let own = model_at cut blif facts q w zip.0 in
    let left = sum_by-cons (λ (x : Whole). model_size x.model) w wholes in
    let right = sum_by-cons (λ (x : NumberedPlace). size_at cut.top blif x.at) q places in
    omega (arith, rest, own, left, right)

numbered : ℕ × Place → NumberedPlace
numbered p = record { number = p.0; at = p.1 }

-- of the places from a number on that are left whole, no more than of all
whole_later : (choice : ℕ → Bool) (size : Place → ℕ) (number : ℕ) (places : List Place)
    → sum_by (λ (q : NumberedPlace). size q.at) (filter (λ (q : NumberedPlace). is_whole choice q.number) (map numbered (enumerate_from number places))) ≤ sum_by size places
unfolding numbered
whole_later choice size number [] = omega arith
whole_later choice size number (at ∷ places) = by_test (whole_later choice size (number + 1) places) (is_whole choice number)
  where
    rest : List NumberedPlace
    rest = filter (λ (q : NumberedPlace). is_whole choice q.number) (map numbered (enumerate_from (number + 1) places))

    by_test : sum_by (λ (q : NumberedPlace). size q.at) rest ≤ sum_by size places → (b : Bool)
        → sum_by (λ (q : NumberedPlace). size q.at) (cond b (numbered (number, at) ∷ rest) rest) ≤ sum_by size (at ∷ places)
    by_test less true =
        let left = sum_by-cons (λ (q : NumberedPlace). size q.at) (numbered (number, at)) rest in
        let right = sum_by-cons size at places in omega (arith, less, left, right)
    by_test less false = let right = sum_by-cons size at places in omega (arith, less, right)

-- and the checked cell itself is none of them
whole_places_few : (choice : ℕ → Bool) (size : Place → ℕ) (places : List Place)
    → sum_by (λ (q : NumberedPlace). size q.at) (filter (λ (q : NumberedPlace). is_whole choice q.number) (map numbered (enumerate_from 0 places))) ≤ sum_by size (drop 1 places)
unfolding numbered
whole_places_few choice size [] = omega arith
whole_places_few choice size (top ∷ places) = whole_later choice size 1 places

-- ---- the sizes of a circuit of the chain

module _ (k : Comparison) (blif : Blif) (facts : List CellFacts) (cut : Cut) (c : Circuit) (is : IsOfChain k blif facts cut c) where
  devices_of_place : NumberedPlace → List Device
  devices_of_place p = map (flat_device cut.top p.at) (cell_at cut.top.design p.at.cell).devices

  pub fewer_devices : length c.devices ≤ length k.circuit.devices
  unfolding devices_of_place
  fewer_devices =
      let flat = (chain_begins_flat cut blif facts (flat_circuit_of cut.top)).1 refl in
      let less = sum_of_fewer (λ (p : NumberedPlace). length (devices_of_place p)) (λ p. not (is_left_out cut p)) (λ p. not (is_left_out (before cut 0) p)) (shown_of_fewer cut 0) (numbered_places cut.top) in
      let here : length c.devices ≡ sum_by (λ (p : NumberedPlace). length (devices_of_place p)) (shown cut) =
      ap (λ (ds : List Device). length ds) is.circuit.devices ∙ length-flat_map devices_of_place (shown cut) in
      let there : length k.circuit.devices ≡ sum_by (λ (p : NumberedPlace). length (devices_of_place p)) (shown (before cut 0)) =
      ap (λ (x : Circuit). length x.devices) is.flat ∙ ap (λ (ds : List Device). length ds) flat.devices ∙ length-flat_map devices_of_place (shown (before cut 0)) in
      omega (arith, less, here, there)

  less_of_instances : (f : FlatInstance → ℕ) → sum_by f c.instances ≤ sum_by f k.circuit.instances
  less_of_instances f =
      let flat = (chain_begins_flat cut blif facts (flat_circuit_of cut.top)).1 refl in
      let less = by_places f in
      let here = ap (sum_by f) is.circuit.instances in
      let there = ap (λ (x : Circuit). sum_by f x.instances) is.flat ∙ ap (sum_by f) flat.instances in
      omega (arith, less, here, there)
    where
      weaker : (r : Place) → not (is_inside_whole cut r) ≡ true → not (is_inside_whole (before cut 0) r) ≡ true
      weaker r e =
          elim (cases_Bool (is_inside_whole (before cut 0) r)) [
            | inr stays ↦ ap not stays
            | inl inside ↦ absurd (false≢true (sym (not-true (is_inside_whole cut r) e) ∙ inside_of_all cut 0 r inside))
          ]

      by_places : (f : FlatInstance → ℕ) → sum_by f (checked_instances cut) ≤ sum_by f (checked_instances (before cut 0))
      by_places f =
          let less = sum_of_fewer (λ (r : Place). f (flat_instance r)) (λ r. not (is_inside_whole cut r)) (λ r. not (is_inside_whole (before cut 0) r)) weaker (drop 1 (all_places cut.top)) in
          let left = sum_of_mapped f flat_instance (filter (λ (r : Place). not (is_inside_whole cut r)) (drop 1 (all_places cut.top))) in
          let right = sum_of_mapped f flat_instance (filter (λ (r : Place). not (is_inside_whole (before cut 0) r)) (drop 1 (all_places cut.top))) in
          omega (arith, less, left, right)

  less_work : work_of (with_circuit k c) blif ≤ work_of k blif
  unfolding flat_circuit_of
  less_work =
      let models = less_of_instances (λ (i : FlatInstance). paired_size blif (paired_model k.design blif k.rules i.cell)) in
      let constraints = less_of_instances (λ (i : FlatInstance). let name = (cell_at k.design i.cell).name in assume_size k.rules name + clockport_count k.rules name) in
      let nets : length c.nets ≡ length k.circuit.nets = ap length is.circuit.nets ∙ sym (ap (λ (x : Circuit). length x.nets) is.flat) in
      by_sizes (length c.nets) (length k.circuit.nets) nets fewer_devices
      (omega (arith, models)) (omega (arith, constraints))
    where
      by_sizes : (n m : ℕ) {d e s t a b : ℕ} → n ≡ m → d ≤ e → s ≤ t → a ≤ b → work n d s a ≤ work m e t b
      by_sizes n m {d} {e} {s} {t} {a} {b} same devices models constraints =
          let first = mul-le (1000 * (n + 1)) (n + d + 1) (1000 * (m + 1)) (m + e + 1) (omega (arith, same)) (omega (arith, same, devices)) in
          omega (arith, first, models, constraints)

  -- the models of its whole instances are among those of the instances of the flat circuit
  wholes_within : sum_by (λ (w : Whole). model_size w.model) c.wholes ≤ sum_by (λ (i : FlatInstance). paired_size blif (paired_model k.design blif k.rules i.cell)) k.circuit.instances
  unfolding flat_circuit_of size_at numbered
  wholes_within =
      let size : FlatInstance → ℕ = λ i. paired_size blif (paired_model k.design blif k.rules i.cell) in
      let here = models_at cut blif facts (whole_places cut) c.wholes is.circuit.wholes in
      let less = whole_places_few cut.choice (size_at cut.top blif) (all_places cut.top) in
      let there : sum_by size k.circuit.instances ≡ sum_by size (map flat_instance (drop 1 (all_places cut.top))) = ap (λ (x : Circuit). sum_by size x.instances) is.flat in
      let mapped = sum_of_mapped size flat_instance (drop 1 (all_places cut.top)) in
      let same : sum_by (size_at cut.top blif) (drop 1 (all_places cut.top)) ≡ sum_by (λ (r : Place). size (flat_instance r)) (drop 1 (all_places cut.top)) =
      ap (λ (t : Top). sum_by (λ (r : Place). paired_size blif (paired_model t.design blif t.rules r.cell)) (drop 1 (all_places cut.top))) is.top in
      omega (arith, here, less, there, mapped, same)

  no_more_work : work (length c.nets) (length k.circuit.devices) (model_size k.model + sum_by (λ (w : Whole). model_size w.model) c.wholes) (constraints_size (with_circuit k c)) ≤ work_of k blif
  unfolding flat_circuit_of
  no_more_work =
      let constraints = less_of_instances (λ (i : FlatInstance). let name = (cell_at k.design i.cell).name in assume_size k.rules name + clockport_count k.rules name) in
      let nets : length c.nets ≡ length k.circuit.nets = ap length is.circuit.nets ∙ sym (ap (λ (x : Circuit). length x.nets) is.flat) in
      let products = ap (λ (n : ℕ). 1000 * (n + 1) * (n + length k.circuit.devices + 1)) nets in
      let models = wholes_within in
      omega (arith, products, constraints, models)

  pub needs_no_more : (phase : ℕ) → enough_nodes (with_circuit k c) blif phase ≤ enough_nodes k blif phase
  needs_no_more phase =
      let same = ap (λ (sources : List Source). 2 ^ length sources) (settings_are_same k blif facts cut c is phase []).0 in
      let both = mul-le (2 ^ length (sources_of (with_circuit k c) phase)) (work_of (with_circuit k c) blif) (2 ^ length (sources_of k phase)) (work_of k blif) (omega (arith, same)) less_work in
      omega (arith, both)

pub chain_needs_no_more : ChainNeedsNoMore
chain_needs_no_more k blif facts cut c phase is = needs_no_more k blif facts cut c is phase

pub chain_has_no_more_work : ChainHasNoMoreWork
chain_has_no_more_work k blif facts cut c is = no_more_work k blif facts cut c is
