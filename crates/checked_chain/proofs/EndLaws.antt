-- The chain begins with the flat circuit, and ends with the circuit in which all that are chosen are whole.
use Rattle.std.proofs.Common.{◌≡◌, ℕ, suc, ◌<◌, ◌≤◌, ◌&&◌, Bool, true, false, List, [], ◌∷◌, length, Some, arith, subst, sym, refl, ◌∙◌, ap}
use Rattle.std.specs.Prelude.{nat_lt}
use Rattle.std.specs.List.{AllZip}
use Rattle.std.proofs.lemmas.Bool.{and_right}
use Rattle.std.proofs.lemmas.Bool.Decides.{nat_tests}
use mathlib.Core.Path.{fun_ext}
use Rattle.checked_chain.proofs.ChoiceLaws.{devices_same, holds_same, instances_same, outputs_same, whole_places_same}
use Rattle.checked_chain.proofs.WholeLaws.{unlinked, whole_beside}
use Rattle.checked_chain.specs.Steps.{ChainBeginsFlat, ChainEndsChecked, PlacesAloneCount}
use Rattle.checked_chain.proofs.NoWhole.{flat_with_none}
use Rattle.checked_chain.specs.NoWhole.{none}
use Rattle.vrt_model.specs.Checked.{IsCircuitWith, before}
use Rattle.vrt_model.specs.CheckedParts.{checked_devices}
use Rattle.vrt_model.specs.Cut.{Cut, NumberedPlace, whole_places}
use Rattle.vrt_model.specs.FlatCircuit.{flat_circuit_of}
use Rattle.vrt_model.specs.PairedPorts.{paired_model}
use Rattle.vrt_model.specs.Unrolled.{all_places}
use Rattle.vrt_model.specs.WholeInstances.{IsWholeAt, OutputAt, all_outputs}
use Rattle.vrt_model.specs.declared.blif.Blif.{Blif}
use Rattle.vrt_model.specs.declared.circuit.Circuit.{Circuit}
use Rattle.vrt_model.specs.declared.circuit.Device.{Device}
use Rattle.vrt_model.specs.declared.whole.CellFacts.{CellFacts}
use Rattle.vrt_model.specs.declared.whole.Whole.{Whole}

zip_map : {A B : Type 0} (R S : A → B → Type 0) → ((x : A) (y : B) → R x y → S x y) → (xs : List A) (ys : List B) → AllZip R xs ys → AllZip S xs ys
zip_map R S f [] [] h = tt
zip_map R S f [] (y ∷ ys) h = absurd h
zip_map R S f (x ∷ xs) [] h = absurd h
zip_map R S f (x ∷ xs) (y ∷ ys) h = (f x y h.0, zip_map R S f xs ys h.1)

-- ---- the end

pub places_alone_count : PlacesAloneCount
places_alone_count t one other blif facts c same h = record {
  nets = h.nets;
  devices = h.devices ∙ devices_same t one other same;
  holds = h.holds ∙ holds_same t one other same;
  instances = h.instances ∙ instances_same t one other same;
  wholes =
      zip_map (IsWholeAt left blif facts) (IsWholeAt right blif facts) whole_same (whole_places right) c.wholes
      (subst (λ (places : List NumberedPlace). AllZip (IsWholeAt left blif facts) places c.wholes) (whole_places_same t one other same) h.wholes);
  source = h.source;
}
  where
    left : Cut
    left = record { top = t; choice = one }

    right : Cut
    right = record { top = t; choice = other }

    whole_same : (p : NumberedPlace) (w : Whole) → IsWholeAt left blif facts p w → IsWholeAt right blif facts p w
    whole_same p w e = record {
      whole =
          subst (λ (outputs : List OutputAt). whole_beside t blif facts p (checked_devices right) outputs (paired_model t.design blif t.rules p.at.cell) ≡ Some (unlinked w)) (outputs_same t one other same blif facts)
          (subst (λ (devices : List Device). whole_beside t blif facts p devices (all_outputs left blif facts) (paired_model t.design blif t.rules p.at.cell) ≡ Some (unlinked w)) (devices_same t one other same) e.whole);
      links = e.links;
    }

earlier : (cut : Cut) (n i : ℕ) → length (all_places cut.top) ≤ suc n → suc i < length (all_places cut.top) → (cut.choice i && nat_lt i n) ≡ cut.choice i
earlier cut n i long lt =
    let low : i < n = omega (arith, long, lt) in
    let yes : nat_lt i n ≡ true = grind (arith, nat_tests, low) in
    ap (λ (b : Bool). cut.choice i && b) yes ∙ and_true (cut.choice i)
  where
    and_true : (b : Bool) → (b && true) ≡ b
    and_true true = refl
    and_true false = refl

pub chain_ends_checked : ChainEndsChecked
chain_ends_checked cut blif facts c n long = (
  λ h. places_alone_count cut.top (before cut n).choice cut.choice blif facts c (λ i lt. earlier cut n i long lt) h,
  λ h. places_alone_count cut.top cut.choice (before cut n).choice blif facts c (λ i lt. sym (earlier cut n i long lt)) h,
)

-- ---- the beginning

nothing_before : (cut : Cut) (i : ℕ) → none i ≡ (before cut 0).choice i
nothing_before cut i = let no : nat_lt i 0 ≡ false = grind (arith, nat_tests) in sym (and_right (cut.choice i) (nat_lt i 0) no)

flat_begins : (cut : Cut) (blif : Blif) (facts : List CellFacts) → IsCircuitWith (before cut 0) blif facts (flat_circuit_of cut.top)
flat_begins cut blif facts =
    subst (λ (f : ℕ → Bool). IsCircuitWith (record { top = cut.top; choice = f }) blif facts (flat_circuit_of cut.top)) (fun_ext (nothing_before cut)) (flat_with_none cut.top blif facts)

-- two circuits with a choice are one where neither has a whole instance
zip_none : {A B : Type 0} (R : A → B → Type 0) (xs : List A) (ys : List B) → AllZip R xs [] → AllZip R xs ys → ys ≡ []
zip_none R [] [] h k = refl
zip_none R [] (y ∷ ys) h k = absurd k
zip_none R (x ∷ xs) ys h k = absurd h

flat_alone : (cut : Cut) (blif : Blif) (facts : List CellFacts) (c : Circuit) → IsCircuitWith (before cut 0) blif facts c → c ≡ flat_circuit_of cut.top
unfolding flat_circuit_of
flat_alone cut blif facts c h =
    let flat = flat_begins cut blif facts in
    let nets = h.nets ∙ sym flat.nets in
    let devices = h.devices ∙ sym flat.devices in
    let holds = h.holds ∙ sym flat.holds in
    let instances = h.instances ∙ sym flat.instances in
    let wholes = zip_none (IsWholeAt (before cut 0) blif facts) (whole_places (before cut 0)) c.wholes flat.wholes h.wholes in
    let source = h.source ∙ sym flat.source in
    λ i. record { nets = nets i; devices = devices i; holds = holds i; instances = instances i; wholes = wholes i; source = source i }

pub chain_begins_flat : ChainBeginsFlat
chain_begins_flat cut blif facts c = (
  flat_alone cut blif facts c,
  λ e. subst (λ (x : Circuit). IsCircuitWith (before cut 0) blif facts x) (sym e) (flat_begins cut blif facts),
)
