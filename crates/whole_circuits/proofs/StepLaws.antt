-- An instance may be left whole besides those before it exactly where it passes the tests.
use Rattle.std.proofs.Common.{◌≡◌, ℕ, zero, suc, ◌+◌, ◌<◌, ◌≤◌, ◌||◌, ◌++◌, Bool, true, false, List, [], ◌∷◌, length, map, take, Option, arith, ap, ap₂, refl, subst, sym, ◌∙◌}
use Rattle.std.specs.Prelude.{◌==◌, ◌↔◌, cond, filter, flat_map, nat_lt, unwrap_or}
use Rattle.std.proofs.lemmas.Bool.{and_right, eq-eqb, eqb-true, false_from_ne_true, or_from}
use Rattle.std.proofs.lemmas.Bool.Decides.{nat_tests}
use Rattle.std.proofs.lemmas.Grind.{flat_map-append}
use Rattle.std.proofs.lemmas.List.{append-nil}
use Rattle.std.proofs.lemmas.List.Elements.{filter-append}
use Rattle.std.proofs.lemmas.Option.{slice_get_within}
use Rattle.checked_chain.proofs.ChoiceLaws.{numbered_at}
use Rattle.checked_chain.specs.Arcs.{AreWholeOutputsApart}
use Rattle.whole_circuits.proofs.ArcLaws.{acyclic_is}
use Rattle.whole_circuits.proofs.FlatLaws.{flat_parts}
use Rattle.whole_circuits.specs.Acyclic.{AreAcyclic}
use Rattle.whole_circuits.specs.Outputs.{own_outputs}
use Rattle.whole_circuits.specs.Steps.{Passes}
use Rattle.vrt_model.proofs.Lists.{at_there, map_among, take_one}
use Rattle.vrt_model.proofs.Members.{among_map}
use Rattle.vrt_model.specs.Checked.{IsCircuitWith, MayBeWhole, before, circuit_with, with_one}
use Rattle.vrt_model.specs.CheckedParts.{checked_devices, moved_end}
use Rattle.vrt_model.specs.Comparison.{Comparison, phase_at}
use Rattle.vrt_model.specs.Cut.{Cut, NumberedPlace, is_whole, numbered_places, whole_places}
use Rattle.vrt_model.specs.FlatCircuit.{flat_circuit_of}
use Rattle.vrt_model.specs.Inputs.{AreRules}
use Rattle.vrt_model.specs.Known.{HasArc, IsHeld, IsPlain}
use Rattle.vrt_model.specs.Lists.{Among, At}
use Rattle.vrt_model.specs.PairedPorts.{Model, Paired, paired_model}
use Rattle.vrt_model.specs.Unrolled.{Top}
use Rattle.vrt_model.specs.Unsupported.{IsAcyclic, comparison_of}
use Rattle.vrt_model.specs.WholeInstances.{OutputAt, all_outputs, driven_pins, is_output_allowed, outputs_of_place}
use Rattle.vrt_model.specs.declared.blif.Blif.{Blif}
use Rattle.vrt_model.specs.declared.circuit.Circuit.{Circuit}
use Rattle.vrt_model.specs.declared.circuit.FlatNet.{FlatNet}
use Rattle.vrt_model.specs.declared.circuit.Hold.{Hold}
use Rattle.vrt_model.specs.declared.circuit.NetKind.TheVariants.{Plain}
use Rattle.vrt_model.specs.declared.rules.Phase.{Phase}
use Rattle.vrt_model.specs.declared.rules.Rules.{Rules}
use Rattle.vrt_model.specs.declared.whole.CellFacts.{CellFacts}

-- ---- filters of a front

-- where nothing passes from a place on, a filter takes of the front alone
filter_front : {X : Type 0} (test : X → Bool) (xs : List X) (n : ℕ) → ((j : ℕ) (x : X) → At xs j x → n ≤ j → test x ≡ false) → filter test xs ≡ filter test (take n xs)
filter_front test [] zero none = refl
filter_front test [] (suc n) none = refl
filter_front {X} test (x ∷ xs) zero none =
    ap (λ (b : Bool). cond b (x ∷ filter test xs) (filter test xs)) (none 0 x refl (omega arith))
    ∙ filter_front test xs zero (λ j y e le. none (suc j) y e (omega arith))
filter_front {X} test (x ∷ xs) (suc n) none =
    ap (λ (ys : List X). cond (test x) (x ∷ ys) ys) (filter_front test xs n (λ j y e le. none (suc j) y e (omega (arith, le))))

-- tests that are the same before a place take the same of the front
filter_within : {X : Type 0} (p q : X → Bool) (xs : List X) (n : ℕ) → ((j : ℕ) (x : X) → At xs j x → j < n → p x ≡ q x) → filter p (take n xs) ≡ filter q (take n xs)
filter_within p q [] zero same = refl
filter_within p q [] (suc n) same = refl
filter_within p q (x ∷ xs) zero same = refl
filter_within {X} p q (x ∷ xs) (suc n) same =
    ap₂ (λ (b : Bool) (ys : List X). cond b (x ∷ ys) ys) (same 0 x refl (omega arith)) (filter_within p q xs n (λ j y e lt. same (suc j) y e (omega (arith, lt))))

-- ---- one more instance

module _ (cut : Cut) (i : ℕ) (p : NumberedPlace) (here : At (numbered_places cut.top) (suc i) p) where
  abbrev one : Cut
  one = with_one (before cut i) i

  abbrev whole_before : NumberedPlace → Bool
  whole_before o = is_whole (before cut i).choice o.number

  abbrev whole_with : NumberedPlace → Bool
  whole_with o = is_whole one.choice o.number

  -- by number
  none_behind : (n : ℕ) → suc i ≤ n → is_whole (before cut i).choice n ≡ false
  none_behind zero le = refl
  none_behind (suc k) le = let high : nat_lt k i ≡ false = grind (arith, nat_tests, le) in and_right (cut.choice k) (nat_lt k i) high

  none_further : (n : ℕ) → suc i < n → is_whole one.choice n ≡ false
  none_further zero lt = refl
  none_further (suc k) lt =
      or_from ((before cut i).choice k) (i == k) (none_behind (suc k) (omega (arith, lt)))
      (false_from_ne_true (i == k) (λ e. let same = eqb-true i k e in omega (arith, lt, same)))

  same_before : (n : ℕ) → n < suc i → is_whole one.choice n ≡ is_whole (before cut i).choice n
  same_before zero lt = refl
  same_before (suc k) lt =
      ap (λ (b : Bool). (before cut i).choice k || b) (false_from_ne_true (i == k) (λ e. let same = eqb-true i k e in omega (arith, lt, same))) ∙ or_false ((before cut i).choice k)
    where
      or_false : (b : Bool) → (b || false) ≡ b
      or_false true = refl
      or_false false = refl

  itself_whole : is_whole one.choice (suc i) ≡ true
  itself_whole = ap (λ (b : Bool). (before cut i).choice i || b) (eq-eqb i i refl) ∙ or_true ((before cut i).choice i)
    where
      or_true : (b : Bool) → (b || true) ≡ true
      or_true true = refl
      or_true false = refl

  at_number : (test : ℕ → Bool) (j : ℕ) (o : NumberedPlace) → At (numbered_places cut.top) j o → test o.number ≡ test j
  at_number test j o e = ap test (numbered_at cut.top j o e).0

  front_same : filter whole_with (take (suc i) (numbered_places cut.top)) ≡ filter whole_before (take (suc i) (numbered_places cut.top))
  front_same =
      filter_within whole_with whole_before (numbered_places cut.top) (suc i)
      (λ j o e lt. at_number (is_whole one.choice) j o e ∙ same_before j lt ∙ sym (at_number (is_whole (before cut i).choice) j o e))

  places_are : whole_places one ≡ whole_places (before cut i) ++ p ∷ []
  places_are =
      filter_front whole_with (numbered_places cut.top) (suc i + 1) (λ j o e le. at_number (is_whole one.choice) j o e ∙ none_further j (omega (arith, le)))
      ∙ ap (filter whole_with) (take_one (numbered_places cut.top) (suc i) p here) ∙ filter-append whole_with (take (suc i) (numbered_places cut.top)) (p ∷ [])
      ∙ ap₂ (λ (xs : List NumberedPlace) (b : Bool). xs ++ cond b (p ∷ []) [])
      (front_same ∙ sym (filter_front whole_before (numbered_places cut.top) (suc i) (λ j o e le. at_number (is_whole (before cut i).choice) j o e ∙ none_behind j le)))
      (at_number (is_whole one.choice) (suc i) p here ∙ itself_whole)

  pub outputs_with : (blif : Blif) (facts : List CellFacts) → all_outputs one blif facts ≡ all_outputs (before cut i) blif facts ++ outputs_of_place cut.top blif facts p
  outputs_with blif facts =
      ap (flat_map (outputs_of_place cut.top blif facts)) places_are
      ∙ flat_map-append (outputs_of_place cut.top blif facts) (whole_places (before cut i)) (p ∷ [])
      ∙ ap (λ (os : List OutputAt). all_outputs (before cut i) blif facts ++ os) (append-nil (outputs_of_place cut.top blif facts p))

-- ---- nets and holds

module _ (cut : Cut) (blif : Blif) (facts : List CellFacts) (flat : Circuit) (is : flat ≡ flat_circuit_of cut.top) where
  abbrev with_it : Circuit
  with_it = circuit_with cut blif facts

  abbrev moved : Hold → Hold
  moved h = record h { end = moved_end cut h.end }

  nets_same : with_it.nets ≡ flat.nets
  unfolding circuit_with
  nets_same = sym ((flat_parts cut.top flat is).nets)

  holds_same : with_it.holds ≡ map moved flat.holds
  unfolding circuit_with
  holds_same = ap (map moved) (sym ((flat_parts cut.top flat is).holds))

  abbrev IsPlainIn : ℕ → List FlatNet → Type 0
  IsPlainIn n nets = (net : FlatNet) × At nets n net × (net.kind ≡ Plain)

  pub plain_to : (n : ℕ) → IsPlain with_it n → IsPlain flat n
  plain_to n h = subst (IsPlainIn n) nets_same h

  pub plain_from : (n : ℕ) → IsPlain flat n → IsPlain with_it n
  plain_from n h = subst (IsPlainIn n) (sym nets_same) h

  pub held_to : (n : ℕ) → IsHeld with_it n → IsHeld flat n
  held_to n h =
      let found = among_map moved flat.holds h.0 (subst (λ (hs : List Hold). Among hs h.0) holds_same h.1) in
      (found.0, found.1, ap (λ (x : Hold). x.net.0) found.2 ∙ h.2)

  pub held_from : (n : ℕ) → IsHeld flat n → IsHeld with_it n
  held_from n h = (moved h.0, subst (λ (hs : List Hold). Among hs (moved h.0)) (sym holds_same) (map_among moved flat.holds h.0 h.1), h.2)

-- ---- phases

phase_is : (rules : Rules) (j : ℕ) (phase : Phase) → At rules.phases j phase → phase_at rules j ≡ phase
phase_is rules j phase e = ap (λ (o : Option Phase). unwrap_or o (record { line = 0; name = []; bits = [] })) e

pub by_place : (rules : Rules) (c : Circuit) → ((j : ℕ) → j < length rules.phases → IsAcyclic (HasArc c (phase_at rules j))) → AreAcyclic c rules.phases
by_place rules c free j phase e = subst (λ (x : Phase). IsAcyclic (HasArc c x)) (phase_is rules j phase e) (free j (slice_get_within rules.phases j phase e))

pub at_place : (rules : Rules) (c : Circuit) → AreAcyclic c rules.phases → (j : ℕ) → j < length rules.phases → IsAcyclic (HasArc c (phase_at rules j))
at_place rules c free j lt =
    let phase = at_there rules.phases j lt in subst (λ (x : Phase). IsAcyclic (HasArc c x)) (sym (phase_is rules j phase.0 phase.1)) (free j phase.0 phase.1)

-- ---- the tests

abbrev outputs_by : Top → Blif → List CellFacts → NumberedPlace → Paired → List OutputAt
outputs_by t blif facts p paired =
    elim paired [ Model m ↦ own_outputs p.number (driven_pins facts (comparison_of t.design blif t.rules p.at.cell m) p.at) | _ ↦ [] ]

module _ (cut : Cut) (blif : Blif) (facts : List CellFacts) (i : ℕ) (p : NumberedPlace) (m : ℕ) (flat d : Circuit) (here : At (numbered_places cut.top) (suc i) p)
    (paired : paired_model cut.top.design blif cut.top.rules p.at.cell ≡ Model m) (rules : AreRules cut.top.rules) (flat_is : flat ≡ flat_circuit_of cut.top)
    (circuit : IsCircuitWith (with_one (before cut i) i) blif facts d) (apart : AreWholeOutputsApart (with_one (before cut i) i) blif) where
  abbrev with_this : Cut
  with_this = with_one (before cut i) i

  abbrev k : Comparison
  k = comparison_of cut.top.design blif cut.top.rules p.at.cell m

  abbrev own : List OutputAt
  own = own_outputs p.number (driven_pins facts k p.at)

  own_is : outputs_of_place cut.top blif facts p ≡ own
  own_is = ap (outputs_by cut.top blif facts p) paired

  all_are : all_outputs with_this blif facts ≡ all_outputs (before cut i) blif facts ++ own
  all_are = outputs_with cut i p here blif facts ∙ ap (λ (os : List OutputAt). all_outputs (before cut i) blif facts ++ os) own_is

  flat_at : (j : ℕ) → IsAcyclic (HasArc flat (phase_at cut.top.rules j)) ↔ IsAcyclic (HasArc (flat_circuit_of cut.top) (phase_at cut.top.rules j))
  flat_at j = (
    λ free. subst (λ (c : Circuit). IsAcyclic (HasArc c (phase_at cut.top.rules j))) flat_is free,
    λ free. subst (λ (c : Circuit). IsAcyclic (HasArc c (phase_at cut.top.rules j))) (sym flat_is) free,
  )

  passes : MayBeWhole (before cut i) blif facts i p m → Passes cut blif facts i p m flat d
  passes may = record {
    cell = may.cell;
    cared = may.cared;
    outputs = record {
      plain = λ o among.
          let there = subst (λ (os : List OutputAt). Among os o) (sym own_is) among in
          let is = may.plain o there in
          (plain_to with_this blif facts flat flat_is o.pin.net.0 is.0, λ held. is.1 (held_from with_this blif facts flat flat_is o.pin.net.0 held));
      allowed = λ o among.
          subst (λ (os : List OutputAt). is_output_allowed (checked_devices with_this) os o ≡ true) all_are
          (may.allowed o (subst (λ (os : List OutputAt). Among os o) (sym own_is) among));
    };
    acyclic = by_place cut.top.rules d (λ j lt. (acyclic_is with_this blif facts d j circuit lt rules apart).1 (may.acyclic j lt));
    flat_acyclic = by_place cut.top.rules flat (λ j lt. (flat_at j).1 (may.flat_acyclic j lt));
  }

  may_be : Passes cut blif facts i p m flat d → MayBeWhole (before cut i) blif facts i p m
  may_be is = record {
    place = here;
    paired = paired;
    cell = is.cell;
    cared = is.cared;
    plain = λ o among.
        let free = is.outputs.plain o (subst (λ (os : List OutputAt). Among os o) own_is among) in
        (plain_from with_this blif facts flat flat_is o.pin.net.0 free.0, λ held. free.1 (held_to with_this blif facts flat flat_is o.pin.net.0 held));
    allowed = λ o among.
        subst (λ (os : List OutputAt). is_output_allowed (checked_devices with_this) os o ≡ true) (sym all_are)
        (is.outputs.allowed o (subst (λ (os : List OutputAt). Among os o) own_is among));
    acyclic = λ j lt. (acyclic_is with_this blif facts d j circuit lt rules apart).0 (at_place cut.top.rules d is.acyclic j lt);
    flat_acyclic = λ j lt. (flat_at j).0 (at_place cut.top.rules flat is.flat_acyclic j lt);
  }

  pub may_be_whole : Passes cut blif facts i p m flat d ↔ MayBeWhole (before cut i) blif facts i p m
  may_be_whole = (may_be, passes)
