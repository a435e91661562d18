-- The parts of a circuit as its only steps: what each looks at was solved before, and no other fault is found there than fights and floats.
use Rattle.std.proofs.Common.{◌≡◌, ℕ, zero, suc, ◌<◌, ◌⊎◌, true, List, [], ◌∷◌, length, ap, arith, refl, subst, sym, ◌∙◌, inl, inr}
use Rattle.std.specs.Prelude.{flat_map, map}
use Rattle.std.proofs.lemmas.Bool.{cases_eq, cases_lt}
use Rattle.std.proofs.lemmas.List.{length-append}
use Rattle.std.proofs.lemmas.Option.{same_Some, slice_get_within}
use Rattle.channel_parts.specs.PartLists.{AreParts, least_of, net_numbers}
use Rattle.channel_parts.specs.declared.part.Part.{Part}
use Rattle.circuit_faults.proofs.PartStepLaws.{listed_steps, listed_there}
use Rattle.circuit_faults.proofs.WholeParts.{device_in, number_inside, whole_part}
use Rattle.circuit_faults.specs.Steps.{AreOrderedSteps, InPhase, IsInStepBefore, IsPartAt, part_list, part_step, phase_of, steps_of}
use Rattle.circuit_faults.specs.declared.steps.CircuitStep.{CircuitStep}
use Rattle.circuit_faults.specs.declared.steps.CircuitStep.TheVariants.{Part as PartStep, Instance as InstanceStep}
use Rattle.fault_places.specs.PhaseSpots.{Step, spots_at, spots_of}
use Rattle.fault_places.specs.Searches.{Spot}
use Rattle.path_fixpoint.specs.Parts.{part_devices}
use Rattle.vrt_model.proofs.Lists.{at_front, at_last, at_split, one_at}
use Rattle.vrt_model.proofs.Members.{among_flat_map, among_map, at_none}
use Rattle.vrt_model.specs.Known.{HasGateArc, IsPlain, IsRanking, IsUnknown}
use Rattle.vrt_model.specs.Lists.{Among, At}
use Rattle.vrt_model.specs.Networks.{HasRanges}
use Rattle.vrt_model.specs.declared.circuit.Device.{Device}
use Rattle.vrt_model.specs.declared.verdict.FaultKind.{FaultKind}
use Rattle.vrt_model.specs.declared.verdict.FaultKind.TheVariants.{Fight, Float}

-- ---- the steps of parts, by their places

part_count : (count : ℕ) → length (part_list count) ≡ count
part_count zero = refl
part_count (suc count) = (let front = part_count count in let all = length-append (part_list count) (PartStep count ∷ []) in omega (arith, front, all))

part_there : (count k : ℕ) → k < count → At (part_list count) k (PartStep k)
part_there zero k lt = absurd (omega (arith, lt))
part_there (suc count) k lt =
    elim (cases_lt k count) [
      | inl less ↦ at_front (part_list count) (PartStep count ∷ []) k (PartStep k) (part_there count k less)
      | inr ge ↦
          let last : count ≡ k = omega (arith, lt, ge) in
          subst (λ (n : ℕ). At (part_list (suc count)) n (PartStep n)) last
          (subst (λ (n : ℕ). At (part_list (suc count)) n (PartStep count)) (part_count count) (at_last (part_list count) (PartStep count)))
    ]

part_is : (count k : ℕ) (step : CircuitStep) → At (part_list count) k step → step ≡ PartStep k
part_is zero k step e = absurd (at_none k step e)
part_is (suc count) k step e =
    elim (at_split (part_list count) (PartStep count) k step e) [
      | inl low ↦ part_is count k step low
      | inr last ↦ (let place : count ≡ k = sym (part_count count) ∙ sym last.0 in last.1 ∙ ap (λ (n : ℕ). PartStep n) place)
    ]

-- ---- their order

module _ (w : InPhase) (rank : ℕ → ℕ) (ranges : HasRanges w.circuit)
    (are : AreParts w.circuit (phase_of w) true rank (record { known = w.known; list = w.parts })) (ranks : IsRanking w.circuit (phase_of w) rank)
    (all : w.steps ≡ part_list (length w.parts)) where
  step_place : (k number : ℕ) → At w.steps k (PartStep number) → k ≡ number
  step_place k number e = number_of (part_is (length w.parts) k (PartStep number) (subst (λ (steps : List CircuitStep). At steps k (PartStep number)) all e))
    where
      number_of : PartStep number ≡ PartStep k → k ≡ number
      number_of q = cc

  no_instance : (k at : ℕ) → At w.steps k (InstanceStep at) → ⊥
  no_instance k at e = not_part (part_is (length w.parts) k (InstanceStep at) (subst (λ (steps : List CircuitStep). At steps k (InstanceStep at)) all e))
    where
      not_part : InstanceStep at ≡ PartStep k → ⊥
      not_part q = cc

  -- a part stands at its place
  part_at : (k : ℕ) (part : Part) → At w.parts k part → IsPartAt w k part
  part_at k part e = (
    k,
    subst (λ (steps : List CircuitStep). At steps k (PartStep k)) (sym all) (part_there (length w.parts) k (slice_get_within w.parts k part e)),
    e,
  )

  -- a plain net of lower rank than a part is in a part before it
  lower_before : (k : ℕ) (part : Part) (n : ℕ) → IsPartAt w k part → IsPlain w.circuit n → rank n < rank (least_of part) → IsInStepBefore w k n
  lower_before k part n here plain up =
      let from = are.all n plain in
      let j = from.1.0 in
      let place = step_place k here.0 here.1 in
      let own = are.each part (here.0, here.2) in
      let other = are.each from.0 from.1 in
      let low : from.0.rank ≡ rank n = other.ranked n from.2 in
      let high : part.rank ≡ rank (least_of part) = own.ranked (least_of part) (0, own.first) in
      let less : j < k = elim (cases_lt j here.0) [
        | inl lt ↦ omega (arith, lt, place)
        | inr ge ↦ elim (cases_eq j here.0) [
          | inl e ↦ absurd (
              let same : from.0 ≡ part = one_at w.parts here.0 from.0 part (subst (λ (i : ℕ). At w.parts i from.0) e from.1.1) here.2 in
              let ranks_same : from.0.rank ≡ part.rank = ap (λ (p : Part). p.rank) same in
              omega (arith, up, low, high, ranks_same)
              )
          | inr ne ↦ absurd (
              elim (are.sorted here.0 j part from.0 here.2 from.1.1 (omega (arith, ge, ne))) [
                | inl lt ↦ omega (arith, lt, up, low, high)
                | inr same ↦ (let e = same.0 in omega (arith, e, up, low, high))
              ]
              )
        ]
      ] in
      (j, from.0, less, part_at j from.0 from.1.1, number_inside from.0 n from.2)

  gates_before : (k : ℕ) (part : Part) (d : Device) → IsPartAt w k part → Among (part_devices w.circuit part) d → IsPlain w.circuit d.gate.0
      → IsUnknown w.circuit (phase_of w) d.gate.0 → IsInStepBefore w k d.gate.0
  gates_before k part d here m plain unknown =
      let of = are.each part (here.0, here.2) in
      let arc : HasGateArc w.circuit (phase_of w) d.gate.0 (least_of part) = (d, device_in w.circuit (phase_of w) true rank ranges part of d m, refl, unknown) in
      lower_before k part d.gate.0 here plain (ranks.above d.gate.0 (least_of part) (inl (inl arc, unknown)))

  pub ordered_parts : AreOrderedSteps w
  ordered_parts = record {
    count = are.count;
    table = are.known;
    each = λ part m. whole_part w.circuit (phase_of w) true rank ranges part (are.each part m);
    there = listed_there w all;
    all = λ n plain.
        let from = are.all n plain in
        let at = part_at from.1.0 from.0 from.1.1 in
        (from.1.0, from.0, slice_get_within w.steps from.1.0 (PartStep at.0) at.1, at, number_inside from.0 n from.2);
    gates = gates_before;
    ports = λ k at i n here m plain unknown. absurd (no_instance k at here.0);
  }

-- ---- what is found there

of_two : (kind : FaultKind) → Among (Fight ∷ Float ∷ []) kind → (kind ≡ Fight) ⊎ (kind ≡ Float)
of_two kind (zero, e) = inl (sym (same_Some Fight kind e))
of_two kind (suc zero, e) = inr (sym (same_Some Float kind e))
of_two kind (suc (suc i), e) = absurd (at_none i kind e)

part_kinds : (parts : List Part) (y : Spot) → Among (flat_map spots_of (map part_step parts)) y → (y.kind ≡ Fight) ⊎ (y.kind ≡ Float)
part_kinds parts y m =
    let kinds : List FaultKind = Fight ∷ Float ∷ [] in
    let from = among_flat_map spots_of (map part_step parts) y m in
    let part = among_map part_step parts from.0 from.1 in
    let here : Among (spots_of (part_step part.0)) y = subst (λ (x : Step). Among (spots_of x) y) (sym part.2) from.2 in
    let number = among_flat_map (spots_at kinds) (net_numbers part.0.nets) y here in
    let kind = among_map (λ (q : FaultKind). let x : Spot = record { kind = q; at = number.0 } in x) kinds y number.2 in
    of_two y.kind (subst (Among kinds) (ap (λ (x : Spot). x.kind) kind.2) kind.1)

pub steps_kinds : (w : InPhase) → w.steps ≡ part_list (length w.parts) → (y : Spot) → Among (flat_map spots_of (steps_of w)) y → (y.kind ≡ Fight) ⊎ (y.kind ≡ Float)
steps_kinds w all y m = part_kinds w.parts y (subst (λ (steps : List Step). Among (flat_map spots_of steps) y) (listed_steps w all) m)
