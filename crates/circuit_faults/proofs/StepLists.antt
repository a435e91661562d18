-- Steps in their order are so ordered that what each looks at was solved before.
use Rattle.std.proofs.Common.{◌≡◌, ℕ, zero, suc, ◌<◌, ◌≤◌, ◌&&◌, Bool, true, false, List, [], ◌∷◌, Option, ap, arith, inl, inr, refl, subst, sym, ◌∙◌}
use Rattle.std.specs.Prelude.{nat_eq, nat_lt, option_map, slice_get, unwrap_or}
use Rattle.std.proofs.lemmas.Bool.{and_parts, cases_eq, cases_lt, eqb-true, false≢true, ltb-true, or_cases}
use Rattle.std.proofs.lemmas.Option.{same_Some, slice_get_within}
use Rattle.channel_parts.specs.PartLists.{AreParts, least_of, net_numbers}
use Rattle.channel_parts.specs.declared.part.Part.{Part}
use Rattle.channel_parts.specs.declared.part.Parts.{Parts}
use Rattle.circuit_faults.proofs.CircuitLaws.{step_is}
use Rattle.circuit_faults.proofs.DrivenAlone.{driven_alone}
use Rattle.circuit_faults.proofs.WholeParts.{device_in, inside_number, number_inside, whole_part, together}
use Rattle.circuit_faults.specs.Scans.{IsInside}
use Rattle.circuit_faults.specs.Steps.{AreOrderedSteps, InPhase, IsInStepBefore, IsInstanceAt, IsPartAt, IsThere, in_comparison, named_at, part_step, step_of, steps_of}
use Rattle.circuit_faults.specs.declared.steps.CircuitStep.{CircuitStep}
use Rattle.circuit_faults.specs.declared.steps.CircuitStep.TheVariants.{Part as PartStep, Instance as InstanceStep}
use Rattle.fault_places.specs.PhaseSpots.{AreSteps, Step, OfInstance, OfPart, step_key, step_rank}
use Rattle.path_fixpoint.specs.Parts.{part_devices}
use Rattle.vrt_model.proofs.Lists.{at_map, at_there, map_at}
use Rattle.vrt_model.proofs.Members.{at_none}
use Rattle.vrt_model.specs.Comparison.{Comparison, cell_at, phase_at}
use Rattle.vrt_model.specs.Known.{HasGateArc, HasWholeArc, IsPlain, IsRanking, IsUnknown}
use Rattle.vrt_model.specs.Determined.{IsLinkedTo}
use Rattle.vrt_model.specs.State.{OutputPin, output_pins}
use Rattle.vrt_model.specs.declared.ids.Net.{Net}
use Rattle.vrt_model.specs.declared.whole.WholePin.{WholePin}
use Rattle.known_nets.proofs.WiredLaws.{pin_of_whole}
use Rattle.circuit_faults.specs.Wholes.{AreOutputsOrdered}
use Rattle.vrt_model.specs.Lists.{At, Among}
use Rattle.vrt_model.specs.Networks.{HasRanges}
use Rattle.vrt_model.specs.Places.{comes_before, greatest_rank, is_named, named_nets, named_nets_from, of_instance, of_net}
use Rattle.vrt_model.specs.declared.circuit.Device.{Device}
use Rattle.vrt_model.specs.declared.circuit.FlatInstance.{FlatInstance}

-- the greatest rank is at least that of each
below_greatest : (rank : ℕ → ℕ) (ns : List ℕ) (n : ℕ) → Among ns n → rank n ≤ greatest_rank rank ns
below_greatest rank [] n m = absurd (at_none m.0 n m.1)
below_greatest rank (x ∷ xs) n (zero, e) = (let same : rank x ≡ rank n = ap rank (same_Some x n e) in omega (arith, same))
below_greatest rank (x ∷ xs) n (suc i, e) = (let below = below_greatest rank xs n (i, e) in omega (arith, below))

-- the first number decides, and where it is the same, the rest
first_most : (r s : ℕ) (xs ys : List ℕ) → comes_before (r ∷ xs) (s ∷ ys) ≡ true → r ≤ s
first_most r s xs ys e = elim (or_cases (nat_lt r s) (nat_eq r s && comes_before xs ys) e) [
  | inl t ↦ (let lt = ltb-true r s t in omega (arith, lt))
  | inr t ↦ (let same = eqb-true r s (and_parts (nat_eq r s) (comes_before xs ys) t).0 in omega (arith, same))
]

first_less : (r s : ℕ) (xs ys : List ℕ) → comes_before (r ∷ xs) (s ∷ ys) ≡ true → comes_before xs ys ≡ false → r < s
first_less r s xs ys e none = elim (or_cases (nat_lt r s) (nat_eq r s && comes_before xs ys) e) [
  | inl t ↦ ltb-true r s t
  | inr t ↦ absurd (false≢true (sym none ∙ (and_parts (nat_eq r s) (comes_before xs ys) t).1))
]

abbrev nets_of : Step → List ℕ
nets_of (OfPart first nets) = nets
nets_of (OfInstance at) = []

module _ (k : Comparison) (phase : ℕ) (rank : ℕ → ℕ) where
  key_most : (x y : Step) → comes_before (step_key k phase rank x) (step_key k phase rank y) ≡ true → step_rank k phase rank x ≤ step_rank k phase rank y
  key_most (OfPart a xs) (OfPart b ys) e = first_most (rank a) (rank b) (of_net ∷ a ∷ []) (of_net ∷ b ∷ []) e
  key_most (OfPart a xs) (OfInstance b) e = first_most (rank a) (greatest_rank rank (named_nets k phase b)) (of_net ∷ a ∷ []) (of_instance ∷ b ∷ []) e
  key_most (OfInstance a) (OfPart b ys) e = first_most (greatest_rank rank (named_nets k phase a)) (rank b) (of_instance ∷ a ∷ []) (of_net ∷ b ∷ []) e
  key_most (OfInstance a) (OfInstance b) e =
      first_most (greatest_rank rank (named_nets k phase a)) (greatest_rank rank (named_nets k phase b)) (of_instance ∷ a ∷ []) (of_instance ∷ b ∷ []) e

  -- behind an instance stand parts of higher rank alone
  key_less : (at first : ℕ) (nets : List ℕ) → comes_before (step_key k phase rank (OfInstance at)) (step_key k phase rank (OfPart first nets)) ≡ true
      → greatest_rank rank (named_nets k phase at) < rank first
  key_less at first nets e = first_less (greatest_rank rank (named_nets k phase at)) (rank first) (of_instance ∷ at ∷ []) (of_net ∷ first ∷ []) e refl

module _ (k : Comparison) (phase : ℕ) (rank : ℕ → ℕ) (parts : Parts) (steps : List CircuitStep) (observed : ℕ → Bool) (ranges : HasRanges k.circuit)
    (are : AreParts k.circuit (phase_at k.rules phase) true rank parts) (ranks : IsRanking k.circuit (phase_at k.rules phase) rank)
    (there : (j : ℕ) (step : CircuitStep) → At steps j step → IsThere (in_comparison k phase parts steps observed) step)
    (sorted : AreSteps k phase rank (steps_of (in_comparison k phase parts steps observed))) where
  abbrev w : InPhase
  w = in_comparison k phase parts steps observed

  -- the step of a part stands at its place
  step_there : (j : ℕ) (part : Part) → IsPartAt w j part → At (steps_of w) j (part_step part)
  step_there j part here = subst (At (steps_of w) j) (step_is w here.0 part here.2) (map_at (step_of w.parts) w.steps j (PartStep here.0) here.1)

  part_from : (j : ℕ) (first : ℕ) (nets : List ℕ) (n : ℕ) (step : CircuitStep) → At w.steps j step → step_of w.parts step ≡ OfPart first nets → Among nets n
      → (part : Part) × IsPartAt w j part × IsInside part n
  part_from j first nets n (PartStep number) here e m =
      let p = at_there w.parts number (there j (PartStep number) here) in
      let same : part_step p.0 ≡ OfPart first nets = sym (step_is w number p.0 p.1) ∙ e in
      (p.0, (number, here, p.1), number_inside p.0 n (subst (λ (ns : List ℕ). Among ns n) (sym (ap nets_of same)) m))
  part_from j first nets n (InstanceStep at) here e m = absurd (not_part e)
    where
      not_part : OfInstance at ≡ OfPart first nets → ⊥
      not_part q = cc

  -- each plain net is in the part of a step
  plain_there : (n : ℕ) → IsPlain k.circuit n → (j : ℕ) × (part : Part) × IsPartAt w j part × IsInside part n
  plain_there n p =
      let at = sorted.parts n p in
      let from = at_map (step_of w.parts) w.steps at.2.0 (OfPart at.0 at.1) at.2.1 in
      let part = part_from at.2.0 at.0 at.1 n from.0 from.1 from.2 at.3 in
      (at.2.0, part.0, part.1, part.2)

  -- a net of a part has the rank of its step
  rank_there : (j : ℕ) (part : Part) (n : ℕ) → IsPartAt w j part → IsInside part n → rank n ≡ rank (least_of part)
  rank_there j part n here i =
      let of = are.each part (here.0, here.2) in
      let low : part.rank ≡ rank n = of.ranked n (inside_number part n i) in
      let high : part.rank ≡ rank (least_of part) = of.ranked (least_of part) (0, of.first) in
      omega (arith, low, high)

  -- of two places of steps the first, or the second is not behind it
  earlier_place : (j q : ℕ) (x y : Step) → At (steps_of w) j x → At (steps_of w) q y → step_rank k phase rank x < step_rank k phase rank y → j < q
  earlier_place j q x y at_x at_y lt =
      elim (cases_lt j q) [
        | inl less ↦ less
        | inr ge ↦ elim (cases_eq q j) [
          | inl e ↦ absurd (
              let same : y ≡ x = same_Some y x (sym at_y ∙ ap (slice_get (steps_of w)) e ∙ at_x) in
              let ranks_same : step_rank k phase rank y ≡ step_rank k phase rank x = ap (step_rank k phase rank) same in
              omega (arith, lt, ranks_same)
              )
          | inr ne ↦ absurd (
              let most = key_most k phase rank y x (sorted.sorted q j y x at_y at_x (omega (arith, ge, ne))) in
              omega (arith, lt, most)
              )
        ]
      ]

  -- a plain net of lower rank than a part is in the part of a step before
  lower_before : (q : ℕ) (part : Part) (n : ℕ) → IsPartAt w q part → IsPlain k.circuit n → rank n < rank (least_of part) → IsInStepBefore w q n
  lower_before q part n here p up =
      let at = plain_there n p in
      let low : rank n ≡ rank (least_of at.1) = rank_there at.0 at.1 n at.2 at.3 in
      let lt : rank (least_of at.1) < rank (least_of part) = omega (arith, up, low) in
      (at.0, at.1, earlier_place at.0 q (part_step at.1) (part_step part) (step_there at.0 at.1 at.2) (step_there q part here) lt, at.2, at.3)

  gates_before : (q : ℕ) (part : Part) (d : Device) → IsPartAt w q part → Among (part_devices k.circuit part) d → IsPlain k.circuit d.gate.0
      → IsUnknown k.circuit (phase_at k.rules phase) d.gate.0 → IsInStepBefore w q d.gate.0
  gates_before q part d here m p u =
      let of = are.each part (here.0, here.2) in
      let arc : HasGateArc k.circuit (phase_at k.rules phase) d.gate.0 (least_of part) = (d, device_in k.circuit (phase_at k.rules phase) true rank ranges part of d m, refl, u) in
      lower_before q part d.gate.0 here p (ranks.above d.gate.0 (least_of part) (inl (inl arc, u)))

  -- the nets of the named ports, by the numbers of instances and by the instance
  named_is : (at : ℕ) (i : FlatInstance) → At k.circuit.instances at i → named_nets k phase at ≡ named_at w i
  named_is at i e =
      ap (λ (o : Option FlatInstance). unwrap_or (option_map (λ (x : FlatInstance). named_nets_from (is_named k phase x) (cell_at k.design x.cell).ports x.ports) o) []) e

  ports_before : (q at : ℕ) (i : FlatInstance) (n : ℕ) → IsInstanceAt w q at i → Among (named_at w i) n → IsPlain k.circuit n → IsInStepBefore w q n
  ports_before q at i n here m p =
      let place = plain_there n p in
      let step : At (steps_of w) q (OfInstance at) = map_at (step_of w.parts) w.steps q (InstanceStep at) here.0 in
      let low : rank n ≡ rank (least_of place.1) = rank_there place.0 place.1 n place.2 place.3 in
      let most : rank n ≤ greatest_rank rank (named_nets k phase at) =
      below_greatest rank (named_nets k phase at) n (subst (λ (ns : List ℕ). Among ns n) (sym (named_is at i here.1)) m) in
      (place.0, place.1, before place.0 place.1 (step_there place.0 place.1 place.2) step (omega (arith, low, most)), place.2, place.3)
    where
      other_step : (first : ℕ) (nets : List ℕ) → OfInstance at ≡ OfPart first nets → ⊥
      other_step first nets e = cc

      before : (j : ℕ) (part : Part) → At (steps_of w) j (part_step part) → At (steps_of w) q (OfInstance at) → rank (least_of part) ≤ greatest_rank rank (named_nets k phase at) → j < q
      before j part at_part at_instance most =
          elim (cases_lt j q) [
            | inl less ↦ less
            | inr ge ↦ elim (cases_eq q j) [
              | inl e ↦ absurd (other_step (least_of part) (net_numbers part.nets) (same_Some (OfInstance at) (part_step part) (sym at_instance ∙ ap (slice_get (steps_of w)) e ∙ at_part)))
              | inr ne ↦ absurd (
                  let lt = key_less k phase rank at (least_of part) (net_numbers part.nets) (sorted.sorted q j (OfInstance at) (part_step part) at_instance at_part (omega (arith, ge, ne))) in
                  omega (arith, lt, most)
                  )
            ]
          ]

  pub ordered_steps : AreOrderedSteps w
  ordered_steps = record {
    count = are.count;
    table = are.known;
    each = λ part m. whole_part k.circuit (phase_at k.rules phase) true rank ranges part (are.each part m);
    there = there;
    all = λ n p. (let at = plain_there n p in (at.0, at.1, slice_get_within w.steps at.0 (PartStep at.2.0) at.2.1, at.2, at.3));
    gates = gates_before;
    ports = λ q at i n here m p u. ports_before q at i n here m p;
  }

  -- ---- the outputs of whole instances

  linked_before : (q place : ℕ) (part : Part) (out : OutputPin) (input : WholePin) → IsPartAt w q part → Among (output_pins k.circuit) out → IsInside part out.pin.net.0
      → At out.whole.outputs place out.pin → IsLinkedTo (phase_at k.rules phase) out.whole input place → IsPlain k.circuit input.net.0 → IsUnknown k.circuit (phase_at k.rules phase) input.net.0
      → IsInStepBefore w q input.net.0
  linked_before q place part out input here among inside_part pin linked plain unknown =
      let of = are.each part (here.0, here.2) in
      let net : linked.0.from.0 ≡ input.net.0 = ap (λ (x : Net). x.0) linked.3 in
      let there : At out.whole.outputs linked.0.output out.pin = subst (λ (i : ℕ). At out.whole.outputs i out.pin) (sym linked.4) pin in
      let arc : HasWholeArc k.circuit (phase_at k.rules phase) input.net.0 (least_of part) =
      (out.whole, linked.0, ((pin_of_whole k.circuit out among).0, linked.1, linked.2, net, (out.pin, there, together k.circuit (phase_at k.rules phase) true rank ranges part of out.pin.net.0 inside_part))) in
      lower_before q part input.net.0 here plain (ranks.above input.net.0 (least_of part) (inl (inr arc, unknown)))

  pub ordered_outputs : AreOutputsOrdered w
  ordered_outputs = record {
    alone = λ q at part out m here e free i j.
        driven_alone k.circuit (phase_at k.rules phase) true rank ranges at out free part (are.each part (here.0, here.2)) m i j;
    inputs = λ q place part out input here among i pin m linked seen plain unknown. linked_before q place part out input here among i pin linked plain unknown;
  }
