-- The steps of sorted keys are all parts, and all instances with a constraint, in their order.
use Rattle.std.proofs.Common.{◌≡◌, ℕ, suc, ◌<◌, ◌⊎◌, ◌&&◌, Bool, true, false, cond, List, [], ◌∷◌, Option, get_or, length, map, arith, ap, refl, subst, sym, ◌∙◌, inl, inr}
use Rattle.std.specs.Prelude.{◌==◌, All, bytes_eq, option_map, slice_index, unwrap_or}
use Rattle.std.specs.List.Sorted.{IsPermutation}
use Rattle.std.specs.Ordering.{is_lt, nat_cmp, ordering_then}
use Rattle.std.proofs.lemmas.Bool.{and_from, cases_eq, eq-eqb, false≢true, ne_eqb, or_left, or_right}
use Rattle.std.proofs.lemmas.List.Sorted.{Contains-permutation, IsPermutation-sym}
use Rattle.std.proofs.lemmas.Map.Keys.{IsDistinct-IsPermutation, apart_from_distinct, ge_from_not_lt}
use Rattle.std.proofs.lemmas.Option.{get_or_from_slice_get, same_Some, slice_get_within}
use Rattle.channel_parts.proofs.ListLaws.{among_contains, contains_among}
use Rattle.channel_parts.proofs.PartLaws.{not_before, sorted_at, then_then}
use Rattle.channel_parts.specs.Listings.{order_cmp}
use Rattle.channel_parts.specs.PartLists.{AreParts, least_of, net_numbers}
use Rattle.channel_parts.specs.declared.part.Part.{Part}
use Rattle.channel_parts.specs.declared.part.Parts.{Parts}
use Rattle.circuit_faults.proofs.KeyLaws.{IsInstanceKey, IsPartKey, Key, instance_key_there, instance_rank, keys_each, keys_rise, part_key_there, rising_distinct, same_key}
use Rattle.circuit_faults.proofs.OrderLaws.{is_least}
use Rattle.circuit_faults.proofs.WholeParts.{number_inside, plain}
use Rattle.circuit_faults.specs.Keys.{AreNetRanks, AreSorted, all_keys, step_of_key}
use Rattle.circuit_faults.specs.Steps.{IsStepThere, part_step, step_of}
use Rattle.circuit_faults.specs.declared.steps.CircuitStep.{CircuitStep}
use Rattle.circuit_faults.specs.declared.steps.CircuitStep.TheVariants.{Part as PartStep, Instance as InstanceStep}
use Rattle.constraints.proofs.NamedLaws.{assumed_line, clock_line, named_among}
use Rattle.constraints.specs.Obliged.{has_lines, is_asked, is_named_port, nets_named}
use Rattle.fault_places.proofs.StepOrder.{step_order}
use Rattle.fault_places.specs.PhaseSpots.{AreSteps, HasConstraint, IsRising, IsStepBefore, Step, OfInstance, OfPart, step_rank}
use Rattle.known_nets.proofs.NetKinds.{given_or_plain}
use Rattle.std.specs.List.{list_any}
use Rattle.vrt_model.proofs.Lists.{at_map, map_among}
use Rattle.vrt_model.proofs.Members.{all_among}
use Rattle.vrt_model.specs.Circuits.{IsNet}
use Rattle.vrt_model.specs.Networks.{HasRanges}
use Rattle.vrt_model.specs.Comparison.{Comparison, cell_at, phase_at}
use Rattle.vrt_model.specs.Known.{IsLeastOfPart, IsPlain, IsRanking}
use Rattle.vrt_model.specs.Lists.{At, Among}
use Rattle.vrt_model.specs.Places.{greatest_rank, is_named, named_nets, named_nets_from}
use Rattle.vrt_model.specs.Reading.{is_given}
use Rattle.vrt_model.specs.declared.circuit.Circuit.{Circuit}
use Rattle.vrt_model.specs.declared.circuit.FlatInstance.{FlatInstance}
use Rattle.vrt_model.specs.declared.circuit.FlatNet.{FlatNet}
use Rattle.vrt_model.specs.declared.design.Design.{Design}
use Rattle.vrt_model.specs.declared.rules.ClockportRule.{ClockportRule}
use Rattle.vrt_model.specs.declared.rules.Rules.{Rules}

-- ---- lists of keys

moved : {X : Type 0} (xs ys : List X) (x : X) → IsPermutation xs ys → Among xs x → Among ys x
moved xs ys x p m = contains_among ys x (Contains-permutation xs ys x p (among_contains xs x m))

flips : (x y : Key) → same_key x y ≡ same_key y x
flips x y = ap (λ (b : Bool). b && (x.1 == y.1)) (eqb_flips x.0.1 y.0.1) ∙ ap (λ (b : Bool). (y.0.1 == x.0.1) && b) (eqb_flips x.1 y.1)
  where
    eqb_flips : (a b : ℕ) → (a == b) ≡ (b == a)
    eqb_flips a b = elim (cases_eq a b) [ inl e ↦ eq-eqb a b e ∙ sym (eq-eqb b a (sym e)) | inr ne ↦ ne_eqb a b ne ∙ sym (ne_eqb b a (λ e. ne (sym e))) ]

-- by rank, in a rank by kind, and of one kind by number
abbrev IsEarlier : Key → Key → Type 0
IsEarlier x y = (x.0.0 < y.0.0) ⊎ ((x.0.0 ≡ y.0.0) × ((x.0.1 < y.0.1) ⊎ ((x.0.1 ≡ y.0.1) × (x.1 < y.1))))

-- of two keys the first comes no later, and they are apart
earlier_from : (x y : Key) → is_lt (order_cmp y x) ≡ false → same_key x y ≡ false → IsEarlier x y
earlier_from x y after other =
    elim (not_before y.0.0 x.0.0 (ordering_then (nat_cmp y.0.1 x.0.1) (nat_cmp y.1 x.1)) (sym (ap is_lt (then_then (nat_cmp y.0.0 x.0.0) (nat_cmp y.0.1 x.0.1) (nat_cmp y.1 x.1))) ∙ after)) [
      | inl lower ↦ inl lower
      | inr even ↦ inr (
        sym even.0,
        elim (not_before y.0.1 x.0.1 (nat_cmp y.1 x.1) even.1) [
          | inl less ↦ inl less
          | inr tie ↦ inr (
            sym tie.0,
            elim (cases_eq x.1 y.1) [
              | inl same ↦ absurd (false≢true (sym other ∙ and_from (x.0.1 == y.0.1) (x.1 == y.1) (eq-eqb x.0.1 y.0.1 (sym tie.0)) (eq-eqb x.1 y.1 same)))
              | inr ne ↦ (let le = ge_from_not_lt y.1 x.1 tie.1 in omega (arith, le, ne))
            ],
          )
        ],
      )
    ]

module _ (design : Design) (rules : Rules) (c : Circuit) (phase : ℕ) (parts : List Part) (ranks : List ℕ) (keys : List Key) (sorted : AreSorted design rules c phase parts ranks keys) where
  keys_earlier : (i j : ℕ) (x y : Key) → At keys i x → At keys j y → i < j → IsEarlier x y
  keys_earlier i j x y a b lt =
      let distinct = IsDistinct-IsPermutation same_key flips (all_keys design rules c phase parts ranks) keys sorted.permutation
      (rising_distinct (all_keys design rules c phase parts ranks) (keys_rise design rules c phase parts ranks)) in
      let within = slice_get_within keys j y b in
      let apart : same_key (get_or keys i x) (get_or keys j x) ≡ false = apart_from_distinct same_key keys i j x distinct lt within in
      earlier_from x y (sorted_at keys sorted.sorted i j x y a b (omega (arith, lt)))
      (subst (λ (z : Key). same_key x z ≡ false) (get_or_from_slice_get keys j y x b)
      (subst (λ (z : Key). same_key z (get_or keys j x) ≡ false) (get_or_from_slice_get keys i x x a) apart))

  key_kind : (x : Key) → Among keys x → IsPartKey design rules c phase parts ranks x ⊎ IsInstanceKey design rules c phase parts ranks x
  key_kind x m = keys_each design rules c phase parts ranks x (moved keys (all_keys design rules c phase parts ranks) x (IsPermutation-sym (all_keys design rules c phase parts ranks) keys sorted.permutation) m)

  listed : (x : Key) → Among (all_keys design rules c phase parts ranks) x → Among keys x
  listed x m = moved (all_keys design rules c phase parts ranks) keys x sorted.permutation m

  there_by : (x : Key) → IsPartKey design rules c phase parts ranks x ⊎ IsInstanceKey design rules c phase parts ranks x → IsStepThere parts c (step_of_key x)
  there_by x (inl part) =
      subst (λ (kind : ℕ). IsStepThere parts c (cond (kind == 0) (PartStep x.1) (InstanceStep x.1))) (sym part.0) (slice_get_within parts x.1 part.1.0 part.1.1)
  there_by x (inr instance) =
      subst (λ (kind : ℕ). IsStepThere parts c (cond (kind == 0) (PartStep x.1) (InstanceStep x.1))) (sym instance.0) (slice_get_within c.instances x.1 instance.1.0 instance.1.1)

  -- the parts and instances of the steps are there
  pub steps_there : (steps : List CircuitStep) → steps ≡ map step_of_key keys → (j : ℕ) (step : CircuitStep) → At steps j step → IsStepThere parts c step
  steps_there steps are j step e =
      let from = at_map step_of_key keys j step (subst (λ (xs : List CircuitStep). At xs j step) are e) in
      subst (IsStepThere parts c) from.2 (there_by from.0 (key_kind from.0 (j, from.1)))

-- ---- the steps of a comparison

same_greatest : (f g : ℕ → ℕ) (ns : List ℕ) → ((n : ℕ) → Among ns n → f n ≡ g n) → greatest_rank f ns ≡ greatest_rank g ns
same_greatest f g [] same = refl
same_greatest f g (n ∷ ns) same = (let here = same n (0, refl) in let rest = same_greatest f g ns (λ m i. same m (suc i.0, i.1)) in omega (arith, here, rest))

module _ (k : Comparison) (phase : ℕ) (rank : ℕ → ℕ) (parts : Parts) (are : AreParts k.circuit (phase_at k.rules phase) true rank parts) (ranking : IsRanking k.circuit (phase_at k.rules phase) rank)
    (steps : List CircuitStep) (ranks : List ℕ) (keys : List Key) (noted : AreNetRanks parts.list (length parts.list) ranks) where
  module _ (ranges : HasRanges k.circuit) (nets : All (λ (i : FlatInstance). All (IsNet k.circuit) i.ports) k.circuit.instances)
      (sorted : AreSorted k.design k.rules k.circuit phase parts.list ranks keys) (listed_steps : steps ≡ map step_of_key keys) where
    abbrev ghost : List Step
    ghost = map (step_of parts.list) steps

    abbrev IsOfPart : Key → Type 0
    IsOfPart x = IsPartKey k.design k.rules k.circuit phase parts.list ranks x

    abbrev IsOfInstance : Key → Type 0
    IsOfInstance x = IsInstanceKey k.design k.rules k.circuit phase parts.list ranks x

    -- the ranks that were noted
    rank_noted : (n : ℕ) → n < length k.circuit.nets → slice_index ranks n ≡ rank n
    rank_noted n lt =
        elim (given_or_plain k.circuit n lt) [
          | inr p ↦ (let there = are.all n p in
              noted.inside rank (λ part m i. (are.each part i).ranked m) there.1.0 there.0 n (slice_get_within parts.list there.1.0 there.0 there.1.1) there.1.1 there.2)
          | inl g ↦ noted.outside n (λ j part below e m. not_given g (plain k.circuit (phase_at k.rules phase) true rank ranges part (are.each part (j, e)) n (number_inside part n m))) ∙ sym (ranking.given n g.0 g.1 g.2)
        ]
      where
        not_given : ((net : FlatNet) × At k.circuit.nets n net × (is_given net.kind ≡ true)) → IsPlain k.circuit n → ⊥
        not_given g p =
            let same : p.0 ≡ g.0 = same_Some p.0 g.0 (sym p.1 ∙ g.1) in
            false≢true (sym (ap is_given p.2) ∙ (ap (λ (net : FlatNet). is_given net.kind) same ∙ g.2))

    -- the step of a key, and its rank
    part_ghost : (x : Key) (part : IsOfPart x) → step_of parts.list (step_of_key x) ≡ part_step part.1.0
    part_ghost x part =
        ap (λ (kind : ℕ). step_of parts.list (cond (kind == 0) (PartStep x.1) (InstanceStep x.1))) part.0
        ∙ ap (λ (o : Option Part). unwrap_or (option_map part_step o) (OfPart 0 [])) part.1.1

    instance_ghost : (x : Key) → IsOfInstance x → step_of parts.list (step_of_key x) ≡ OfInstance x.1
    instance_ghost x instance = ap (λ (kind : ℕ). step_of parts.list (cond (kind == 0) (PartStep x.1) (InstanceStep x.1))) instance.0

    part_rank_is : (x : Key) (part : IsOfPart x) → step_rank k phase rank (part_step part.1.0) ≡ x.0.0
    part_rank_is x part =
        let of = are.each part.1.0 (x.1, part.1.1) in
        let high : part.1.0.rank ≡ rank (least_of part.1.0) = of.ranked (least_of part.1.0) (0, of.first) in
        sym high ∙ sym part.1.2

    named_is : (at : ℕ) (i : FlatInstance) → At k.circuit.instances at i → named_nets k phase at ≡ nets_named k.design k.rules phase i
    named_is at i e =
        ap (λ (o : Option FlatInstance). unwrap_or (option_map (λ (x : FlatInstance). named_nets_from (is_named k phase x) (cell_at k.design x.cell).ports x.ports) o) []) e

    instance_rank_is : (x : Key) → IsOfInstance x → step_rank k phase rank (OfInstance x.1) ≡ x.0.0
    instance_rank_is x instance =
        let i : FlatInstance = instance.1.0 in
        ap (greatest_rank rank) (named_is x.1 i instance.1.1)
        ∙ same_greatest rank (slice_index ranks) (nets_named k.design k.rules phase i) (λ n m. sym (rank_noted n (in_range i (x.1, instance.1.1) n m)))
        ∙ sym instance.1.2
      where
        in_range : (i : FlatInstance) → Among k.circuit.instances i → (n : ℕ) → Among (nets_named k.design k.rules phase i) n → n < length k.circuit.nets
        in_range i there n m =
            let net = named_among (is_named_port k.design k.rules phase i) (cell_at k.design i.cell).ports i.ports n m in
            let low = all_among (IsNet k.circuit) i.ports net.0 (all_among (λ (x : FlatInstance). All (IsNet k.circuit) x.ports) k.circuit.instances i nets there) net.1 in
            subst (λ (y : ℕ). y < length k.circuit.nets) net.2 low

    -- ---- their order

    abbrev Precedes : Step → Step → Type 0
    Precedes x y = IsStepBefore k phase rank x y

    both_parts : (x y : Key) (p : IsOfPart x) (q : IsOfPart y) → IsEarlier x y → Precedes (part_step p.1.0) (part_step q.1.0)
    both_parts x y p q (inl lt) = inl (let one = part_rank_is x p in let two = part_rank_is y q in omega (arith, lt, one, two))
    both_parts x y p q (inr (e, inl lt)) = absurd (let one = p.0 in let two = q.0 in omega (arith, lt, one, two))
    both_parts x y p q (inr (e, inr same)) =
        elim (are.sorted x.1 y.1 p.1.0 q.1.0 p.1.1 q.1.1 same.1) [
          | inl lt ↦ absurd (let one = p.1.2 in let two = q.1.2 in omega (arith, lt, one, two, e))
          | inr least ↦ inr ((let one = part_rank_is x p in let two = part_rank_is y q in omega (arith, one, two, e)), least.1)
        ]

    part_instance : (x y : Key) (p : IsOfPart x) → IsOfInstance y → IsEarlier x y → Precedes (part_step p.1.0) (OfInstance y.1)
    part_instance x y p q (inl lt) = inl (let one = part_rank_is x p in let two = instance_rank_is y q in omega (arith, lt, one, two))
    part_instance x y p q (inr same) = inr ((let one = part_rank_is x p in let two = instance_rank_is y q in let e = same.0 in omega (arith, one, two, e)), tt)

    instance_part : (x y : Key) → IsOfInstance x → (q : IsOfPart y) → IsEarlier x y → Precedes (OfInstance x.1) (part_step q.1.0)
    instance_part x y p q (inl lt) = inl (let one = instance_rank_is x p in let two = part_rank_is y q in omega (arith, lt, one, two))
    instance_part x y p q (inr (e, inl lt)) = absurd (let one = p.0 in let two = q.0 in omega (arith, lt, one, two))
    instance_part x y p q (inr (e, inr same)) = absurd (let one = p.0 in let two = q.0 in let kinds = same.0 in omega (arith, kinds, one, two))

    both_instances : (x y : Key) → IsOfInstance x → IsOfInstance y → IsEarlier x y → Precedes (OfInstance x.1) (OfInstance y.1)
    both_instances x y p q (inl lt) = inl (let one = instance_rank_is x p in let two = instance_rank_is y q in omega (arith, lt, one, two))
    both_instances x y p q (inr (e, inl lt)) = absurd (let one = p.0 in let two = q.0 in omega (arith, lt, one, two))
    both_instances x y p q (inr (e, inr same)) = inr ((let one = instance_rank_is x p in let two = instance_rank_is y q in omega (arith, one, two, e)), same.1)

    abbrev ghost_of : Key → Step
    ghost_of x = step_of parts.list (step_of_key x)

    key_before : (x y : Key) → IsOfPart x ⊎ IsOfInstance x → IsOfPart y ⊎ IsOfInstance y → IsEarlier x y → Precedes (ghost_of x) (ghost_of y)
    key_before x y (inl p) (inl q) lt =
        subst (λ (s : Step). Precedes s (ghost_of y)) (sym (part_ghost x p)) (subst (Precedes (part_step p.1.0)) (sym (part_ghost y q)) (both_parts x y p q lt))
    key_before x y (inl p) (inr q) lt =
        subst (λ (s : Step). Precedes s (ghost_of y)) (sym (part_ghost x p)) (subst (Precedes (part_step p.1.0)) (sym (instance_ghost y q)) (part_instance x y p q lt))
    key_before x y (inr p) (inl q) lt =
        subst (λ (s : Step). Precedes s (ghost_of y)) (sym (instance_ghost x p)) (subst (Precedes (OfInstance x.1)) (sym (part_ghost y q)) (instance_part x y p q lt))
    key_before x y (inr p) (inr q) lt =
        subst (λ (s : Step). Precedes s (ghost_of y)) (sym (instance_ghost x p)) (subst (Precedes (OfInstance x.1)) (sym (instance_ghost y q)) (both_instances x y p q lt))

    -- the key of a step
    key_at : (i : ℕ) (x : Step) → At ghost i x → (key : Key) × At keys i key × (ghost_of key ≡ x)
    key_at i x e =
        let step = at_map (step_of parts.list) steps i x e in
        let key = at_map step_of_key keys i step.0 (subst (λ (xs : List CircuitStep). At xs i step.0) listed_steps step.1) in
        (key.0, key.1, ap (step_of parts.list) key.2 ∙ step.2)

    kind_of : (i : ℕ) (key : Key) → At keys i key → IsOfPart key ⊎ IsOfInstance key
    kind_of i key e = key_kind k.design k.rules k.circuit phase parts.list ranks keys sorted key (i, e)

    in_order : (i j : ℕ) (x y : Step) → At ghost i x → At ghost j y → i < j → Precedes x y
    in_order i j x y a b lt =
        let p = key_at i x a in
        let q = key_at j y b in
        subst (λ (s : Step). Precedes s y) p.2
        (subst (λ (s : Step). Precedes (ghost_of p.0) s) q.2
        (key_before p.0 q.0 (kind_of i p.0 p.1) (kind_of j q.0 q.1) (keys_earlier k.design k.rules k.circuit phase parts.list ranks keys sorted i j p.0 q.0 p.1 q.1 lt)))

    -- ---- what they are

    abbrev Rises : Step → Type 0
    Rises (OfPart first nets) = IsRising nets
    Rises (OfInstance at) = Unit {0}

    abbrev HasLeast : Step → Type 0
    HasLeast (OfPart first nets) = (n : ℕ) → Among nets n → IsLeastOfPart k.circuit (phase_at k.rules phase) n first
    HasLeast (OfInstance at) = Unit {0}

    each_by : (x : Key) → IsOfPart x ⊎ IsOfInstance x → Rises (ghost_of x) × HasLeast (ghost_of x)
    each_by x (inl p) =
        subst (λ (s : Step). Rises s × HasLeast s) (sym (part_ghost x p)) (
          (are.each p.1.0 (x.1, p.1.1)).net_order,
          λ n i. is_least k.circuit (phase_at k.rules phase) rank ranges p.1.0 (are.each p.1.0 (x.1, p.1.1)) n (number_inside p.1.0 n i),
        )
    each_by x (inr p) = subst (λ (s : Step). Rises s × HasLeast s) (sym (instance_ghost x p)) (tt, tt)

    each_step : (x : Step) → Among ghost x → Rises x × HasLeast x
    each_step x m = (let key = key_at m.0 x m.1 in subst (λ (s : Step). Rises s × HasLeast s) key.2 (each_by key.0 (kind_of m.0 key.0 key.1)))

    -- a key is that of a step
    step_there : (x : Key) → Among (all_keys k.design k.rules k.circuit phase parts.list ranks) x → Among ghost (ghost_of x)
    step_there x m =
        let here : Among keys x = listed k.design k.rules k.circuit phase parts.list ranks keys sorted x m in
        map_among (step_of parts.list) steps (step_of_key x) (subst (λ (xs : List CircuitStep). Among xs (step_of_key x)) (sym listed_steps) (map_among step_of_key keys x here))

    lines_of : (i : FlatInstance) → HasConstraint k phase i → has_lines k.design k.rules phase i ≡ true
    lines_of i (inl h) =
        or_left (list_any (is_asked (cell_at k.design i.cell).name phase) k.rules.assumes) (list_any (λ (r : ClockportRule). bytes_eq r.cell (cell_at k.design i.cell).name) k.rules.clockports)
        (assumed_line k.rules (cell_at k.design i.cell).name phase h.0 h.1)
    lines_of i (inr h) =
        or_right (list_any (is_asked (cell_at k.design i.cell).name phase) k.rules.assumes) (list_any (λ (r : ClockportRule). bytes_eq r.cell (cell_at k.design i.cell).name) k.rules.clockports)
        (clock_line k.rules (cell_at k.design i.cell).name h.0 h.1 h.3)

    parts_there : (n : ℕ) → IsPlain k.circuit n → (first : ℕ) × (nets_in : List ℕ) × Among ghost (OfPart first nets_in) × Among nets_in n
    parts_there n p =
        let there = are.all n p in
        let part : Part = there.0 in
        let key : Key = ((part.rank, 0), there.1.0) in
        let step = step_there key (part_key_there k.design k.rules k.circuit phase parts.list ranks there.1.0 part there.1.1) in
        (least_of part, net_numbers part.nets, subst (Among ghost) (ap (λ (o : Option Part). unwrap_or (option_map part_step o) (OfPart 0 [])) there.1.1) step, there.2)

    pub in_comparison_order : AreSteps k phase rank ghost
    in_comparison_order = record {
      sorted = step_order k phase rank ghost in_order;
      rising = λ first nets_in m. (each_step (OfPart first nets_in) m).0;
      leasts = λ first nets_in n m i. (each_step (OfPart first nets_in) m).1 n i;
      parts = parts_there;
      instances = λ at i e has. step_there ((instance_rank k.design k.rules k.circuit phase parts.list ranks i, 1), at)
          (instance_key_there k.design k.rules k.circuit phase parts.list ranks at i e (lines_of i has));
    }

  -- of a comparison with this design, these rules and this circuit
  pub steps_listed : (design : Design) (rules : Rules) (c : Circuit) → k.design ≡ design → k.rules ≡ rules → k.circuit ≡ c → HasRanges c → All (λ (i : FlatInstance). All (IsNet c) i.ports) c.instances
      → AreSorted design rules c phase parts.list ranks keys → steps ≡ map step_of_key keys → AreSteps k phase rank (map (step_of parts.list) steps)
  steps_listed design rules c d r x numbers nets sorted same =
      in_comparison_order
      (subst HasRanges (sym x) numbers)
      (subst (λ (y : Circuit). All (λ (i : FlatInstance). All (IsNet y) i.ports) y.instances) (sym x) nets)
      (subst (λ (y : Design). AreSorted y k.rules k.circuit phase parts.list ranks keys) (sym d)
      (subst (λ (y : Rules). AreSorted design y k.circuit phase parts.list ranks keys) (sym r)
      (subst (λ (y : Circuit). AreSorted design rules y phase parts.list ranks keys) (sym x) sorted)))
      same
