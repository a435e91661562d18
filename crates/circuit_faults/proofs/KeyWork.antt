-- The operations of the steps of sorted keys are those of all parts and of the instances that have a line.
use Rattle.std.proofs.Common.{◌≡◌, ℕ, zero, suc, ◌+◌, ◌≤◌, Bool, true, false, cond, List, [], ◌∷◌, Option, length, map, take, arith, ap, refl, subst, sym, ◌∙◌}
use Rattle.std.specs.Prelude.{slice_index, sum_by}
use Rattle.std.proofs.Math.Seq.{take-length}
use Rattle.std.proofs.lemmas.List.Sorted.{sum_by-IsPermutation}
use Rattle.std.proofs.lemmas.List.Sums.{sum_by-append, sum_by-cons, sum_by_push}
use Rattle.channel_parts.specs.declared.part.Part.{Part}
use Rattle.channel_parts.specs.declared.part.Parts.{Parts}
use Rattle.circuit_faults.proofs.CountLaws.{sum_next}
use Rattle.circuit_faults.proofs.KeyLaws.{Key}
use Rattle.circuit_faults.proofs.StepLaws.{instance_step_operations, part_step_operations}
use Rattle.circuit_faults.specs.Keys.{AreSorted, all_keys, instance_key, instance_keys, key_of, part_keys, part_rank, step_of_key}
use Rattle.circuit_faults.specs.Operations.{circuit_operations, constraint_operations, instance_operations, part_operations, step_operations, steps_operations}
use Rattle.circuit_faults.specs.Steps.{InPhase, in_comparison}
use Rattle.circuit_faults.specs.declared.steps.CircuitStep.{CircuitStep}
use Rattle.constraints.specs.Obliged.{has_lines, nets_named}
use Rattle.vrt_model.proofs.Lists.{at_there}
use Rattle.vrt_model.specs.Comparison.{Comparison}
use Rattle.vrt_model.specs.Lists.{At}
use Rattle.vrt_model.specs.Places.{greatest_rank}
use Rattle.vrt_model.specs.declared.circuit.Circuit.{Circuit}
use Rattle.vrt_model.specs.declared.circuit.FlatInstance.{FlatInstance}
use Rattle.vrt_model.specs.declared.design.Design.{Design}
use Rattle.vrt_model.specs.declared.rules.Rules.{Rules}

sum_of_map : {X Y : Type 0} (g : X → Y) (f : Y → ℕ) (xs : List X) → sum_by f (map g xs) ≡ sum_by (λ (x : X). f (g x)) xs
sum_of_map g f [] = refl
sum_of_map {X} g f (x ∷ xs) =
    let left = sum_by-cons f (g x) (map g xs) in
    let right = sum_by-cons (λ (y : X). f (g y)) x xs in
    let rest = sum_of_map g f xs in
    omega (arith, left, right, rest)

module _ (w : InPhase) (ranks : List ℕ) where
  -- the operations of the step of a key
  abbrev cost : Key → ℕ
  cost x = step_operations w (step_of_key x)

  parts_cost : (n : ℕ) → n ≤ length w.parts → sum_by cost (part_keys w.parts n) ≡ sum_by (part_operations w.circuit) (take n w.parts)
  parts_cost zero le = refl
  parts_cost (suc n) le =
      let p = at_there w.parts n (omega (arith, le)) in
      let before = parts_cost n (omega (arith, le)) in
      let own : cost ((part_rank w.parts n, 0), n) ≡ part_operations w.circuit p.0 = part_step_operations w n p.0 p.1 in
      let keys = sum_by_push cost (part_keys w.parts n) ((part_rank w.parts n, 0), n) in
      let next : n + 1 ≡ suc n = omega arith in
      let all : sum_by (part_operations w.circuit) (take (suc n) w.parts) ≡ sum_by (part_operations w.circuit) (take n w.parts) + part_operations w.circuit p.0 =
      subst (λ (m : ℕ). sum_by (part_operations w.circuit) (take m w.parts) ≡ sum_by (part_operations w.circuit) (take n w.parts) + part_operations w.circuit p.0) next (sum_next (part_operations w.circuit) w.parts n p.0 p.1) in
      omega (arith, before, own, keys, all)

  abbrev instance_rank : FlatInstance → ℕ
  instance_rank i = greatest_rank (slice_index ranks) (nets_named w.design w.rules w.phase i)

  extra_cost : (n : ℕ) (i : FlatInstance) → At w.circuit.instances n i → sum_by cost (instance_key w.design w.rules w.circuit w.phase ranks n) ≡ constraint_operations w i
  extra_cost n i e =
      subst (λ (o : Option FlatInstance). sum_by cost (key_of w.design w.rules w.phase ranks n o) ≡ constraint_operations w i) (sym e) (by_test (has_lines w.design w.rules w.phase i))
    where
      by_test : (b : Bool) → sum_by cost (cond b (((instance_rank i, 1), n) ∷ []) []) ≡ cond b (instance_operations w i) 0
      by_test true =
          let one = sum_by-cons cost ((instance_rank i, 1), n) [] in
          let own : cost ((instance_rank i, 1), n) ≡ instance_operations w i = instance_step_operations w n i e in
          omega (arith, one, own)
      by_test false = refl

  instances_cost : (n : ℕ) → n ≤ length w.circuit.instances → sum_by cost (instance_keys w.design w.rules w.circuit w.phase ranks n) ≡ sum_by (constraint_operations w) (take n w.circuit.instances)
  instances_cost zero le = refl
  instances_cost (suc n) le =
      let i = at_there w.circuit.instances n (omega (arith, le)) in
      let before = instances_cost n (omega (arith, le)) in
      let own = extra_cost n i.0 i.1 in
      let keys = sum_by-append cost (instance_keys w.design w.rules w.circuit w.phase ranks n) (instance_key w.design w.rules w.circuit w.phase ranks n) in
      let next : n + 1 ≡ suc n = omega arith in
      let all : sum_by (constraint_operations w) (take (suc n) w.circuit.instances) ≡ sum_by (constraint_operations w) (take n w.circuit.instances) + constraint_operations w i.0 =
      subst (λ (m : ℕ). sum_by (constraint_operations w) (take m w.circuit.instances) ≡ sum_by (constraint_operations w) (take n w.circuit.instances) + constraint_operations w i.0) next
      (sum_next (constraint_operations w) w.circuit.instances n i.0 i.1) in
      omega (arith, before, own, keys, all)

  pub keys_cost : (keys : List Key) → AreSorted w.design w.rules w.circuit w.phase w.parts ranks keys → (steps : List CircuitStep) → steps ≡ map step_of_key keys
      → sum_by (step_operations w) steps ≡ circuit_operations w.circuit w.parts + sum_by (constraint_operations w) w.circuit.instances
  keys_cost keys sorted steps are =
      let moved = sum_by-IsPermutation cost (all_keys w.design w.rules w.circuit w.phase w.parts ranks) keys sorted.permutation in
      let both = sum_by-append cost (part_keys w.parts (length w.parts)) (instance_keys w.design w.rules w.circuit w.phase ranks (length w.circuit.instances)) in
      let parts = parts_cost (length w.parts) (omega arith) in
      let instances = instances_cost (length w.circuit.instances) (omega arith) in
      let whole : sum_by (part_operations w.circuit) (take (length w.parts) w.parts) ≡ circuit_operations w.circuit w.parts = ap (λ (xs : List Part). sum_by (part_operations w.circuit) xs) (take-length w.parts) in
      let all : sum_by (constraint_operations w) (take (length w.circuit.instances) w.circuit.instances) ≡ sum_by (constraint_operations w) w.circuit.instances =
      ap (λ (xs : List FlatInstance). sum_by (constraint_operations w) xs) (take-length w.circuit.instances) in
      let made : sum_by (step_operations w) steps ≡ sum_by cost keys = ap (λ (xs : List CircuitStep). sum_by (step_operations w) xs) are ∙ sum_of_map step_of_key (step_operations w) keys in
      omega (arith, moved, both, parts, instances, whole, all, made)

-- so for each comparison with this design, these rules and this circuit
pub steps_work : (k : Comparison) (phase : ℕ) (parts : Parts) (ranks : List ℕ) (keys : List Key) (design : Design) (rules : Rules) (c : Circuit) → k.design ≡ design → k.rules ≡ rules → k.circuit ≡ c
    → AreSorted design rules c phase parts.list ranks keys → (steps : List CircuitStep) → steps ≡ map step_of_key keys → (observed : ℕ → Bool)
    → steps_operations (in_comparison k phase parts steps observed) ≡ circuit_operations k.circuit parts.list + sum_by (constraint_operations (in_comparison k phase parts steps observed)) k.circuit.instances
steps_work k phase parts ranks keys design rules c d r x sorted steps are observed =
    keys_cost (in_comparison k phase parts steps observed) ranks keys
    (subst (λ (y : Design). AreSorted y k.rules k.circuit phase parts.list ranks keys) (sym d)
    (subst (λ (y : Rules). AreSorted design y k.circuit phase parts.list ranks keys) (sym r)
    (subst (λ (y : Circuit). AreSorted design rules y phase parts.list ranks keys) (sym x) sorted)))
    steps are
