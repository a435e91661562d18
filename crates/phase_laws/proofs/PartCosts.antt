-- How many operations all parts of the bare or of the kept circuit take.
use Rattle.std.proofs.Common.{◌≡◌, ℕ, suc, ◌+◌, ◌*◌, ◌≤◌, Bool, true, false, cond, List, [], ◌∷◌, length, arith, ap, refl, subst, sym, ◌∙◌, inl, inr}
use Rattle.std.specs.Prelude.{◌==◌, sum_by}
use Rattle.std.specs.List.{list_any}
use Rattle.std.proofs.Math.Nat.{add-mul, mul-add, mul_assoc, mul_comm, mul-le-mul_left, mul-le-mul_right}
use Rattle.std.proofs.lemmas.Bool.{cases_Bool, eqb-true}
use Rattle.std.proofs.lemmas.List.{length-map}
use Rattle.std.proofs.lemmas.List.Sums.{sum_by-cons}
use Rattle.circuit_faults.specs.Operations.{circuit_operations, instance_evaluation, net_operations, outputs_operations}
use Rattle.channel_parts.specs.PartLists.{AreParts}
use Rattle.channel_parts.specs.declared.part.Part.{Part}
use Rattle.channel_parts.specs.declared.part.Parts.{Parts}
use Rattle.output_levels.specs.PartLevels.{level_operations}
use Rattle.path_fixpoint.specs.Parts.{has_net, pins_at, pins_of}
use Rattle.path_fixpoint.specs.Spending.{solving_operations}
use Rattle.phase_laws.proofs.PartSums.{device_count, devices_few, net_count, nets_few, nets_of, one_part, part_room}
use Rattle.phase_laws.specs.Sums.{wholes_size}
use Rattle.vrt_model.proofs.Lists.{map_among}
use Rattle.vrt_model.proofs.Members.{among_later, any_among}
use Rattle.vrt_model.proofs.Sums.{sum_same}
use Rattle.vrt_model.specs.Budget.{model_size}
use Rattle.vrt_model.specs.Levels.{source_level}
use Rattle.vrt_model.specs.Lists.{At, Among}
use Rattle.vrt_model.specs.declared.circuit.Circuit.{Circuit}
use Rattle.vrt_model.specs.declared.ids.Dev.{Dev}
use Rattle.vrt_model.specs.declared.ids.Net.{Net}
use Rattle.vrt_model.specs.declared.rules.Phase.{Phase}
use Rattle.vrt_model.specs.declared.whole.Whole.{Whole}
use Rattle.vrt_model.specs.declared.whole.WholePin.{WholePin}
use Rattle.whole_steps.specs.Evaluations.{evaluation_operations}

-- ---- sums

-- of a sum with factors
sum_linear : {X : Type 0} (a b e : ℕ) (f g h : X → ℕ) (xs : List X) → sum_by (λ x. a * f x + b * g x + e * h x) xs ≡ a * sum_by f xs + b * sum_by g xs + e * sum_by h xs
sum_linear a b e f g h [] = omega arith
sum_linear {X} a b e f g h (x ∷ xs) =
    let rest = sum_linear a b e f g h xs in
    let all = sum_by-cons (λ (y : X). a * f y + b * g y + e * h y) x xs in
    let first = ap (λ (n : ℕ). a * n) (sum_by-cons f x xs) ∙ mul-add a (f x) (sum_by f xs) in
    let second = ap (λ (n : ℕ). b * n) (sum_by-cons g x xs) ∙ mul-add b (g x) (sum_by g xs) in
    let third = ap (λ (n : ℕ). e * n) (sum_by-cons h x xs) ∙ mul-add e (h x) (sum_by h xs) in
    omega (arith, rest, all, first, second, third)

sum_of_two : {X : Type 0} (f g : X → ℕ) (xs : List X) → sum_by (λ x. f x + g x) xs ≡ sum_by f xs + sum_by g xs
sum_of_two f g [] = refl
sum_of_two {X} f g (x ∷ xs) =
    let rest = sum_of_two f g xs in
    let all = sum_by-cons (λ (y : X). f y + g y) x xs in
    let left = sum_by-cons f x xs in
    let right = sum_by-cons g x xs in
    omega (arith, rest, all, left, right)

-- of items that are each at most so much
sum_at_most : {X : Type 0} (f : X → ℕ) (most : ℕ) (xs : List X) → ((x : X) → f x ≤ most) → sum_by f xs ≤ length xs * most
sum_at_most f most [] each = omega arith
sum_at_most f most (x ∷ xs) each =
    let rest = sum_at_most f most xs each in
    let all = sum_by-cons f x xs in
    let own = each x in
    let product : (length xs + 1) * most ≡ length xs * most + 1 * most = add-mul (length xs) 1 most in
    let size : length (x ∷ xs) * most ≡ (length xs + 1) * most = ap (λ (n : ℕ). n * most) (omega arith) in
    omega (arith, rest, all, own, product, size)

-- of items that are each at most those of another sum
sum_less : {X : Type 0} (f g : X → ℕ) (xs : List X) → ((x : X) → f x ≤ g x) → sum_by f xs ≤ sum_by g xs
sum_less f g [] each = omega arith
sum_less f g (x ∷ xs) each =
    let rest = sum_less f g xs each in
    let left = sum_by-cons f x xs in
    let right = sum_by-cons g x xs in
    let own = each x in
    omega (arith, rest, left, right, own)

-- ---- at most one item passes a test

none_pass : {X : Type 0} (test : X → Bool) (xs : List X) → ((x : X) → Among xs x → test x ≡ true → ⊥) → sum_by (λ x. cond (test x) 1 0) xs ≡ 0
none_pass test [] none = refl
none_pass {X} test (x ∷ xs) none =
    let rest = none_pass test xs (λ y m. none y (among_later x xs y m)) in
    let all = sum_by-cons (λ (y : X). cond {A = ℕ} (test y) 1 0) x xs in
    elim (cases_Bool (test x)) [
      | inl passes ↦ absurd (none x (0, refl) passes)
      | inr fails ↦ (let own = ap {B = ℕ} (λ (b : Bool). cond b 1 0) fails in omega (arith, rest, all, own))
    ]

one_passes : {X : Type 0} (test : X → Bool) (xs : List X) → ((i j : ℕ) (x y : X) → At xs i x → At xs j y → test x ≡ true → test y ≡ true → i ≡ j) → sum_by (λ x. cond (test x) 1 0) xs ≤ 1
one_passes test [] one = omega arith
one_passes {X} test (x ∷ xs) one =
    let all = sum_by-cons (λ (y : X). cond {A = ℕ} (test y) 1 0) x xs in
    elim (cases_Bool (test x)) [
      | inl passes ↦
          let own = ap {B = ℕ} (λ (b : Bool). cond b 1 0) passes in
          let others = none_pass test xs (λ y m too. let same : 0 ≡ suc m.0 = one 0 (suc m.0) x y refl m.1 passes too in omega (arith, same)) in
          omega (arith, all, own, others)
      | inr fails ↦
          let own = ap {B = ℕ} (λ (b : Bool). cond b 1 0) fails in
          let rest = one_passes test xs (λ i j y z at_y at_z a b. let same : suc i ≡ suc j = one (suc i) (suc j) y z at_y at_z a b in omega (arith, same)) in
          omega (arith, all, own, rest)
    ]

-- ---- a part

abbrev nets_in : Part → ℕ
nets_in part = length part.nets

abbrev devices_of : Part → ℕ
devices_of part = length part.devices

abbrev product_of : Part → ℕ
product_of part = length part.nets * length part.devices

-- a net of a part has its number there
net_there : (part : Part) (n : ℕ) → has_net part n ≡ true → Among (nets_of part) n
net_there part n has =
    let found = any_among (λ (net : Net). net.0 == n) part.nets has in
    let here = map_among (λ (net : Net). net.0) part.nets found.0 found.1 in
    subst (Among (nets_of part)) (eqb-true found.0.0 n found.2) here

-- ---- all parts

module _ (c : Circuit) (phase : Phase) (which : Bool) (rank : ℕ → ℕ) (parts : Parts) (are : AreParts c phase which rank parts) where
  abbrev n : ℕ
  n = length c.nets

  abbrev d : ℕ
  d = length c.devices

  all_nets : sum_by nets_in parts.list ≤ n
  all_nets =
      let same = sum_same nets_in net_count (λ (part : Part). sym (length-map part.nets (λ (net : Net). net.0))) parts.list in
      let few = nets_few c phase which rank parts are in
      omega (arith, same, few)

  all_devices : sum_by devices_of parts.list ≤ d
  all_devices =
      let same = sum_same devices_of device_count (λ (part : Part). sym (length-map part.devices (λ (device : Dev). device.0))) parts.list in
      let few = devices_few c phase which rank parts are in
      omega (arith, same, few)

  -- nets times devices
  products : (xs : List Part) → ((part : Part) → Among xs part → Among parts.list part) → sum_by product_of xs ≤ n * sum_by devices_of xs
  products [] inside = omega arith
  products (part ∷ xs) inside =
      let rest = products xs (λ q m. inside q (among_later part xs q m)) in
      let all = sum_by-cons product_of part xs in
      let own : product_of part ≤ n * devices_of part = mul-le-mul_right {m = nets_in part} {n = n} (devices_of part) (part_room c phase which rank parts are part (inside part (0, refl))) in
      let sums = ap (λ (k : ℕ). n * k) (sum_by-cons devices_of part xs) ∙ mul-add n (devices_of part) (sum_by devices_of xs) in
      omega (arith, rest, all, own, sums)

  all_products : sum_by product_of parts.list ≤ n * d
  all_products =
      let first = products parts.list (λ part m. m) in
      let second : n * sum_by devices_of parts.list ≤ n * d = mul-le-mul_left {m = sum_by devices_of parts.list} {n = d} n all_devices in
      omega (arith, first, second)

  -- an output stands on one part at most
  on_one : (pin : WholePin) → sum_by (λ (part : Part). cond (has_net part pin.net.0) 1 0) parts.list ≤ 1
  on_one pin =
      one_passes (λ (part : Part). has_net part pin.net.0) parts.list
      (λ i j p q at_p at_q in_p in_q. one_part c phase which rank parts are i j p q pin.net.0 at_p at_q (net_there p pin.net.0 in_p) (net_there q pin.net.0 in_q))

  pins_on : (pins : List WholePin) → sum_by (λ (part : Part). pins_at part pins) parts.list ≤ length pins
  pins_on [] = (let none = sum_at_most (λ (part : Part). pins_at part []) 0 parts.list (λ part. omega arith) in omega (arith, none))
  pins_on (pin ∷ pins) =
      let rest = pins_on pins in
      let own = on_one pin in
      let each = sum_same (λ (part : Part). pins_at part (pin ∷ pins)) (λ (part : Part). cond (has_net part pin.net.0) 1 0 + pins_at part pins)
      (λ part. sum_by-cons (λ (x : WholePin). cond {A = ℕ} (has_net part x.net.0) 1 0) pin pins) parts.list in
      let both = sum_of_two (λ (part : Part). cond {A = ℕ} (has_net part pin.net.0) 1 0) (λ (part : Part). pins_at part pins) parts.list in
      omega (arith, rest, own, each, both)

  all_pins : sum_by (λ (part : Part). pins_at part (pins_of c)) parts.list ≤ length (pins_of c)
  all_pins = pins_on (pins_of c)

  -- ---- operations

  abbrev factor : ℕ
  factor = 12 * source_level c + 12

  -- to solve all of them
  pub solved_few : sum_by (solving_operations c) parts.list ≤ factor * (n * d) + 12 * n + 6 * length (pins_of c)
  solved_few =
      let sums = sum_linear factor 12 6 product_of nets_in (λ (part : Part). pins_at part (pins_of c)) parts.list in
      let product : factor * sum_by product_of parts.list ≤ factor * (n * d) = mul-le-mul_left {m = sum_by product_of parts.list} {n = n * d} factor all_products in
      let nets = all_nets in
      let pins = all_pins in
      omega (arith, sums, product, nets, pins)

  -- for their levels
  pub levels_few : sum_by (level_operations c) parts.list ≤ 4 * source_level c * (n * d) + (source_level c + 1) * n
  levels_few =
      let l = source_level c in
      let each = sum_same (level_operations c) (λ (part : Part). 4 * l * product_of part + (l + 1) * nets_in part + 0 * nets_in part) (λ part. one l (nets_in part) (devices_of part)) parts.list in
      let sums = sum_linear (4 * l) (l + 1) 0 product_of nets_in nets_in parts.list in
      let product : 4 * l * sum_by product_of parts.list ≤ 4 * l * (n * d) = mul-le-mul_left {m = sum_by product_of parts.list} {n = n * d} (4 * l) all_products in
      let nets : (l + 1) * sum_by nets_in parts.list ≤ (l + 1) * n = mul-le-mul_left {m = sum_by nets_in parts.list} {n = n} (l + 1) all_nets in
      omega (arith, each, sums, product, nets)
    where
      one : (l p q : ℕ) → l * (p * (q * 4)) + (l + 1) * p ≡ 4 * l * (p * q) + (l + 1) * p + 0 * p
      one l p q =
          let inner : p * (q * 4) ≡ p * q * 4 = sym (mul_assoc p q 4) in
          let outer : l * (p * (q * 4)) ≡ l * (p * q * 4) = ap (λ (k : ℕ). l * k) inner in
          let turned : l * (p * q * 4) ≡ l * (4 * (p * q)) = ap (λ (k : ℕ). l * k) (mul_comm (p * q) 4) in
          let grouped : l * (4 * (p * q)) ≡ l * 4 * (p * q) = sym (mul_assoc l 4 (p * q)) in
          let front : l * 4 * (p * q) ≡ 4 * l * (p * q) = ap (λ (k : ℕ). k * (p * q)) (mul_comm l 4) in
          omega (arith, outer, turned, grouped, front)

  -- the outputs at a net
  net_most : (k : ℕ) → net_operations c k ≤ 2 * wholes_size c
  net_most k =
      let less = sum_less (instance_evaluation k) evaluation_operations c.wholes (λ w. by_bit w (instance_test k w)) in
      let each = sum_same evaluation_operations (λ (w : Whole). 2 * model_size w.model + 0 * 0 + 0 * 0) (λ w. omega arith) c.wholes in
      let sums = sum_linear 2 0 0 (λ (w : Whole). model_size w.model) (λ (w : Whole). 0) (λ (w : Whole). 0) c.wholes in
      omega (arith, less, each, sums)
    where
      instance_test : ℕ → Whole → Bool
      instance_test k w = list_any (λ (p : WholePin). p.net.0 == k) w.outputs

      by_bit : (w : Whole) (b : Bool) → cond b (evaluation_operations w) 0 ≤ evaluation_operations w
      by_bit w true = omega arith
      by_bit w false = omega arith

  pub outputs_few : sum_by (outputs_operations c) parts.list ≤ n * (2 * wholes_size c)
  outputs_few =
      let most = 2 * wholes_size c in
      let each = sum_less (outputs_operations c) (λ (part : Part). most * nets_in part + 0 * 0 + 0 * 0) parts.list
      (λ part. let few = sum_at_most (λ (net : Net). net_operations c net.0) most part.nets (λ net. net_most net.0) in let turned = mul_comm (nets_in part) most in omega (arith, few, turned)) in
      let sums = sum_linear most 0 0 nets_in (λ (part : Part). 0) (λ (part : Part). 0) parts.list in
      let product : most * sum_by nets_in parts.list ≤ most * n = mul-le-mul_left {m = sum_by nets_in parts.list} {n = n} most all_nets in
      let turned = mul_comm most n in
      omega (arith, each, sums, product, turned)

  -- all parts of the bare circuit, with their outputs
  pub circuit_few : circuit_operations c parts.list ≤ n * (2 * wholes_size c) + (factor * (n * d) + 16 * n + 6 * length (pins_of c))
  circuit_few =
      let parted = sum_of_two (outputs_operations c) (λ (part : Part). solving_operations c part + 4 * nets_in part) parts.list in
      let again = sum_of_two (solving_operations c) (λ (part : Part). 4 * nets_in part) parts.list in
      let four = sum_same (λ (part : Part). 4 * nets_in part) (λ (part : Part). 4 * nets_in part + 0 * 0 + 0 * 0) (λ part. omega arith) parts.list in
      let sums = sum_linear 4 0 0 nets_in (λ (part : Part). 0) (λ (part : Part). 0) parts.list in
      let nets = all_nets in
      let solved = solved_few in
      let outputs = outputs_few in
      omega (arith, parted, again, four, sums, nets, solved, outputs)
