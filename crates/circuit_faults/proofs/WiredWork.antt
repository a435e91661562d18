-- The operations of the outputs of whole instances at a net, from the last on: the model of each instance is evaluated once.
use Rattle.std.proofs.Common.{◌≡◌, ℕ, zero, suc, ◌+◌, ◌≤◌, Bool, true, cond, List, [], ◌∷◌, Option, None, Some, Result, arith, ap, inl, inr}
use Rattle.std.specs.Prelude.{◌==◌, drop, sum_by}
use Rattle.std.specs.List.{list_any}
use Rattle.std.proofs.lemmas.Bool.{cases_eq, eq-eqb, ne_eqb}
use Rattle.std.proofs.lemmas.List.Sums.{sum_by-cons}
use Rattle.node_pool.specs.declared.region.Span.{Span}
use Rattle.bdd_core.proofs.Results.{if_ok_more}
use Rattle.bdd_core.specs.Store.{Diagrams}
use Rattle.bdd_core.specs.declared.handle.Spent.{Spent}
use Rattle.bdd_ops.specs.Counting.{IsSpanWithin}
use Rattle.circuit_faults.specs.Operations.{instance_evaluation, net_operations}
use Rattle.circuit_faults.specs.Wholes.{SpendsWired}
use Rattle.path_fixpoint.specs.Spending.{Spends}
use Rattle.vrt_model.proofs.Lists.{drop_one}
use Rattle.vrt_model.proofs.Members.{among_any}
use Rattle.vrt_model.specs.Lists.{At, Among}
use Rattle.vrt_model.specs.declared.circuit.Circuit.{Circuit}
use Rattle.vrt_model.specs.declared.whole.Whole.{Whole}
use Rattle.vrt_model.specs.declared.whole.WholePin.{WholePin}
use Rattle.whole_steps.specs.Evaluations.{evaluation_operations, output_operations}

-- what is said of both spans says it of the first
pub wired_gates : {A : Type 0} (u : ℕ) (gates roots : Span) (operations : ℕ) (old new : Diagrams) (r : Result A Spent) → SpendsWired u operations gates roots old new r → Spends u operations gates old new r
wired_gates u gates roots operations old new r s = record {
  counts = s.counts;
  within = if_ok_more (λ _. IsSpanWithin u new gates × IsSpanWithin u new roots) (λ _. IsSpanWithin u new gates) r (λ _ both. both.0) s.within;
}

-- ---- the outputs at a net

-- of the instances from a number on, none where there is no number
abbrev pub work_from : Circuit → ℕ → Option ℕ → ℕ
work_from c n None = 0
work_from c n (Some number) = sum_by (instance_evaluation n) (drop number c.wholes)

-- an instance is not behind another
abbrev pub IsUpTo : Option ℕ → ℕ → Type 0
IsUpTo None number = Unit {0}
IsUpTo (Some last) number = number ≤ last

drop_less : {X : Type 0} (f : X → ℕ) (xs : List X) (i : ℕ) → sum_by f (drop i xs) ≤ sum_by f xs
drop_less f xs zero = omega arith
drop_less f [] (suc i) = omega arith
drop_less f (x ∷ xs) (suc i) = let rest = drop_less f xs i in let all = sum_by-cons f x xs in omega (arith, rest, all)

drop_shorter : {X : Type 0} (f : X → ℕ) (xs : List X) (i j : ℕ) → i ≤ j → sum_by f (drop j xs) ≤ sum_by f (drop i xs)
drop_shorter f xs zero j le = drop_less f xs j
drop_shorter f xs (suc i) zero le = absurd (omega (arith, le))
drop_shorter f [] (suc i) (suc j) le = omega arith
drop_shorter f (x ∷ xs) (suc i) (suc j) le = drop_shorter f xs i j (omega (arith, le))

pub work_all : (c : Circuit) (n : ℕ) (last : Option ℕ) → work_from c n last ≤ net_operations c n
work_all c n None = omega arith
work_all c n (Some number) = drop_less (instance_evaluation n) c.wholes number

-- an instance with an output at the net, and those behind it
own_work : (c : Circuit) (n number : ℕ) (w : Whole) (pin : WholePin) → At c.wholes number w → Among w.outputs pin → pin.net.0 ≡ n
    → work_from c n (Some number) ≡ evaluation_operations w + work_from c n (Some (number + 1))
own_work c n number w pin here on net =
    let some : list_any (λ (p : WholePin). p.net.0 == n) w.outputs ≡ true = among_any (λ (p : WholePin). p.net.0 == n) w.outputs pin on (eq-eqb pin.net.0 n net) in
    let own : instance_evaluation n w ≡ evaluation_operations w = ap {B = ℕ} (λ (b : Bool). cond b (evaluation_operations w) 0) some in
    let parted = ap (sum_by (instance_evaluation n)) (drop_one c.wholes number w here) in
    let sums = sum_by-cons (instance_evaluation n) w (drop (number + 1) c.wholes) in
    omega (arith, own, parted, sums)

-- one output more: its model is evaluated, or it was
pub work_next : (c : Circuit) (n number : ℕ) (last : Option ℕ) (w : Whole) (pin : WholePin) → At c.wholes number w → Among w.outputs pin → pin.net.0 ≡ n → IsUpTo last number
    → work_from c n last + output_operations last number w ≤ work_from c n (Some number)
work_next c n number None w pin here on net up = let own = own_work c n number w pin here on net in omega (arith, own)
work_next c n number (Some last) w pin here on net up = elim (cases_eq last number) [
  | inl same ↦
      let none : output_operations (Some last) number w ≡ 0 = ap {B = ℕ} (λ (b : Bool). cond b 0 (evaluation_operations w)) (eq-eqb last number same) in
      let as_it_is = ap (λ (k : ℕ). work_from c n (Some k)) same in
      omega (arith, none, as_it_is)
  | inr ne ↦
      let all : output_operations (Some last) number w ≡ evaluation_operations w = ap {B = ℕ} (λ (b : Bool). cond b 0 (evaluation_operations w)) (ne_eqb last number ne) in
      let own = own_work c n number w pin here on net in
      let less = drop_shorter (instance_evaluation n) c.wholes (number + 1) last (omega (arith, up, ne)) in
      omega (arith, all, own, less)
]
