-- A function, its two parts at a variable, and the node that joins them.
use Rattle.std.proofs.Common.{ℕ, ◌+◌, ◌<◌, ◌≤◌, Bool, true, false, List, length, sym, ◌∙◌, arith}
use Rattle.node_pool.specs.declared.region.Node.{Node}
use Rattle.bdd_core.specs.Diagram.{with_bit, Function, IsSame, IsSubfunction, meaning, top, IsReduced, choice, bit_of}
use Rattle.bdd_core.proofs.Growth.{IsFrom, sub_same, sub_trans, sub_bit, from_bit, branches_join}
use Rattle.bdd_core.proofs.Steps.{top_from}

-- k is the function where the bit at x is b
abbrev pub IsHalf : Function → ℕ → Bool → Function → Type 0
IsHalf whole x b k = IsSame k (λ v. whole (with_bit v x b))

module _ (vars : ℕ) (whole : Function) (x : ℕ) (from : IsFrom x whole) (x_in : x < vars) where
  pub half_sub : (b : Bool) (k : Function) → IsHalf whole x b k → IsSubfunction k whole
  half_sub b k is = sub_trans k (λ v. whole (with_bit v x b)) whole (sub_same k (λ v. whole (with_bit v x b)) is) (sub_bit whole x b from)

  -- the place of a part tests only later variables
  pub half_later : (b : Bool) (ns : List Node) (p : ℕ) → IsReduced vars ns → p < length ns → IsHalf whole x b (meaning ns p) → x < top ns p
  half_later b ns p sound within is =
      let later : x + 1 ≤ top ns p = top_from vars ns (x + 1) p sound within (omega arith)
      (λ v w same. is v ∙ from_bit whole x b from v w same ∙ sym (is w)) in
      omega arith

-- the join of both parts is the whole
pub join_is : (whole : Function) (x : ℕ) (ns : List Node) (lo hi : ℕ) → IsHalf whole x false (meaning ns lo) → IsHalf whole x true (meaning ns hi) →
    IsSame (choice (bit_of x) (meaning ns hi) (meaning ns lo)) whole
join_is whole x ns lo hi lo_is hi_is v = rw (lo_is v, hi_is v) (branches_join whole x v)
