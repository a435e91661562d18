-- The first that contains itself, and the first that is too deep.
use Rattle.std.proofs.Common.{◌≡◌, ◌<◌, ℕ, List, length, get_or, Option, Some, None, ap, ◌∙◌, subst, arith}
use Rattle.vrt_model.specs.Nesting.{depth_in}
use Rattle.nesting.specs.Depths.{AreDepths, in_list}
use Rattle.nesting.specs.First.{AreFounded, AreWithin, IsDepthFault, IsFirstAbove, IsFirstDeep, IsFirstFault}
use Rattle.nesting.specs.declared.first.NestingFault.{NestingFault}
use Rattle.nesting.specs.declared.first.NestingFault.TheVariants.{Recursion, Depth}

pub depth_none : (inner : List (List ℕ)) (limit : ℕ) (depths given : List ℕ) → AreDepths inner (length inner) depths → given ≡ depths → IsFirstAbove given limit None
    → AreWithin (in_list inner) (length inner) limit
depth_none inner limit depths given are same none n lt =
    let low : IsFirstAbove depths limit None = subst (λ (ds : List ℕ). IsFirstAbove ds limit None) same none in
    omega (arith, low n (omega (arith, lt, are.count)), are.each n lt)

pub depth_first : (inner : List (List ℕ)) (limit : ℕ) (depths given : List ℕ) (n depth : ℕ) → AreDepths inner (length inner) depths → given ≡ depths → IsFirstAbove given limit (Some n)
    → depth ≡ get_or given n 0 → IsFirstDeep (in_list inner) (length inner) limit n × (depth ≡ depth_in (in_list inner) (length inner) n)
depth_first inner limit depths given n depth are same some d =
    let at : IsFirstAbove depths limit (Some n) = subst (λ (ds : List ℕ). IsFirstAbove ds limit (Some n)) same some in
    let lt : n < length inner = omega (arith, at.0, are.count) in (
      record {
        there = lt;
        deep = omega (arith, at.1, are.each n lt);
        first = λ k before. omega (arith, at.2 k before, are.each k (omega (arith, before, lt)));
      },
      d ∙ ap (λ (xs : List ℕ). get_or xs n 0) same ∙ are.each n lt,
    )

-- where none contains itself, the fault of depth is the fault
pub nesting_told : (children : ℕ → List ℕ) (count limit : ℕ) (fault : Option NestingFault) → AreFounded children count → IsDepthFault children count limit fault → IsFirstFault children count limit fault
nesting_told children count limit None founded within = record { founded = founded; within = within }
nesting_told children count limit (Some (Recursion n)) founded none = absurd none
nesting_told children count limit (Some (Depth n depth)) founded deep = (founded, deep.0, deep.1)
