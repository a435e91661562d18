-- From cycles of arcs, which lead up, to chains, which go down.
use Rattle.std.proofs.Common.{◌≡◌, ◌++◌, ◌∷◌, ◌≤◌, [], ℕ, List, length, Some, refl, ap, sym, ◌∙◌, subst, arith, reverse, inl, inr}
use Rattle.std.proofs.lemmas.Bool.{cases_lt}
use Rattle.std.proofs.lemmas.List.{length-reverse, reverse-append}
use Rattle.graphs.proofs.Walks.{walk_further}
use Rattle.graphs.specs.Graphs.{ArcIn}
use Rattle.nesting.specs.Depths.{in_list}
use Rattle.nesting.specs.First.{IsFirstItself}
use Rattle.vrt_model.specs.Known.{IsCycle, IsFirstCycle, IsWalk}
use Rattle.vrt_model.specs.Lists.{Among}
use Rattle.vrt_model.specs.Nesting.{ContainsItself, IsChainDown, IsRecursion, IsWithin, directly, further}
use Rattle.hierarchy.specs.Chains.{way_down}

module _ (children : ℕ → List ℕ) where
  abbrev Up : ℕ → ℕ → Type 0
  Up from to = Among (children to) from

  -- ---- what stands in itself is on a cycle

  up : (n m : ℕ) → IsWithin children n m → (last : ℕ) × (nodes : List ℕ) × IsWalk Up n nodes last × Up last m
  up n m (directly a) = (n, [], refl, a)
  up n m (further {l} a w) = let r = up n l w in (l, r.1 ++ l ∷ [], walk_further Up r.1 n r.0 l r.2 r.3, a)

  pub around : (n : ℕ) → ContainsItself children n → (others : List ℕ) × IsCycle Up (n ∷ others)
  around n self = let r = up n n self in (r.1, (r.0, r.2, r.3))

  -- ---- what is on a cycle stands in itself

  within : (n last m : ℕ) (nodes : List ℕ) → IsWalk Up n nodes last → Up last m → IsWithin children n m
  within n last m [] e arc = directly (subst (λ k. Among (children m) k) (sym e) arc)
  within n last m (k ∷ nodes) walk arc = trans n k m walk.0 (within k last m nodes walk.1 arc) where
    trans : (n k m : ℕ) → Up n k → IsWithin children k m → IsWithin children n m
    trans n k m arc (directly a) = further a (directly arc)
    trans n k m arc (further {l} a w) = further a (trans n k l arc w)

  pub itself : (n : ℕ) (others : List ℕ) → IsCycle Up (n ∷ others) → ContainsItself children n
  itself n others cycle = within n cycle.0 n others cycle.1 cycle.2

  -- ---- chains

  chain_more : (chain : List ℕ) (a b c : ℕ) → IsChainDown children a chain b → Among (children b) c → IsChainDown children a (chain ++ c ∷ []) c
  chain_more [] a b c h arc = absurd h
  chain_more (m ∷ []) a b c h arc = (h.0, subst (λ k. Among (children k) c) (sym h.1) arc, (refl, refl))
  chain_more (m ∷ next ∷ chain) a b c h arc = (h.0, h.1, chain_more (next ∷ chain) next b c h.2 arc)

  -- a walk up, read backwards
  down : (nodes : List ℕ) (n last : ℕ) → IsWalk Up n nodes last → IsChainDown children last (reverse (n ∷ nodes)) n
  down [] n last e = (sym e, refl)
  down (m ∷ nodes) n last walk =
      subst (λ xs. IsChainDown children last xs n) (sym (reverse-append (n ∷ []) (m ∷ nodes)))
      (chain_more (reverse (m ∷ nodes)) last m n (down nodes m last walk.1) walk.0)

  front : (chain : List ℕ) (n m last : ℕ) → IsChainDown children m chain last → Among (children n) m → IsChainDown children n (n ∷ chain) last
  front [] n m last h arc = absurd h
  front (k ∷ []) n m last h arc = (refl, subst (λ j. Among (children n) j) h.0 arc, (refl, h.1))
  front (k ∷ next ∷ chain) n m last h arc = (refl, subst (λ j. Among (children n) j) h.0 arc, (refl, h.1, h.2))

  recursion : (n : ℕ) (others : List ℕ) → IsCycle Up (n ∷ others) → IsRecursion children n (way_down (n ∷ others))
  recursion n others cycle = (
    front (reverse (n ∷ others)) n cycle.0 n (down others n cycle.0 cycle.1) cycle.2,
    omega (arith, length-reverse (n ∷ others)),
  )

  -- the least on a cycle is the first that contains itself
  least : (count n m : ℕ) (others : List ℕ) → IsFirstItself children count (Some n) → IsFirstCycle Up (m ∷ others) → m ≡ n
  least count n m others first cycle =
      let low : m ≤ n = let a = around n first.1 in cycle.1 n a.0 a.1 in
      elim (cases_lt m n) [
        | inl lt ↦ absurd (first.2 m lt (itself m others cycle.0))
        | inr ge ↦ omega (arith, low, ge)
      ]

  pub recursion_is : (count n : ℕ) (nodes chain : List ℕ) → IsFirstItself children count (Some n) → IsFirstCycle Up nodes → chain ≡ way_down nodes → IsRecursion children n chain
  recursion_is count n [] chain first cycle e = absurd cycle.0
  recursion_is count n (m ∷ others) chain first cycle e =
      subst (λ xs. IsRecursion children n xs) (sym e)
      (subst (λ k. IsRecursion children k (way_down (m ∷ others))) (least count n m others first cycle) (recursion m others cycle.0))

-- ---- the first cycle of lists, as it is told

pub chain_told : (inner sources : List (List ℕ)) (n : ℕ) (nodes given chain : List ℕ) → sources ≡ inner → IsFirstItself (in_list inner) (length inner) (Some n) → IsFirstCycle (ArcIn sources) nodes
    → given ≡ nodes → chain ≡ way_down given → IsRecursion (in_list inner) n chain
chain_told inner sources n nodes given chain same first cycle is e =
    recursion_is (in_list inner) (length inner) n nodes chain first (subst (λ (xs : List (List ℕ)). IsFirstCycle (ArcIn xs) nodes) same cycle) (e ∙ ap way_down is)

pub none_around : (inner sources : List (List ℕ)) (n : ℕ) → sources ≡ inner → IsFirstItself (in_list inner) (length inner) (Some n) → ((nodes : List ℕ) → ¬ IsCycle (ArcIn sources) nodes) → ⊥
none_around inner sources n same first none =
    let a = around (in_list inner) n first.1 in
    none (n ∷ a.0) (subst (λ (xs : List (List ℕ)). IsCycle (ArcIn xs) (n ∷ a.0)) (sym same) a.1)
