-- Chains of arcs that lead to a number, as what stands in it where each has the numbers from which arcs lead to it.
use Rattle.std.proofs.Common.{ℕ, ◌∷◌, [], Bool, List, refl, subst, sym}
use Rattle.graphs.specs.Graphs.{ArcIn, sources_at}
use Rattle.nesting.proofs.ReachedLaws.{deeper}
use Rattle.nesting.specs.Reached.{AreWithin}
use Rattle.port_links.specs.Reached.{AreReaching}
use Rattle.vrt_model.specs.Known.{IsWalk}
use Rattle.vrt_model.specs.Nesting.{IsWithin, directly, further}
use Rattle.vrt_model.specs.WholeInstances.{IsChain}

module _ (sources : List (List ℕ)) where
  walk_on : (nodes : List ℕ) (n m to : ℕ) → IsWalk (ArcIn sources) n nodes m → ArcIn sources m to → (more : List ℕ) × IsWalk (ArcIn sources) n more to
  walk_on [] n m to same arc = (to ∷ [], (subst (λ (k : ℕ). ArcIn sources k to) (sym same) arc, refl))
  walk_on (l ∷ nodes) n m to walk arc = let rest = walk_on nodes l m to walk.1 arc in (l ∷ rest.0, (walk.0, rest.1))

  chain_down : (n to : ℕ) → IsWithin (sources_at sources) n to → IsChain (ArcIn sources) n to
  chain_down n to (directly a) = (to, [], a, refl)
  chain_down n to (further {l} b w) =
      let chain = chain_down n l w in
      let more = walk_on chain.1 chain.0 l to chain.3 b in
      (chain.0, more.0, chain.2, more.1)

  within_by : (nodes : List ℕ) (n m to : ℕ) → ArcIn sources n m → IsWalk (ArcIn sources) m nodes to → IsWithin (sources_at sources) n to
  within_by [] n m to arc same = directly (subst (λ (k : ℕ). ArcIn sources n k) same arc)
  within_by (l ∷ nodes) n m to arc walk = deeper (sources_at sources) n m to arc (within_by nodes m l to walk.0 walk.1)

  -- the marks at what stands in a number are at the numbers from which chains lead to it
  pub reaching_by : (to : ℕ) (marks : List Bool) → AreWithin (sources_at sources) to marks → AreReaching sources to marks
  reaching_by to marks are n = (λ e. chain_down n to ((are n).0 e), λ chain. (are n).1 (within_by chain.1 n chain.0 to chain.2 chain.3))
