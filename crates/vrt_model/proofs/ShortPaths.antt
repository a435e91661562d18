-- A path has fewer devices than there are nets.
use Rattle.std.proofs.Common.{◌≡◌, ℕ, suc, ◌<◌, true, false, List, [], ◌∷◌, length, eqb, arith, sym, subst, refl, inl, inr}
use Rattle.std.proofs.lemmas.Bool.{ne_eqb, eqb-true, or_cases}
use Rattle.std.proofs.lemmas.Map.Keys.{IsDistinct-cons}
use Rattle.std.proofs.lemmas.Map.Steps.{length-le_from_distinct_below}
use Rattle.std.specs.List.{IsDistinct, list_any, AllByRecursion}
use Rattle.vrt_model.specs.Path.{Network, Root, Hop, IsPath, Avoids, end_of}
use Rattle.vrt_model.specs.Networks.{HasBound}

-- the nets of a path, the last first
abbrev pub nets_of : Root → List Hop → List ℕ
nets_of root [] = root.net ∷ []
nets_of root (hop ∷ hops) = hop.to ∷ nets_of root hops

pub length-nets_of : (root : Root) (hops : List Hop) → length (nets_of root hops) ≡ suc (length hops)
length-nets_of root [] = refl
length-nets_of root (hop ∷ hops) = let h = length-nets_of root hops in omega arith

pub avoids-all : (root : Root) (hops : List Hop) (n : ℕ) → Avoids root hops n → AllByRecursion (λ y. eqb n y ≡ false) (nets_of root hops)
avoids-all root [] n a = (ne_eqb n root.net (λ e. a (sym e)), tt)
avoids-all root (hop ∷ hops) n a = (ne_eqb n hop.to (λ e. a.0 (sym e)), avoids-all root hops n a.1)

-- no net stands twice on a path
pub path-distinct : (w : Network) (root : Root) (hops : List Hop) → IsPath w root hops → IsDistinct eqb (nets_of root hops)
unfolding IsDistinct
path-distinct w root [] p = IsDistinct-cons eqb root.net [] tt tt
path-distinct w root (hop ∷ hops) p = IsDistinct-cons eqb hop.to (nets_of root hops) (avoids-all root hops hop.to p.3) (path-distinct w root hops p.0)

module _ (w : Network) (bound : ℕ) (bounded : HasBound w bound) where
  pub nets_below : (root : Root) (hops : List Hop) → IsPath w root hops → (q : ℕ) → list_any (eqb q) (nets_of root hops) ≡ true → q < bound
  nets_below root [] p q e = elim (or_cases (eqb q root.net) false e) [ inl t ↦ subst (λ (x : ℕ). x < bound) (sym (eqb-true q root.net t)) (bounded.roots root p) | inr f ↦ absurd (cc f) ]
  nets_below root (hop ∷ hops) p q e =
      elim (or_cases (eqb q hop.to) (list_any (eqb q) (nets_of root hops)) e) [
        | inl t ↦ subst (λ (x : ℕ). x < bound) (sym (eqb-true q hop.to t)) (bounded.hops (end_of root hops) hop.to hop.device p.1 p.2)
        | inr t ↦ nets_below root hops p.0 q t
      ]

  pub path_short : (root : Root) (hops : List Hop) → IsPath w root hops → length hops < bound
  path_short root hops p =
      let h = length-le_from_distinct_below (nets_of root hops) bound (path-distinct w root hops p) (nets_below root hops p) in
      let k = length-nets_of root hops in
      omega arith
