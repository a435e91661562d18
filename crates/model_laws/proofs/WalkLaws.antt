-- A walk is a path that may pass a net twice. It can be shortened to a path from the same root to the same end, which is
-- no weaker.
use Rattle.std.proofs.Common.{ℕ, ◌⊎◌, List, [], ◌∷◌, arith, sym, subst, refl, inl, inr}
use Rattle.std.proofs.lemmas.Bool.{cases_eq}
use Rattle.model_laws.specs.Walks.{IsDeviceWalk, PathTo}
use Rattle.vrt_model.specs.Path.{Network, Root, Hop, Joins, IsPath, Avoids, end_of, level_of}

-- a path is a walk
pub path_walk : (w : Network) (root : Root) (hops : List Hop) → IsPath w root hops → IsDeviceWalk w root hops
path_walk w root [] p = p
path_walk w root (hop ∷ hops) p = (path_walk w root hops p.0, p.1, p.2)

-- a path that passes n has a prefix that ends there, which is no weaker
pub prefix_or_avoids : (w : Network) (root : Root) (hops : List Hop) (n : ℕ) → IsPath w root hops → PathTo w root n (level_of root hops) ⊎ Avoids root hops n
prefix_or_avoids w root [] n p =
    elim (cases_eq root.net n) [ inl e ↦ inl (record { hops = []; path = p; ends = e; level = omega arith }) | inr h ↦ inr h ]
prefix_or_avoids w root (hop ∷ hops) n p =
    elim (cases_eq hop.to n) [
      | inl e ↦ inl (record { hops = hop ∷ hops; path = p; ends = e; level = omega arith })
      | inr h ↦ elim (prefix_or_avoids w root hops n p.0) [ inl q ↦ inl (weaker q) | inr a ↦ inr (h, a) ]
    ]
  where
    weaker : PathTo w root n (level_of root hops) → PathTo w root n (level_of root (hop ∷ hops))
    weaker q = record { hops = q.hops; path = q.path; ends = q.ends; level = (let le = q.level in omega (arith, le)) }

-- a walk can be shortened to a path that is no weaker
pub walk_shortened : (w : Network) (root : Root) (hops : List Hop) → IsDeviceWalk w root hops → PathTo w root (end_of root hops) (level_of root hops)
walk_shortened w root [] p = record { hops = []; path = p; ends = refl; level = omega arith }
walk_shortened w root (hop ∷ hops) p =
    extended (walk_shortened w root hops p.0)
  where
    extended : PathTo w root (end_of root hops) (level_of root hops) → PathTo w root hop.to (level_of root (hop ∷ hops))
    extended s =
        elim (prefix_or_avoids w root s.hops hop.to s.path) [
          | inl q ↦ record { hops = q.hops; path = q.path; ends = q.ends; level = (let low = s.level in let le = q.level in omega (arith, le, low)) }
          | inr a ↦ record {
            hops = hop ∷ s.hops;
            path = (s.path, p.1, subst (λ (x : ℕ). Joins hop.device x hop.to) (sym s.ends) p.2, a);
            ends = refl;
            level = (let low = s.level in omega (arith, low));
          }
        ]
