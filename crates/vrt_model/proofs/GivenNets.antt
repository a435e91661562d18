-- Nets with given values are sources: each has the greatest strength, and a clear path that passes one begins there.
use Rattle.std.proofs.Common.{◌≡◌, ℕ, ◌≤◌, ◌<◌, List, [], ◌∷◌, arith, refl, inr}
use Rattle.vrt_model.specs.Path.{Network, Root, Hop, IsPath, end_of, level_of}
use Rattle.vrt_model.specs.Response.{IsStrength, IsClear}
use Rattle.vrt_model.proofs.Laws.{one_strength}
use Rattle.vrt_model.specs.Networks.{IsSource, HasLevels}

module _ (w : Network) (levels : HasLevels w) where
  pub level_most : (root : Root) (hops : List Hop) → IsPath w root hops → level_of root hops ≤ w.source
  level_most root [] p = levels.roots root p
  level_most root (hop ∷ hops) p = let k = level_most root hops p.0 in omega arith

  -- a path with a device is below the source level
  pub level_after : (root : Root) (hop : Hop) (hops : List Hop) → IsPath w root (hop ∷ hops) → level_of root (hop ∷ hops) < w.source
  level_after root hop hops p = let k = levels.devices hop.device p.1 in omega arith

  pub source_strength : (n : ℕ) → IsSource w n → IsStrength w n w.source
  source_strength n r = (λ root hops p e. level_most root hops p, inr (r.0, [], r.1, r.2, r.3))

  -- a clear path that passes a source begins there
  pub clear_from_source : (root : Root) (hops : List Hop) → IsPath w root hops → IsClear w root hops → IsSource w (end_of root hops) → hops ≡ []
  clear_from_source root [] p c g = refl
  clear_from_source root (hop ∷ hops) p c g =
      let e = one_strength w hop.to w.source (level_of root (hop ∷ hops)) (source_strength hop.to g) c.1 in
      let l = level_after root hop hops p in
      absurd (omega (arith, e, l))
