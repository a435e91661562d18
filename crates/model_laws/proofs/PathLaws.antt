-- Paths: what is left of a clear one, and what one brings past a source.
use Rattle.std.proofs.Common.{◌≡◌, ℕ, ◌≤◌, List, [], ◌∷◌, ◌++◌, arith, refl, sym, subst, ◌∙◌}
use Rattle.vrt_model.proofs.GivenNets.{level_most}
use Rattle.vrt_model.specs.Path.{Avoids, Hop, IsPath, IsRoot, Joins, Network, Root, end_of, level_of}
use Rattle.vrt_model.specs.Response.{IsClear, IsStrength}
use Rattle.vrt_model.specs.Networks.{HasLevels, IsSource}

-- a clear path has the strength of the net at which it ends
pub clear_level : (w : Network) (root : Root) (hops : List Hop) → IsClear w root hops → IsStrength w (end_of root hops) (level_of root hops)
clear_level w root [] clear = clear
clear_level w root (hop ∷ hops) clear = clear.1

-- what is left of a clear path, where its last hops are taken off, is clear
pub clear_prefix : (w : Network) (root : Root) (last rest : List Hop) → IsClear w root (last ++ rest) → IsClear w root rest
clear_prefix w root [] rest clear = clear
clear_prefix w root (hop ∷ last) rest clear = clear_prefix w root last rest clear.0

-- ---- a path that passes a source

-- the last hops of a path, begun at another root where they begin
pub avoids_from : (root other : Root) (last rest : List Hop) (n : ℕ) → other.net ≡ end_of root rest → Avoids root (last ++ rest) n → Avoids other last n
avoids_from root other [] [] n e a = λ is. a (sym e ∙ is)
avoids_from root other [] (hop ∷ rest) n e a = λ is. a.0 (sym e ∙ is)
avoids_from root other (hop ∷ last) rest n e a = (a.0, avoids_from root other last rest n e a.1)

pub end_from : (root other : Root) (last rest : List Hop) → other.net ≡ end_of root rest → end_of other last ≡ end_of root (last ++ rest)
end_from root other [] rest e = e
end_from root other (hop ∷ last) rest e = refl

pub path_from : (w : Network) (root other : Root) (last rest : List Hop) → IsRoot w other → other.net ≡ end_of root rest → IsPath w root (last ++ rest) → IsPath w other last
path_from w root other [] rest r e p = r
path_from w root other (hop ∷ last) rest r e p = (
  path_from w root other last rest r e p.0,
  p.1,
  subst (λ (m : ℕ). Joins hop.device m hop.to) (sym (end_from root other last rest e)) p.2,
  avoids_from root other last rest hop.to e p.3,
)

pub level_from : (root other : Root) (last rest : List Hop) → level_of root rest ≤ other.level → level_of root (last ++ rest) ≤ level_of other last
level_from root other [] rest le = le
level_from root other (hop ∷ last) rest le = let h = level_from root other last rest le in omega (arith, h)

-- a path that passes a source is no stronger than what of it begins there: it raises no strength beyond the source
pub no_stronger_through : (w : Network) → HasLevels w → (root : Root) (last rest : List Hop) → IsPath w root (last ++ rest) → IsPath w root rest
    → (source : IsSource w (end_of root rest))
    → IsPath w source.0 last × (end_of source.0 last ≡ end_of root (last ++ rest)) × (level_of root (last ++ rest) ≤ level_of source.0 last)
no_stronger_through w levels root last rest p before source =
    let most = level_most w levels root rest before in
    let low : level_of root rest ≤ source.0.level = (let is = source.3 in omega (arith, is, most)) in
    (path_from w root source.0 last rest source.1 source.2 p, end_from root source.0 last rest source.2, level_from root source.0 last rest low)
