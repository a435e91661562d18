-- Walks: paths that may pass a net twice.
use Rattle.std.specs.Prelude.{◌≡◌, ℕ, ◌≤◌, List, [], ◌∷◌}
use Rattle.vrt_model.specs.Path.{Hop, IsOn, IsPath, IsRoot, Joins, Network, Root, end_of, level_of}

-- a root, and conducting devices that join on
abbrev pub IsDeviceWalk : Network → Root → List Hop → Type 0
IsDeviceWalk w root [] = IsRoot w root
IsDeviceWalk w root (hop ∷ hops) = IsDeviceWalk w root hops × IsOn w hop.device × Joins hop.device (end_of root hops) hop.to

-- a path from the root to n of at least this level
pub record PathTo (w : Network) (root : Root) (n least : ℕ) : Type 0 where
  pub hops : List Hop
  pub path : IsPath w root hops
  pub ends : end_of root hops ≡ n
  pub level : least ≤ level_of root hops
