-- What the levels in a table say of the nets, by their numbers.
use Rattle.std.specs.Prelude.{◌≡◌, ℕ, ◌≤◌, min, ◌⊎◌, cond, List, length, slice_index}
use Rattle.vrt_model.proofs.Strength.{AtLeast}
use Rattle.vrt_model.specs.Lists.{At}
use Rattle.vrt_model.specs.Path.{Hop, IsPath, IsRoot, Network, Root, end_of, level_of}
use Rattle.vrt_model.specs.Reading.{is_given}
use Rattle.vrt_model.specs.declared.circuit.FlatNet.{FlatNet}
use Rattle.vrt_model.specs.declared.circuit.Hold.{Hold}
use Rattle.plain_paths.specs.Channels.{Connects}
use Rattle.plain_paths.specs.declared.channels.Channel.{Channel}

-- each entry is 0, or a path of at least that level ends at the net
abbrev pub IsAttained : Network → List ℕ → Type 0
IsAttained w t = (n : ℕ) → (slice_index t n ≡ 0) ⊎ AtLeast w (slice_index t n) n

-- no entry is below a root's level
abbrev pub HasRoots : Network → List ℕ → Type 0
HasRoots w t = (root : Root) → IsRoot w root → root.level ≤ slice_index t root.net

-- no entry falls
abbrev pub HasGrown : List ℕ → List ℕ → Type 0
HasGrown t u = (n : ℕ) → slice_index t n ≤ slice_index u n

-- the second table has at least what the channel passes on from the first
abbrev pub HasPassed : Channel → List ℕ → List ℕ → Type 0
HasPassed ch t u = (m n : ℕ) → Connects ch m n → min (slice_index t m) ch.level ≤ slice_index u n

-- the level that a net has as a root by its kind, where sources have the first level, and 0 where it is none
abbrev pub level_of_net : ℕ → FlatNet → ℕ
level_of_net source net = cond (is_given net.kind) source 0

-- each hold's net has at least the hold's size
abbrev pub HasHolds : List Hold → List ℕ → Type 0
HasHolds holds t = (at : ℕ) (hold : Hold) → At holds at hold → hold.size ≤ slice_index t hold.net.0

-- no path of at most so many devices is above the entry of its end
abbrev pub HasWithin : Network → ℕ → List ℕ → Type 0
HasWithin w count t =
    (root : Root) (hops : List Hop) → IsPath w root hops → length hops ≤ count → level_of root hops ≤ slice_index t (end_of root hops)
