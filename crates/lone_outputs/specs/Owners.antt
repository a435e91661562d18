-- How many of some nets are in each part, by a table of the least nets of the parts.
use Rattle.std.specs.Prelude.{◌≡◌, ℕ, ◌+◌, ◌<◌, ◌&&◌, ◌==◌, Bool, cond, not, List, filter, is_none, length, nat_lt, Option, slice_index}
use Rattle.known_nets.specs.KnownTables.{known_at}
use Rattle.vrt_model.specs.Known.{is_plain_at}
use Rattle.vrt_model.specs.declared.circuit.Circuit.{Circuit}
use Rattle.vrt_model.specs.declared.ids.Net.{Net}

-- a plain net of the part with this least net
abbrev pub is_in_part : Circuit → List ℕ → ℕ → Net → Bool
is_in_part c least owner n = is_plain_at c n.0 && slice_index least n.0 == owner

-- how many of the nets are
abbrev pub count_in_part : Circuit → List ℕ → List Net → ℕ → ℕ
count_in_part c least nets owner = length (filter (is_in_part c least owner) nets)

-- a table has these counts
abbrev pub AreCounts : Circuit → List ℕ → List Net → List ℕ → Type 0
AreCounts c least nets counts = (owner : ℕ) → owner < length counts → slice_index counts owner ≡ count_in_part c least nets owner

-- one net more is counted
pub record CountsNet (c : Circuit) (least : List ℕ) (n : Net) (old new : List ℕ) : Type 0 where
  pub len : length new ≡ length old
  pub is : (owner : ℕ) → owner < length old → slice_index new owner ≡ slice_index old owner + cond (is_in_part c least owner n) 1 0

-- a net is plain, and more than one of the counted nets is in its part
abbrev pub is_shared : Circuit → List ℕ → List ℕ → Net → Bool
is_shared c least counts n = is_plain_at c n.0 && nat_lt 1 (slice_index counts (slice_index least n.0))

-- a net is neither known nor shared
abbrev pub is_lone : Circuit → List (Option Bool) → List ℕ → List ℕ → Net → Bool
is_lone c known least counts n = is_none (known_at known n.0) && not (is_shared c least counts n)
