use Rattle.std.proofs.Common.{◌≡◌, ℕ, List, take}
use Rattle.std.specs.List.{list_any}
use Rattle.vrt_model.specs.Lists.{has_name}
use Rattle.latch_match.specs.Looked.{assumed_at}
use Rattle.latch_match.proofs.lookups.add_all_assumed.Given as goal

-- the names so far
abbrev pub invariant-loop-place : goal.invariant-loop-place
invariant-loop-place l = (m : List ℕ) → has_name l.names m ≡ list_any (assumed_at l.rules m) (take l.place-index l.places)
