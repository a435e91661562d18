use Rattle.std.proofs.Common.{◌≡◌, ◌≤◌, ◌++◌, ◌-◌, length, drop, map}
use Rattle.text_lines.specs.Groups.{groups}
use Rattle.blif_reader.specs.Models.{cover_of, is_cover, is_dotted}
use Rattle.blif_reader.proofs.covers.covers_of.Given as goal

-- the covers so far, and those of the rest
abbrev pub invariant-cards : goal.invariant-cards
invariant-cards l =
    (l.at ≤ length l.body) × (l.found ++ map cover_of (groups is_cover is_dotted (drop l.at l.body)) ≡ map cover_of (groups is_cover is_dotted l.body))

abbrev pub decreases-cards : goal.decreases-cards
decreases-cards l = length l.body - l.at
