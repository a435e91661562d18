use Rattle.channel_parts.specs.Listings.{ArePairs}
use Rattle.channel_parts.proofs.listing.plain_pairs.Given as goal

-- the plain nets so far
abbrev pub invariant-loop-net : goal.invariant-loop-net
invariant-loop-net l = ArePairs l.circuit l.ranks l.least l.net l.pairs.items
