use Rattle.std.proofs.Common.{◌≡◌, ◌++◌, map, take, flat_map}
use Rattle.blif_checks.specs.Mentions.{cover_mentions, numbered}
use Rattle.blif_checks.proofs.mentions.add_covers.Given as goal

-- the mentions so far
abbrev pub invariant-loop-cover : goal.invariant-loop-cover
invariant-loop-cover l = l.list ≡ l.initial.list ++ map (numbered l.names) (flat_map cover_mentions (take l.cover-index l.covers))
