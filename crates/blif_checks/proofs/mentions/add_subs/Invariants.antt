use Rattle.std.proofs.Common.{◌≡◌, ◌++◌, map, take, flat_map}
use Rattle.blif_checks.specs.Mentions.{numbered, sub_mentions}
use Rattle.blif_checks.proofs.mentions.add_subs.Given as goal

-- the mentions so far
abbrev pub invariant-loop-sub : goal.invariant-loop-sub
invariant-loop-sub l = l.list ≡ l.initial.list ++ map (numbered l.names) (flat_map sub_mentions (take l.sub-index l.subs))
