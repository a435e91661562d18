use Rattle.std.proofs.Common.{◌≡◌, ◌++◌, map, take}
use Rattle.std.specs.Prelude.{filter}
use Rattle.blif_checks.specs.Drivers.{in_role, tied_on}
use Rattle.blif_checks.specs.Mentions.{numbered}
use Rattle.blif_checks.proofs.ties.add_ties.Given as goal

-- the mentions so far
abbrev pub invariant-loop-tie : goal.invariant-loop-tie
invariant-loop-tie l = l.list ≡ l.initial.list ++ map (numbered l.names) (map (tied_on l.sub) (filter (in_role l.role l.blif l.sub) (take l.tie-index l.ties)))
