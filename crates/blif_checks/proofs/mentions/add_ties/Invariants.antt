use Rattle.std.proofs.Common.{◌≡◌, ◌++◌, map, take}
use Rattle.vrt_model.specs.Models.{on_line}
use Rattle.vrt_model.specs.declared.blif.Tie.{Tie}
use Rattle.blif_checks.specs.Mentions.{numbered}
use Rattle.blif_checks.proofs.mentions.add_ties.Given as goal

-- the mentions so far
abbrev pub invariant-loop-tie : goal.invariant-loop-tie
invariant-loop-tie l = l.list ≡ l.initial.list ++ map (numbered l.names) (map (on_line l.line) (map (λ (t : Tie). t.actual) (take l.tie-index l.ties)))
