use Rattle.std.proofs.Common.{◌≡◌, map, take}
use Rattle.names.specs.Names.{with_names}
use Rattle.vrt_model.specs.declared.blif.Tie.{Tie}
use Rattle.blif_checks.proofs.signals.add_ties.Given as goal

-- the names so far
abbrev pub invariant-loop-tie : goal.invariant-loop-tie
invariant-loop-tie l = l.names ≡ with_names l.initial.names (map (λ (t : Tie). t.actual) (take l.tie-index l.ties))
