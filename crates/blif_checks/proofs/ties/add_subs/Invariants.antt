use Rattle.std.proofs.Common.{◌≡◌, ◌++◌, map, take, flat_map}
use Rattle.vrt_model.specs.Models.{ties_on}
use Rattle.vrt_model.specs.declared.blif.SubLine.{SubLine}
use Rattle.blif_checks.specs.Drivers.{in_role}
use Rattle.blif_checks.specs.Mentions.{numbered}
use Rattle.blif_checks.proofs.ties.add_subs.Given as goal

-- the mentions so far
abbrev pub invariant-loop-sub : goal.invariant-loop-sub
invariant-loop-sub l = l.list ≡ l.initial.list ++ map (numbered l.names) (flat_map (λ (s : SubLine). ties_on (in_role l.role l.blif s) s) (take l.sub-index l.subs))
