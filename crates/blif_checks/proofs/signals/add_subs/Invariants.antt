use Rattle.std.proofs.Common.{◌≡◌, flat_map, take}
use Rattle.names.specs.Names.{with_names}
use Rattle.vrt_model.specs.FlatBlif.{sub_signals}
use Rattle.blif_checks.proofs.signals.add_subs.Given as goal

-- the names so far
abbrev pub invariant-loop-sub : goal.invariant-loop-sub
invariant-loop-sub l = l.names ≡ with_names l.initial.names (flat_map sub_signals (take l.sub-index l.subs))
