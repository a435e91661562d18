use Rattle.std.proofs.Common.{◌≡◌, flat_map, take}
use Rattle.names.specs.Names.{with_names}
use Rattle.vrt_model.specs.FlatBlif.{cover_signals}
use Rattle.blif_checks.proofs.signals.add_covers.Given as goal

-- the names so far
abbrev pub invariant-loop-cover : goal.invariant-loop-cover
invariant-loop-cover l = l.names ≡ with_names l.initial.names (flat_map cover_signals (take l.cover-index l.covers))
