use Rattle.std.proofs.Common.{◌≡◌, [], filter, not, take}
use Rattle.vrt_model.specs.Lists.{has_name}
use Rattle.names.specs.Names.{with_names}
use Rattle.blif_flat.proofs.places.untied.Given as goal

-- those that are not tied so far
abbrev pub invariant-loop-signal : goal.invariant-loop-signal
invariant-loop-signal l = l.names ≡ with_names [] (filter (λ name. not (has_name l.tied name)) (take l.signal-index l.signals))
