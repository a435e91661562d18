use Rattle.std.proofs.Common.{◌≡◌, drop}
use Rattle.vrt_model.specs.Lists.{has_name}
use Rattle.blif_checks.proofs.tables.has_name.Given as goal

-- none so far
abbrev pub invariant-loop-other : goal.invariant-loop-other
invariant-loop-other l = has_name (drop l.other-index l.names) l.name ≡ has_name l.names l.name
