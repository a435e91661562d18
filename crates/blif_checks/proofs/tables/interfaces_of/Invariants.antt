use Rattle.std.proofs.Common.{◌≡◌, map, take}
use Rattle.blif_checks.specs.Tables.{interface_by}
use Rattle.blif_checks.proofs.tables.interfaces_of.Given as goal

-- the interfaces so far
abbrev pub invariant-loop-model : goal.invariant-loop-model
invariant-loop-model l = l.found ≡ map (interface_by l.inner) (take l.model-index l.models)
