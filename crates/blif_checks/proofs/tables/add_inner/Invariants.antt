use Rattle.std.proofs.Common.{◌≡◌, map, take}
use Rattle.names.specs.Names.{with_names}
use Rattle.vrt_model.specs.declared.blif.SubLine.{SubLine}
use Rattle.blif_checks.proofs.tables.add_inner.Given as goal

-- the names so far
abbrev pub invariant-loop-sub : goal.invariant-loop-sub
invariant-loop-sub l = l.names ≡ with_names l.initial.names (map (λ (s : SubLine). s.model) (take l.sub-index l.subs))
