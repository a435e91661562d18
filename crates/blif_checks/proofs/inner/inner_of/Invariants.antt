use Rattle.std.proofs.Common.{◌≡◌, map, take, unwrap_or}
use Rattle.std.specs.Prelude.{bytes_eq, position}
use Rattle.vrt_model.specs.declared.blif.SubLine.{SubLine}
use Rattle.blif_checks.proofs.inner.inner_of.Given as goal

abbrev pub invariant-loop-sub : goal.invariant-loop-sub
invariant-loop-sub l = l.inner ≡ map (λ (s : SubLine). unwrap_or (position (bytes_eq s.model) l.names) 0) (take l.sub-index l.sub-items)
