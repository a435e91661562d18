use Rattle.std.proofs.Common.{◌≡◌, ◌++◌, map, take}
use Rattle.vrt_model.specs.Models.{on_line}
use Rattle.vrt_model.specs.declared.blif.CoverLine.{CoverLine}
use Rattle.blif_checks.specs.Mentions.{numbered}
use Rattle.blif_checks.proofs.drivers.add_covers.Given as goal

-- the mentions so far
abbrev pub invariant-loop-cover : goal.invariant-loop-cover
invariant-loop-cover l = l.list ≡ l.initial.list ++ map (numbered l.names) (map (λ (c : CoverLine). on_line c.line c.output) (take l.cover-index l.covers))
