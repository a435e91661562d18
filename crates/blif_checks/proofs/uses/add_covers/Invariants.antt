use Rattle.std.proofs.Common.{◌≡◌, ◌++◌, map, take, flat_map}
use Rattle.vrt_model.specs.Models.{on_line}
use Rattle.vrt_model.specs.declared.blif.CoverLine.{CoverLine}
use Rattle.blif_checks.specs.Mentions.{numbered}
use Rattle.blif_checks.proofs.uses.add_covers.Given as goal

-- the mentions so far
abbrev pub invariant-loop-cover : goal.invariant-loop-cover
invariant-loop-cover l = l.list ≡ l.initial.list ++ map (numbered l.names) (flat_map (λ (c : CoverLine). map (on_line c.line) c.inputs) (take l.cover-index l.covers))
