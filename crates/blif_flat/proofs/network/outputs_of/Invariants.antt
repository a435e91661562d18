use Rattle.std.proofs.Common.{◌≡◌, [], map, take}
use Rattle.names.specs.Names.{with_names}
use Rattle.vrt_model.specs.declared.blif.CoverLine.{CoverLine}
use Rattle.blif_flat.proofs.network.outputs_of.Given as goal

-- the outputs so far
abbrev pub invariant-loop-cover : goal.invariant-loop-cover
invariant-loop-cover l = l.names ≡ with_names [] (map (λ (c : CoverLine). c.output) (take l.cover-index l.covers))
