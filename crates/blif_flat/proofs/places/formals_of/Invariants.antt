use Rattle.std.proofs.Common.{◌≡◌, [], map, take}
use Rattle.names.specs.Names.{with_names}
use Rattle.vrt_model.specs.declared.blif.Tie.{Tie}
use Rattle.blif_flat.proofs.places.formals_of.Given as goal

-- the formals so far
abbrev pub invariant-loop-tie : goal.invariant-loop-tie
invariant-loop-tie l = l.names ≡ with_names [] (map (λ (t : Tie). t.formal) (take l.tie-index l.ties))
