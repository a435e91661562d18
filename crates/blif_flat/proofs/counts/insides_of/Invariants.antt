use Rattle.std.proofs.Common.{◌≡◌, map, take}
use Rattle.blif_flat.specs.Counts.{sub_inside}
use Rattle.blif_flat.proofs.counts.insides_of.Given as goal

abbrev pub invariant-loop-sub : goal.invariant-loop-sub
invariant-loop-sub l = l.insides ≡ map (sub_inside l.names l.signals l.rows) (take l.sub-index l.sub-items)
