use Rattle.std.proofs.Common.{◌≡◌, ◌+◌, get_or, take}
use Rattle.std.specs.List.{sum_by}
use Rattle.vrt_model.specs.Unsupported.{carried}
use Rattle.blif_flat.specs.Counts.{weight}
use Rattle.blif_flat.specs.declared.counts.Inside.{Inside}
use Rattle.blif_flat.proofs.counts.sum_of.Given as goal

-- the sum so far
abbrev pub invariant-loop-inside : goal.invariant-loop-inside
invariant-loop-inside l = l.sum ≡ carried (sum_by (λ (i : Inside). weight l.kind i + get_or l.sums i.model 0) (take l.inside-index l.insides))
