use Rattle.std.proofs.Common.{◌≡◌, ◌≤◌, ℕ, suc}
use Rattle.net_places.specs.Links.{IsUnrolled}
use Rattle.vrt_model.specs.Inputs.{IsDesign}
use Rattle.vrt_model.specs.Unrolled.{Top}
use Rattle.substitute.specs.Ranges.{IsEnd}
use Rattle.substitute.proofs.range.end_of.Given as goal

-- the places so far are inside the instance
abbrev pub invariant-loop-end : goal.invariant-loop-end
invariant-loop-end l = (t : Top) (i : ℕ) → IsDesign t.design → IsUnrolled t l.unrolled → l.at ≡ suc i → (e : ℕ) × IsEnd t i e × (l.end ≤ e)
