use Rattle.std.proofs.Common.{◌≡◌, ◌≤◌, drop, get_or, map, max}
use Rattle.vrt_model.specs.Nesting.{greatest}
use Rattle.nesting.proofs.depths.depth_above.Given as goal

-- the greatest depth so far, with those of the rest
abbrev pub invariant-loop-number : goal.invariant-loop-number
invariant-loop-number l =
    (l.greatest_so_far ≤ 8192)
    × (max l.greatest_so_far (greatest (map (λ n. get_or l.depths n 0) (drop l.number-index l.numbers))) ≡ greatest (map (λ n. get_or l.depths n 0) l.numbers))
