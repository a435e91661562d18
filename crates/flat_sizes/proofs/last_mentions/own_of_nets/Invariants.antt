use Rattle.std.proofs.Common.{◌≡◌, ◌+◌, ◌++◌, length}
use Rattle.flat_sizes.specs.Mentions.{last_count, tied}
use Rattle.vrt_model.specs.Unrolled.{is_own}
use Rattle.vrt_model.specs.Unsupported.{carried}
use Rattle.flat_sizes.proofs.last_mentions.own_of_nets.Given as goal

-- the count so far, with that of the nets that are left
abbrev pub invariant-nets : goal.invariant-nets
invariant-nets l =
    carried (l.count + last_count (is_own l.design l.rules l.cell) (l.left ++ tied l.behind)) ≡ carried (last_count (is_own l.design l.rules l.cell) (l.nets ++ tied l.behind))

abbrev pub decreases-nets : goal.decreases-nets
decreases-nets l = length l.left
