use Rattle.std.proofs.Common.{◌≡◌, ◌+◌, length}
use Rattle.flat_sizes.specs.Mentions.{last_count, mentioned}
use Rattle.vrt_model.specs.Unrolled.{is_own, mentions}
use Rattle.vrt_model.specs.Unsupported.{carried}
use Rattle.flat_sizes.proofs.last_mentions.own_of_devices.Given as goal

-- the count so far, with that of the cards that are left
abbrev pub invariant-cards : goal.invariant-cards
invariant-cards l =
    carried (l.count + last_count (is_own l.design l.rules l.cell) (mentioned l.left l.cell.instances)) ≡ carried (last_count (is_own l.design l.rules l.cell) (mentions l.cell))

abbrev pub decreases-cards : goal.decreases-cards
decreases-cards l = length l.left
