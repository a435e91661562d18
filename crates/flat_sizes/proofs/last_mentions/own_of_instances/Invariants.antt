use Rattle.std.proofs.Common.{◌≡◌, ◌≤◌, ◌+◌, length}
use Rattle.flat_sizes.specs.Mentions.{last_count, tied}
use Rattle.vrt_model.specs.Unrolled.{is_own}
use Rattle.vrt_model.specs.Unsupported.{carried}
use Rattle.flat_sizes.proofs.last_mentions.own_of_instances.Given as goal

-- the count so far, with that of the cards that are left
abbrev pub invariant-cards : goal.invariant-cards
invariant-cards l = record {
  so_far : carried (l.count + last_count (is_own l.design l.rules l.cell) (tied l.left)) ≡ carried (last_count (is_own l.design l.rules l.cell) (tied l.cell.instances));
  small : l.count ≤ 18446744073709551615;
}

abbrev pub decreases-cards : goal.decreases-cards
decreases-cards l = length l.left
