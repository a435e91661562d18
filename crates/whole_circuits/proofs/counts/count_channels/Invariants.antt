use Rattle.std.proofs.Common.{◌≡◌, ◌+◌, ◌*◌, ◌<◌, ℕ, length}
use Rattle.std.specs.List.{slice_index}
use Rattle.vrt_model.specs.Levels.{level_counts}
use Rattle.whole_circuits.specs.Counts.{changed, channels_of}
use Rattle.whole_circuits.proofs.counts.count_channels.Given as goal

-- the counts so far with those of the devices that are left
abbrev pub invariant-devices : goal.invariant-devices
invariant-devices l =
    (length l.counts.items ≡ length l.initial.counts.items)
    × ((n k : ℕ) → k < level_counts → level_counts * n + k < length l.initial.counts.items
    → changed l.more (slice_index l.counts.items (level_counts * n + k)) (length (channels_of k l.rest n))
    ≡ changed l.more (slice_index l.initial.counts.items (level_counts * n + k)) (length (channels_of k l.fn.devices n)))

abbrev pub decreases-devices : goal.decreases-devices
decreases-devices l = length l.rest
