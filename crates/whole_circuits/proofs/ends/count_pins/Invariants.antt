use Rattle.std.proofs.Common.{◌≡◌, ◌+◌, ◌<◌, ℕ, length}
use Rattle.std.specs.Prelude.{filter, ◌==◌}
use Rattle.std.specs.List.{slice_index}
use Rattle.vrt_model.specs.declared.whole.WholePin.{WholePin}
use Rattle.whole_circuits.proofs.ends.count_pins.Given as goal

-- the counts so far with the pins that are left
abbrev pub invariant-pins : goal.invariant-pins
invariant-pins l =
    (length l.counts.items ≡ length l.initial.counts.items)
    × ((n : ℕ) → n < length l.initial.counts.items
    → slice_index l.counts.items n + length (filter (λ (p : WholePin). p.net.0 == n) l.rest)
    ≡ slice_index l.initial.counts.items n + length (filter (λ (p : WholePin). p.net.0 == n) l.fn.pins))

abbrev pub decreases-pins : goal.decreases-pins
decreases-pins l = length l.rest
