use Rattle.std.proofs.Common.{◌≡◌, ◌||◌, ℕ, length, take}
use Rattle.phase_ports.specs.Observed.{has_net}
use Rattle.vrt_model.specs.Lists.{mark_at}
use Rattle.phase_ports.proofs.marks.mark_nets.Given as goal

-- the nets so far
abbrev pub invariant-loop-net : goal.invariant-loop-net
invariant-loop-net l = record {
  len : length l.marks.items ≡ length l.fn.marks.items;
  is : (n : ℕ) → mark_at l.marks.items n ≡ (mark_at l.fn.marks.items n || has_net (take l.net-index l.nets) n);
}
