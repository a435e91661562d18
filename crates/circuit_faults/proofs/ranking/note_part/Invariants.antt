use Rattle.std.proofs.Common.{◌≡◌, ◌<◌, ℕ, length, slice_index}
use Rattle.channel_parts.specs.PartLists.{net_numbers}
use Rattle.vrt_model.specs.Lists.{At, Among}
use Rattle.circuit_faults.proofs.ranking.note_part.Given as goal

-- the rank was noted at the first nets, and at no other than those of the part
abbrev pub invariant-loop-i : goal.invariant-loop-i
invariant-loop-i l = record {
  len : length l.ranks.items ≡ length l.fn.ranks.items;
  inside : (j n : ℕ) → j < l.i → At (net_numbers l.part.nets) j n → slice_index l.ranks.items n ≡ l.part.rank;
  outside : (n : ℕ) → (¬ Among (net_numbers l.part.nets) n) → slice_index l.ranks.items n ≡ slice_index l.fn.ranks.items n;
}
