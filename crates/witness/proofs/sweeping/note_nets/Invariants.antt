use Rattle.std.proofs.Common.{◌≡◌, ℕ, ◌⊎◌, Bool, Some, length}
use Rattle.channel_parts.specs.PartLists.{net_numbers}
use Rattle.known_nets.specs.KnownTables.{known_at}
use Rattle.vrt_model.specs.Lists.{Among}
use Rattle.witness.specs.Views.{shown_by}
use Rattle.witness.proofs.sweeping.note_nets.Given as goal

abbrev pub invariant-loop-net : goal.invariant-loop-net
invariant-loop-net l = record {
  size : length l.bits.items ≡ length l.initial.bits.items;
  grown : (n : ℕ) (v : Bool) → known_at l.initial.bits.items n ≡ Some v → known_at l.bits.items n ≡ Some v;
  only : (n : ℕ) (v : Bool) → known_at l.bits.items n ≡ Some v → (known_at l.initial.bits.items n ≡ Some v) ⊎ (Among (net_numbers l.nets) n × (shown_by l.signals n ≡ Some v));
}
