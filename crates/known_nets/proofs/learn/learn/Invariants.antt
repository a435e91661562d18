use Rattle.std.proofs.Common.{◌≡◌, ℕ, ◌<◌, ◌⊎◌, Bool, Some, true}
use Rattle.std.specs.Prelude.{is_some}
use Rattle.known_nets.specs.KnownTables.{known_at}
use Rattle.known_nets.specs.Learned.{HasNoted, shown_of}
use Rattle.vrt_model.specs.Lists.{At, Among}
use Rattle.known_nets.proofs.learn.learn.Given as goal

-- the bits of the nets so far are noted
abbrev pub invariant-loop-net : goal.invariant-loop-net
invariant-loop-net l = record {
  step : HasNoted l.circuit l.more l.initial.known.items l.known.items l.initial.waiting l.waiting;
  found : (i : ℕ) → i < l.net-index → (n : ℕ) → At l.nets i n → is_some (shown_of l.tables.zeros.table.items l.tables.ones.table.items n) ≡ true → is_some (known_at l.known.items n) ≡ true;
  only : (n : ℕ) (v : Bool) → known_at l.known.items n ≡ Some v → (known_at l.initial.known.items n ≡ Some v) ⊎ (Among l.nets n × (shown_of l.tables.zeros.table.items l.tables.ones.table.items n ≡ Some v));
}
