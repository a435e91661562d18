use Rattle.std.proofs.Common.{◌≡◌, ℕ, ◌<◌, ◌⊎◌, length, true, false}
use Rattle.known_nets.specs.Waits.{waits}
use Rattle.vrt_model.specs.Lists.{At, Among}
use Rattle.known_nets.proofs.waiting.Waiting.forget.Given as goal

-- the nets so far are forgotten
abbrev pub invariant-loop-net : goal.invariant-loop-net
invariant-loop-net l = record {
  size : length l.self.marks.items ≡ length l.initial.self.marks.items;
  gone : (i : ℕ) → i < l.net-index → (n : ℕ) → At l.nets i n → waits l.self n ≡ false;
  only : (n : ℕ) → waits l.self n ≡ true → waits l.initial.self n ≡ true;
  kept : (n : ℕ) → waits l.initial.self n ≡ true → (waits l.self n ≡ true) ⊎ Among l.nets n;
  list : l.self.list ≡ l.initial.self.list;
}
