use Rattle.std.proofs.Common.{◌≡◌, ℕ, ◌<◌, true}
use Rattle.known_nets.specs.Conduction.{is_plain_at}
use Rattle.known_nets.specs.Waits.{HasWaited, waits}
use Rattle.known_nets.proofs.waiting.Waiting.put_all.Given as goal

-- the plain nets so far wait
abbrev pub invariant-loop-net : goal.invariant-loop-net
invariant-loop-net l = record {
  waited : HasWaited l.circuit l.initial.self l.self;
  all : (n : ℕ) → n < l.net → is_plain_at l.circuit n ≡ true → waits l.self n ≡ true;
}
