use Rattle.std.proofs.Common.{◌≡◌, ℕ, ◌<◌, true}
use Rattle.known_nets.specs.Waits.{HasWaited, waits}
use Rattle.vrt_model.specs.Known.{IsPlain}
use Rattle.vrt_model.specs.Lists.{At}
use Rattle.vrt_model.specs.Path.{Joins}
use Rattle.vrt_model.specs.declared.circuit.Device.{Device}
use Rattle.known_nets.proofs.waiting.Waiting.put_ends.Given as goal

-- the plain nets at the devices so far wait
abbrev pub invariant-loop-number : goal.invariant-loop-number
invariant-loop-number l = record {
  waited : HasWaited l.circuit l.initial.self l.self;
  marked : (i : ℕ) → i < l.number-index → (k : ℕ) (d : Device) → At l.numbers i k → At l.circuit.devices k d → (m n : ℕ) → Joins d m n → IsPlain l.circuit m → waits l.self m ≡ true;
}
