use Rattle.std.proofs.Common.{◌≡◌, ℕ, true, length}
use Rattle.known_nets.specs.KnownTables.{known_at}
use Rattle.known_nets.specs.Learned.{unknown}
use Rattle.channel_parts.specs.PartLists.{IsPartOf, net_numbers}
use Rattle.channel_parts.specs.declared.part.Part.{Part}
use Rattle.vrt_model.specs.Known.{IsPlain}
use Rattle.vrt_model.specs.Lists.{Among, bit_at}
use Rattle.vrt_model.specs.State.{Setting}
use Rattle.vrt_model.specs.declared.rules.Phase.{Phase}
use Rattle.witness.specs.Settling.{Stands}
use Rattle.witness.proofs.rounds.settle.Given as goal

-- the bits stand, where those at the start do
abbrev pub invariant-rounds : goal.invariant-rounds
invariant-rounds l = record {
  len : length l.bits.items ≡ length l.circuit.nets;
  stands :
      (phase : Phase) (setting : Setting) (rank : ℕ → ℕ) → setting.held ≡ bit_at l.held → ((part : Part) → Among l.parts part → IsPartOf l.circuit phase true rank part)
      → ((n : ℕ) → IsPlain l.circuit n → (part : Part) × Among l.parts part × Among (net_numbers part.nets) n)
      → Stands l.circuit phase setting (known_at l.initial.bits.items) → Stands l.circuit phase setting (known_at l.bits.items);
}

-- each round adds a bit
abbrev pub decreases-rounds : goal.decreases-rounds
decreases-rounds l = unknown l.bits.items
