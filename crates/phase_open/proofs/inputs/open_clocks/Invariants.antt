use Rattle.std.proofs.Common.{◌≡◌, ◌<◌, ℕ, cond}
use Rattle.bdd_core.specs.Words.{Writes, word_at}
use Rattle.vrt_model.specs.Lists.{At}
use Rattle.vrt_model.specs.Reading.{clock_bit}
use Rattle.vrt_model.specs.declared.pairing.ClockedSignal.{ClockedSignal}
use Rattle.phase_open.proofs.inputs.open_clocks.Given as goal

abbrev pub invariant-loop-one : goal.invariant-loop-one
invariant-loop-one l = record {
  writes : Writes l.fn.inputs l.fn.store l.store;
  rest : l.store ≡ record l.fn.store { words = l.store.words };
  opened : (j : ℕ) (c : ClockedSignal) → j < l.one-index → At l.clocked j c → word_at l.store l.fn.inputs c.signal ≡ cond (clock_bit l.phase c.clock) 1 0;
}
