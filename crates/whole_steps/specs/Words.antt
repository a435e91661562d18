-- The words in which the model of a whole instance is evaluated.
use Rattle.std.specs.Prelude.{◌≡◌, ℕ, ◌+◌, cond, length}
use Rattle.node_pool.specs.declared.region.Span.{Span}
use Rattle.bdd_core.specs.Store.{Diagrams}
use Rattle.bdd_core.specs.Words.{word_at}
use Rattle.vrt_model.specs.Lists.{Among}
use Rattle.vrt_model.specs.Reading.{clock_bit}
use Rattle.vrt_model.specs.declared.flat_model.FlatModel.{FlatModel}
use Rattle.vrt_model.specs.declared.pairing.ClockedSignal.{ClockedSignal}
use Rattle.vrt_model.specs.declared.rules.Phase.{Phase}
use Rattle.vrt_model.specs.declared.whole.Whole.{Whole}
use Rattle.vrt_model.specs.declared.whole.WholePin.{WholePin}

-- one for each signal as it is given, one for the default clock, and one for each signal as it is found
abbrev pub model_words : FlatModel → ℕ
model_words flat = length flat.signals + 1 + length flat.signals

-- the first words of a span, as many as a model takes
abbrev pub model_span : FlatModel → Span → Span
model_span flat out = record { start = out.start; len = model_words flat }

-- the words of what is given, and behind them those of what is found
abbrev pub given_words : FlatModel → Span → Span
given_words flat out = record { start = out.start; len = length flat.signals + 1 }

abbrev pub found_words : FlatModel → Span → Span
found_words flat out = record { start = out.start + (length flat.signals + 1); len = length flat.signals }

-- the words of a model without latches for its elements
abbrev pub no_words : Span → Span
no_words out = record { start = out.start; len = 0 }

-- the signals that carry clocks have the bits of the phase, those of input pins have the handles of their nets, and the default
-- clock has 0
pub record AreGiven (w : Whole) (phase : Phase) (gates given : Span) (old new : Diagrams) : Type 0 where
  pub clocked : (c : ClockedSignal) → Among w.clocked c → word_at new given c.signal ≡ cond (clock_bit phase c.clock) 1 0
  pub tied : (pin : WholePin) → Among w.inputs pin → word_at new given pin.signal ≡ word_at old gates pin.net.0
  pub default : word_at new given (length w.model.signals) ≡ 0
