-- What stands in the store of a phase when it is opened: the bits of roots, of the model's inputs and of its elements, and the care set.
use Rattle.std.specs.Prelude.{◌≡◌, ℕ, ◌+◌, ◌*◌, ◌<◌, Bool, false, cond, List, length, Some, unwrap_or}
use Rattle.node_pool.specs.declared.region.Span.{Span}
use Rattle.bdd_core.specs.Diagram.{Valuation}
use Rattle.bdd_core.specs.Store.{Diagrams, IsLive}
use Rattle.bdd_core.specs.Words.{IsFilled, shows, word_at}
use Rattle.bdd_core.specs.declared.handle.H.{H}
use Rattle.bdd_ops.specs.Ops.{bits_of}
use Rattle.circuit_faults.specs.Faults.{HasFixedBits, IsSettingAt}
use Rattle.circuit_faults.specs.Results.{root_at}
use Rattle.constraints.specs.Cared.{assumed_size}
use Rattle.phase_terms.specs.Found.{at_bits, met}
use Rattle.phase_terms.specs.declared.words.PhaseWords.{PhaseWords}
use Rattle.vrt_model.specs.Assignment.{Tied}
use Rattle.vrt_model.specs.Comparison.{Comparison, cell_at, default_clock_bit, phase_at, tied_inputs}
use Rattle.vrt_model.specs.Elements.{element_names}
use Rattle.vrt_model.specs.Held.{setting_of}
use Rattle.vrt_model.specs.Lists.{Among}
use Rattle.vrt_model.specs.ModelArcs.{carried_bits}
use Rattle.vrt_model.specs.Reading.{clock_bit}
use Rattle.vrt_model.specs.declared.pairing.ClockedSignal.{ClockedSignal}

-- the roots: supplies and clock ports have their bits, and at each valuation inputs and holds have those that it gives
pub record AreRootsOpen (k : Comparison) (phase : ℕ) (roots : Span) (d : Diagrams) : Type 0 where
  pub live : IsFilled d roots
  pub fixed : (v : Valuation) → HasFixedBits k.circuit (phase_at k.rules phase) (root_at d roots v)
  pub setting : (bits : List Bool) → IsSettingAt k.circuit (root_at d roots (bits_of bits)) (setting_of k phase bits)

-- The model's inputs: where a signal carries a clock its bit, as a constant; where it is tied to a net the bit of the net; behind
-- the signals that of the default clock. And the old bits of the elements.
pub record IsModelOpen (k : Comparison) (phase : ℕ) (inputs held : Span) (d : Diagrams) : Type 0 where
  pub inputs_live : IsFilled d inputs
  pub clocked : (v : Valuation) (c : ClockedSignal) → Among k.pairing.clocked c → shows d inputs c.signal v ≡ clock_bit (phase_at k.rules phase) c.clock
  pub tied : (bits : List Bool) (t : Tied) → Among (tied_inputs k) t → shows d inputs t.signal (bits_of bits) ≡ (setting_of k phase bits).inputs t.net
  pub default : (v : Valuation) → shows d inputs (length k.model.signals) v ≡ unwrap_or (default_clock_bit k.rules (phase_at k.rules phase)) false
  pub known : (s : ℕ) (b : Bool) → s < length k.model.signals → carried_bits (phase_at k.rules phase) k.pairing.clocked s ≡ Some b → word_at d inputs s ≡ cond b 1 0
  pub clock : (b : Bool) → default_clock_bit k.rules (phase_at k.rules phase) ≡ Some b → word_at d inputs (length k.model.signals) ≡ cond b 1 0
  pub held_live : IsFilled d held
  pub elements : (bits : List Bool) (e : ℕ) → e < length (element_names k.model) → shows d held e (bits_of bits) ≡ (setting_of k phase bits).elements e

-- all of these, and the handle of the valuations that meet the constraints
pub record IsOpen (k : Comparison) (phase : ℕ) (care : H) (w : PhaseWords) (d : Diagrams) : Type 0 where
  pub care_live : IsLive d care
  pub care_is : (bits : List Bool) → at_bits d care bits ≡ met k phase bits
  pub roots : AreRootsOpen k phase w.roots d
  pub model : IsModelOpen k phase w.inputs w.held d

-- the operations that this takes: two for each hold, one for each net and each element, and those of the care set
abbrev pub opened_operations : Comparison → ℕ → ℕ
opened_operations k phase =
    2 * length k.circuit.holds + length k.circuit.nets + length (element_names k.model)
    + 20 * (assumed_size k.rules (cell_at k.design k.cell).name phase + length k.circuit.holds)
