-- What a phase is given: the bits of nets with given values, and the signals of the model that are tied to nets.
use Rattle.std.specs.Prelude.{◌≡◌, ℕ, ◌<◌, ◌≤◌, Bool, false, cond, List, Some, filter, length, slice_index, take, unwrap_or}
use Rattle.node_pool.specs.declared.region.Span.{Span}
use Rattle.bdd_core.specs.Diagram.{Function, Valuation}
use Rattle.bdd_core.specs.Store.{Adds, Diagrams}
use Rattle.bdd_core.specs.Words.{IsBeside, IsFilled, shows, word_at}
use Rattle.bdd_ops.specs.Ops.{bits_of}
use Rattle.phase_ports.specs.declared.port_list.Port.{Port}
use Rattle.phase_terms.specs.declared.words.PhaseWords.{PhaseWords}
use Rattle.phase_terms.specs.declared.words.WordCounts.{WordCounts}
use Rattle.vrt_model.specs.Assignment.{Tied}
use Rattle.vrt_model.specs.Comparison.{Comparison, default_clock_bit, input_signal, phase_at, tied_inputs}
use Rattle.vrt_model.specs.Held.{setting_of}
use Rattle.vrt_model.specs.Lists.{Among, At}
use Rattle.vrt_model.specs.Reading.{clock_bit}
use Rattle.vrt_model.specs.Variables.{is_input}
use Rattle.vrt_model.specs.declared.circuit.Circuit.{Circuit}
use Rattle.vrt_model.specs.declared.circuit.FlatNet.{FlatNet}
use Rattle.vrt_model.specs.declared.circuit.NetKind.{NetKind}
use Rattle.vrt_model.specs.declared.circuit.NetKind.TheVariants.{Supply, Clock, Input, Plain}
use Rattle.vrt_model.specs.declared.pairing.ClockedSignal.{ClockedSignal}
use Rattle.vrt_model.specs.declared.rules.Phase.{Phase}

-- the limits of a cell, and of the models of cells
abbrev pub AreFew : WordCounts → Type 0
AreFew c = (c.nets ≤ 20000) × (c.pins ≤ 1000000) × (c.models ≤ 40001) × (c.signals ≤ 20000) × (c.elements ≤ 40000) × (c.variables ≤ 1000)

-- ---- nets with given values

-- the number of the variable of an input net: how many input nets are before it
abbrev pub variable_at : Circuit → ℕ → ℕ
variable_at c n = length (filter (λ (net : FlatNet). is_input net.kind) (take n c.nets))

-- how many input nets there are
abbrev pub input_count : Circuit → ℕ
input_count c = length (filter (λ (net : FlatNet). is_input net.kind) c.nets)

-- the bit of a net, where an input net has this variable; a plain net keeps the function that it had
abbrev pub root_by : Phase → NetKind → ℕ → Function → Function
root_by phase (Supply value) variable held = λ v. value
root_by phase (Clock clock) variable held = λ v. clock_bit phase clock
root_by phase Input variable held = λ v. v variable
root_by phase Plain variable held = held

-- the nets before a number have their bits
abbrev pub AreGivenBefore : Circuit → Phase → Span → ℕ → Diagrams → Diagrams → Type 0
AreGivenBefore c phase roots upto old new =
    (n : ℕ) (net : FlatNet) → n < upto → At c.nets n net → (v : Valuation) → shows new roots n v ≡ root_by phase net.kind (variable_at c n) (λ w. shows old roots n w) v

abbrev pub AreGiven : Circuit → Phase → Span → Diagrams → Diagrams → Type 0
AreGiven c phase roots old new = AreGivenBefore c phase roots (length c.nets) old new

-- ---- tied signals

-- the input port among these has this signal
pub record IsTie (ports : List Port) (p : Port) (s : ℕ) : Type 0 where
  pub there : Among ports p
  pub signal : input_signal p.role ≡ Some s

-- so many nets and signals are enough
abbrev pub AreTiesWithin : List Port → ℕ → ℕ → Type 0
AreTiesWithin ports nets signals = (p : Port) (s : ℕ) → IsTie ports p s → (p.net < nets) × (s < signals)

-- a signal has the bit of one net alone
abbrev pub HasOneNet : List Port → Type 0
HasOneNet ports = (p q : Port) (s : ℕ) → IsTie ports p s → IsTie ports q s → p.net ≡ q.net

-- The model's inputs: where a signal carries a clock its bit, where it is tied to a net the bit of the net, and behind the signals
-- that of the default clock.
pub record HasModelInputs (k : Comparison) (phase : ℕ) (inputs : Span) (d : Diagrams) : Type 0 where
  pub live : IsFilled d inputs
  pub clocked : (c : ClockedSignal) → Among k.pairing.clocked c → word_at d inputs c.signal ≡ cond (clock_bit (phase_at k.rules phase) c.clock) 1 0
  pub tied : (bits : List Bool) (t : Tied) → Among (tied_inputs k) t → shows d inputs t.signal (bits_of bits) ≡ (setting_of k phase bits).inputs t.net
  pub default : word_at d inputs (length k.model.signals) ≡ cond (unwrap_or (default_clock_bit k.rules (phase_at k.rules phase)) false) 1 0

-- ---- what changes

-- nodes were added, and words of the roots, the model's inputs and the held bits alone changed
pub record WritesOpened (w : PhaseWords) (old new : Diagrams) : Type 0 where
  pub adds : Adds old new new.words
  pub len : length new.words ≡ length old.words
  pub others : (j : ℕ) → IsBeside w.roots j → IsBeside w.inputs j → IsBeside w.held j → slice_index new.words j ≡ slice_index old.words j
