-- A cell that is compared with a module.
use Rattle.std.specs.Prelude.{◌≡◌, ℕ, ◌<◌, Bool, true, List, [], length, Some}
use Rattle.verilog_meaning.specs.Meaning.{IsMeaning}
use Rattle.verilog_meaning.specs.Nets.{nets_in}
use Rattle.verilog_models.specs.Models.{blif_of}
use Rattle.verilog_source.specs.Modules.{Module}
use Rattle.vrt_model.specs.Assignment.{Tied}
use Rattle.vrt_model.specs.CellRules.{is_observed_port}
use Rattle.vrt_model.specs.Comparison.{CellPort, Comparison, cell_at, output_signal, phase_at, ports_of, tied_inputs}
use Rattle.vrt_model.specs.Constraints.{Meets}
use Rattle.vrt_model.specs.Faults.{Solves}
use Rattle.vrt_model.specs.FlatBlif.{flat_model_of, signal_at, top_model}
use Rattle.vrt_model.specs.Held.{setting_of}
use Rattle.vrt_model.specs.Lists.{Among}
use Rattle.vrt_model.specs.Reading.{Partial, clock_bit}
use Rattle.vrt_model.specs.State.{Setting}
use Rattle.vrt_model.specs.declared.pairing.ClockedSignal.{ClockedSignal}

-- a net of the module itself is this flat signal
pub record IsNet (modules : List Module) (k : ℕ) (top : Module) (name : List ℕ) (signal : ℕ) : Type 0 where
  pub there : Among (nets_in top) name
  pub is : signal_at (blif_of modules) (top_model k) name ≡ signal

-- the model of a comparison is the flat model of a module, and its inputs and clocks are nets of the module
pub record IsOfModule (c : Comparison) (modules : List Module) (k : ℕ) (top : Module) : Type 0 where
  pub model : c.model ≡ flat_model_of (blif_of modules) k
  pub inputs : (t : Tied) → Among (tied_inputs c) t → (name : List ℕ) × IsNet modules k top name t.signal
  pub clocks : (s : ClockedSignal) → Among c.pairing.clocked s → (name : List ℕ) × IsNet modules k top name s.signal

-- the nets of the ports have the bits that a setting gives the inputs and the phase the clocks
pub record Fits (c : Comparison) (modules : List Module) (k : ℕ) (top : Module) (phase : ℕ) (setting : Setting) (bits : List ℕ → List ℕ → Bool) : Type 0 where
  pub inputs : (t : Tied) → Among (tied_inputs c) t → (name : List ℕ) → IsNet modules k top name t.signal → bits [] name ≡ setting.inputs t.net
  pub clocks : (s : ClockedSignal) → Among c.pairing.clocked s → (name : List ℕ) → IsNet modules k top name s.signal → bits [] name ≡ clock_bit (phase_at c.rules phase) s.clock

-- at a setting the module means something, and at each output port that is observed the circuit has the bit of its net in each meaning
pub record SaysAt (c : Comparison) (modules : List Module) (k : ℕ) (top : Module) (phase : ℕ) (setting : Setting) : Type 0 where
  pub some : (bits : List ℕ → List ℕ → Bool) × IsMeaning modules top bits × Fits c modules k top phase setting bits
  pub outputs :
      (bits : List ℕ → List ℕ → Bool) → IsMeaning modules top bits → Fits c modules k top phase setting bits → (a : Partial) → Solves c phase setting a
      → (port : CellPort) (signal : ℕ) → Among (ports_of c) port → output_signal port.role ≡ Some signal → is_observed_port c.rules (cell_at c.design c.cell).name port.name phase ≡ true
      → (name : List ℕ) → IsNet modules k top name signal → a port.net ≡ Some (bits [] name)

-- in each phase, at each setting that meets the constraints
abbrev pub DoesAsSaid : Comparison → List Module → ℕ → Module → Type 0
DoesAsSaid c modules k top =
    (phase : ℕ) → phase < length c.rules.phases → (bits : List Bool) → Meets c phase bits → SaysAt c modules k top phase (setting_of c phase bits)
