-- Comparisons whose circuits and models are well formed, and whose models pair with the ports of their cells.
use Rattle.std.specs.Prelude.{◌≡◌, ℕ, ◌<◌, ◌⊎◌, ◌++◌, length}
use Rattle.checked_chain.specs.Arcs.{AreOutputsApart}
use Rattle.vrt_model.specs.Assignment.{Tied}
use Rattle.vrt_model.specs.Circuits.{IsCircuit}
use Rattle.vrt_model.specs.Comparison.{CellPort, Comparison, cell_at, tied_inputs}
use Rattle.vrt_model.specs.FlatModels.{IsFlatModel}
use Rattle.vrt_model.specs.Inputs.{AreRules, IsBlif}
use Rattle.vrt_model.specs.Lists.{Among}
use Rattle.vrt_model.specs.Models.{AreModels}
use Rattle.vrt_model.specs.PairedPorts.{HasRoles}
use Rattle.vrt_model.specs.Unsupported.{IsSupported, comparison_of}
use Rattle.vrt_model.specs.declared.blif.Blif.{Blif}
use Rattle.vrt_model.specs.declared.design.Design.{Design}
use Rattle.vrt_model.specs.declared.pairing.ClockedSignal.{ClockedSignal}
use Rattle.vrt_model.specs.declared.rules.Rules.{Rules}
use Rattle.whole_ranks.specs.Logic.{IsClocked, IsTied}
use Rattle.whole_ranks.specs.WholeCells.{IsOutputAt}

-- an input or a clock of the model
abbrev pub IsModelInput : Comparison → ℕ → Type 0
IsModelInput k s = Among (k.model.inputs ++ k.model.clocks) s

-- each input and clock of the model carries a clock, or has the bit of a port's net, and of one alone; outputs of the cell are different
-- signals of the model, and no inputs
pub record HasPairedSignals (k : Comparison) : Type 0 where
  pub all : (s : ℕ) → IsModelInput k s → IsClocked k.pairing.clocked s ⊎ IsTied (tied_inputs k) s
  pub clocked : (s : ℕ) → IsClocked k.pairing.clocked s → IsModelInput k s
  pub tied : (s : ℕ) → IsTied (tied_inputs k) s → IsModelInput k s
  pub apart : (s : ℕ) → IsClocked k.pairing.clocked s → ¬ IsTied (tied_inputs k) s
  pub one_clock : (a b : ClockedSignal) → Among k.pairing.clocked a → Among k.pairing.clocked b → a.signal ≡ b.signal → a.clock ≡ b.clock
  pub one_net : (a b : Tied) → Among (tied_inputs k) a → Among (tied_inputs k) b → a.signal ≡ b.signal → a.net ≡ b.net
  pub one_port : AreOutputsApart k
  pub outputs : (place : ℕ) (port : CellPort) (s : ℕ) → IsOutputAt k place port s → (s < length k.model.signals) × (¬ IsModelInput k s)

-- a well-formed circuit and a well-formed model, paired
pub record IsFormed (k : Comparison) : Type 0 where
  pub circuit : IsCircuit k.circuit
  pub model : IsFlatModel k.model
  pub roles : HasRoles k.rules (cell_at k.design k.cell) k.pairing
  pub signals : HasPairedSignals k

-- models and rules as their readers give them
pub record AreRead (blif : Blif) (rules : Rules) : Type 0 where
  pub names : IsBlif blif
  pub models : AreModels blif
  pub valid : AreRules rules

-- The law: the comparison of each supported cell is well formed.
abbrev pub SupportedCellsAreFormed : Type 0
SupportedCellsAreFormed =
    (design : Design) (blif : Blif) (rules : Rules) (cell m : ℕ)
    → AreRead blif rules → IsSupported design blif rules cell m
    → IsFormed (comparison_of design blif rules cell m)
