-- Cells whose ports pair with the signals of a model, where nothing is in the way.
use Rattle.std.specs.Prelude.{◌≡◌, ℕ, ◌⊎◌, List, ◌++◌, Some, None}
use Rattle.vrt_model.specs.Comparison.{cell_at}
use Rattle.vrt_model.specs.Inputs.{AreRules}
use Rattle.vrt_model.specs.Lists.{Among, At}
use Rattle.vrt_model.specs.PairedPorts.{HasRoles, clocked_signals, output_is_input, paired_signal, pairing_of, ports_fault, role_of}
use Rattle.vrt_model.specs.declared.design.Design.{Design}
use Rattle.vrt_model.specs.declared.flat_model.FlatModel.{FlatModel}
use Rattle.vrt_model.specs.declared.pairing.ClockedSignal.{ClockedSignal}
use Rattle.vrt_model.specs.declared.pairing.PortRole.TheVariants.{Input}
use Rattle.vrt_model.specs.declared.rules.Rules.{Rules}

-- no port and no signal is in the way, and no output of the model is an input or a clock
pub record ArePairable (design : Design) (cell : ℕ) (flat : FlatModel) (rules : Rules) : Type 0 where
  pub ports : ports_fault design cell flat rules ≡ None
  pub outputs : output_is_input flat ≡ None

-- The law: two ports do not pair with one signal.
abbrev pub PortsPairApart : Type 0
PortsPairApart =
    (design : Design) (cell : ℕ) (flat : FlatModel) (rules : Rules) (i j : ℕ) (p q : List ℕ) (s : ℕ)
    → ArePairable design cell flat rules → At (cell_at design cell).ports i p → At (cell_at design cell).ports j q
    → paired_signal flat rules (cell_at design cell).name p ≡ Some s → paired_signal flat rules (cell_at design cell).name q ≡ Some s
    → i ≡ j

-- The law: each input and clock of the model carries a clock, or is the signal of an input's port.
abbrev pub InputsAreGiven : Type 0
InputsAreGiven =
    (design : Design) (cell : ℕ) (flat : FlatModel) (rules : Rules) (s : ℕ)
    → ArePairable design cell flat rules → Among (flat.inputs ++ flat.clocks) s
    → ((c : ClockedSignal) × Among (clocked_signals flat rules (cell_at design cell)) c × (c.signal ≡ s))
    ⊎ ((at : ℕ) × (port : List ℕ) × At (cell_at design cell).ports at port × (role_of flat rules (cell_at design cell).name port ≡ Some (Input s)))

-- The law: each port has one role, a supply exactly where it is named as one, and its clock is declared.
abbrev pub PortsHaveRoles : Type 0
PortsHaveRoles =
    (design : Design) (cell m : ℕ) (flat : FlatModel) (rules : Rules)
    → AreRules rules → ArePairable design cell flat rules
    → HasRoles rules (cell_at design cell) (pairing_of design cell m flat rules)
