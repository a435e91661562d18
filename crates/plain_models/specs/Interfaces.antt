-- The interface of a model stands first among its flat signals, whatever stands in the model: so a model of covers alone with the same interface
-- has it at the same numbers.
use Rattle.std.specs.Prelude.{◌≡◌, ℕ, not, filter}
use Rattle.plain_models.specs.Flat.{HasDrivers}
use Rattle.plain_models.specs.Texts.{PlainModel, alone}
use Rattle.vrt_model.specs.Elements.{signal_name}
use Rattle.vrt_model.specs.FlatBlif.{flat_model_of, model_at}
use Rattle.vrt_model.specs.Lists.{Among, has_name}
use Rattle.vrt_model.specs.PairedPorts.{interface, pairing_of, ports_fault}
use Rattle.vrt_model.specs.declared.blif.Blif.{Blif}
use Rattle.vrt_model.specs.declared.blif.BlifModel.{BlifModel}
use Rattle.vrt_model.specs.declared.design.Design.{Design}
use Rattle.vrt_model.specs.declared.flat_model.FlatModel.{FlatModel}
use Rattle.vrt_model.specs.declared.rules.Rules.{Rules}

-- a model has the inputs and the outputs of a model of covers alone, and its clocks besides the inputs
pub record IsInterfaceOf (b : BlifModel) (m : PlainModel) : Type 0 where
  pub inputs : b.inputs ≡ m.inputs
  pub clocks : filter (λ name. not (has_name b.inputs name)) b.clocks ≡ m.clocks
  pub outputs : b.outputs ≡ m.outputs

-- two flat models have the same interface, by the numbers of its signals and by their names
pub record SameInterface (one two : FlatModel) : Type 0 where
  pub inputs : one.inputs ≡ two.inputs
  pub clocks : one.clocks ≡ two.clocks
  pub outputs : one.outputs ≡ two.outputs
  pub names : (s : ℕ) → Among (interface one) s → signal_name one s ≡ signal_name two s

-- The law: so it is of a model of a file and of one of covers alone with its interface.
abbrev pub InterfacesAreKept : Type 0
InterfacesAreKept =
    (blif : Blif) (n : ℕ) (m : PlainModel) → HasDrivers m → IsInterfaceOf (model_at blif n) m → SameInterface (flat_model_of blif n) (flat_model_of (alone m) 0)

-- The law: how a cell pairs with a model, and what is in the way, depends on the interface alone.
abbrev pub PairingsAreKept : Type 0
PairingsAreKept =
    (one two : FlatModel) → SameInterface one two → (design : Design) (cell m : ℕ) (rules : Rules)
    → (pairing_of design cell m one rules ≡ pairing_of design cell m two rules) × (ports_fault design cell one rules ≡ ports_fault design cell two rules)
