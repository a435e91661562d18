-- That nothing stands against a cell with the written model in the place of its models.
use Rattle.std.specs.Prelude.{◌≡◌, ℕ, None}
use Rattle.plain_models.specs.Interfaces.{IsInterfaceOf}
use Rattle.plain_models.specs.Texts.{alone}
use Rattle.vrt_model.specs.FlatBlif.{model_at}
use Rattle.vrt_model.specs.PairedPorts.{Model, paired_model}
use Rattle.vrt_model.specs.Unsupported.{IsSupported, comparison_of, model_limits, too_large}
use Rattle.vrt_model.specs.declared.blif.Blif.{Blif}
use Rattle.vrt_model.specs.declared.design.Design.{Design}
use Rattle.vrt_model.specs.declared.rules.Rules.{Rules}
use Rattle.written_cells.specs.Exchanged.{HasNoState}
use Rattle.written_models.specs.Written.{IsWritable, Logic, written_model}

-- a supported cell without state, and what is written of its model's interface: the cell pairs with the written model by name, and this passes no
-- limit
pub record IsWrittenWithin (design : Design) (blif : Blif) (rules : Rules) (cell m : ℕ) (l : Logic) : Type 0 where
  pub supported : IsSupported design blif rules cell m
  pub stateless : HasNoState (comparison_of design blif rules cell m)
  pub writable : IsWritable l
  pub interface : IsInterfaceOf (model_at blif m) (written_model l)
  pub paired : paired_model design (alone (written_model l)) rules cell ≡ Model 0
  pub small : too_large (model_limits (alone (written_model l)) 0) ≡ None

-- The law: with the written model in the place of all models the cell is supported.
abbrev pub WrittenCellsAreSupported : Type 0
WrittenCellsAreSupported =
    (design : Design) (blif : Blif) (rules : Rules) (cell m : ℕ) (l : Logic) → IsWrittenWithin design blif rules cell m l
    → IsSupported design (alone (written_model l)) rules cell 0
