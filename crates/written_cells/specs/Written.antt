-- A cell with the written model in the place of its models.
use Rattle.std.specs.Prelude.{◌≡◌, ℕ}
use Rattle.plain_models.specs.Flat.{flat_form}
use Rattle.plain_models.specs.Interfaces.{IsInterfaceOf}
use Rattle.plain_models.specs.Texts.{alone}
use Rattle.same_phases.specs.Phases.{IsUnclocked}
use Rattle.vrt_model.specs.Comparison.{Comparison, tied_inputs}
use Rattle.vrt_model.specs.Equal.{IsEqual}
use Rattle.vrt_model.specs.FlatBlif.{model_at}
use Rattle.vrt_model.specs.Unsupported.{comparison_of}
use Rattle.vrt_model.specs.declared.blif.Blif.{Blif}
use Rattle.vrt_model.specs.declared.design.Design.{Design}
use Rattle.vrt_model.specs.declared.rules.Rules.{Rules}
use Rattle.whole_ranks.specs.Logic.{IsLogicModel}
use Rattle.written_cells.specs.Exchanged.{HasNoState, exchanged}
use Rattle.written_cells.specs.Outputs.{IsWrittenOf}
use Rattle.written_models.specs.Written.{IsWritable, Logic, written_model}

-- The law: the comparison with the written model alone is that with the old one, with the models exchanged, where they have one interface.
abbrev pub ComparisonsAreExchanged : Type 0
ComparisonsAreExchanged =
    (design : Design) (blif : Blif) (rules : Rules) (cell m : ℕ) (l : Logic) → IsWritable l → IsInterfaceOf (model_at blif m) (written_model l)
    → comparison_of design (alone (written_model l)) rules cell 0 ≡ exchanged (comparison_of design blif rules cell m) (flat_form (written_model l)) 0

-- an equal cell without clock ports and state, and what is written of it: the interface of its model, and the functions of its outputs, by a model
-- each signal of which is driven once
pub record IsWrittenFor (k : Comparison) (blif : Blif) (m : ℕ) (l : Logic) : Type 0 where
  pub unclocked : IsUnclocked k.circuit
  pub stateless : HasNoState k
  pub equal : IsEqual k
  pub writable : IsWritable l
  pub interface : IsInterfaceOf (model_at blif m) (written_model l)
  pub written : IsWrittenOf k l
  pub logic : IsLogicModel (flat_form (written_model l)) k.pairing.clocked (tied_inputs k)

-- The law: with the written model in the place of all models the cell is equal.
abbrev pub WrittenCellsAreEqual : Type 0
WrittenCellsAreEqual =
    (design : Design) (blif : Blif) (rules : Rules) (cell m : ℕ) (l : Logic) → IsWrittenFor (comparison_of design blif rules cell m) blif m l
    → IsEqual (comparison_of design (alone (written_model l)) rules cell 0)
