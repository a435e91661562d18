-- A cell that pairs with a model pairs with the written one of that name.
use Rattle.std.specs.Prelude.{◌≡◌, ℕ}
use Rattle.plain_models.specs.Texts.{alone}
use Rattle.vrt_model.specs.FlatBlif.{model_at}
use Rattle.vrt_model.specs.PairedPorts.{Model, paired_model}
use Rattle.vrt_model.specs.declared.blif.Blif.{Blif}
use Rattle.vrt_model.specs.declared.design.Design.{Design}
use Rattle.vrt_model.specs.declared.rules.Rules.{Rules}
use Rattle.written_models.specs.Written.{Logic, written_model}

-- The law: by a rule, or by its own name.
abbrev pub WrittenModelsPair : Type 0
WrittenModelsPair =
    (design : Design) (blif : Blif) (rules : Rules) (cell m : ℕ) (l : Logic) → (model_at blif m).name ≡ l.name
    → paired_model design blif rules cell ≡ Model m → paired_model design (alone (written_model l)) rules cell ≡ Model 0
