-- Models without latches whose covers read inputs alone.
use Rattle.std.specs.Prelude.{◌≡◌, ℕ, ◌<◌, ◌⊎◌, List, [], length}
use Rattle.vrt_model.specs.Assignment.{Surroundings, Tied}
use Rattle.vrt_model.specs.Lists.{Among}
use Rattle.vrt_model.specs.declared.flat_model.Cover.{Cover}
use Rattle.vrt_model.specs.declared.flat_model.FlatModel.{FlatModel}

abbrev pub IsTied : List Tied → ℕ → Type 0
IsTied tied s = (t : Tied) × Among tied t × (t.signal ≡ s)

abbrev pub IsCovered : FlatModel → ℕ → Type 0
IsCovered flat s = (cover : Cover) × Among flat.covers cover × (cover.output ≡ s)

-- no latch and no clock; each signal is tied to one net or is the output of one cover, and covers read tied signals
pub record IsLogic (flat : FlatModel) (around : Surroundings) : Type 0 where
  pub latches : flat.latches ≡ []
  pub clocked : around.clocked ≡ []
  pub driven : (s : ℕ) → s < length flat.signals → IsTied around.tied s ⊎ IsCovered flat s
  pub reads : (cover : Cover) (s : ℕ) → Among flat.covers cover → Among cover.inputs s → IsTied around.tied s
  pub apart : (cover : Cover) → Among flat.covers cover → ¬ IsTied around.tied cover.output
  pub once : (cover other : Cover) → Among flat.covers cover → Among flat.covers other → cover.output ≡ other.output → cover ≡ other
  pub ties : (t u : Tied) → Among around.tied t → Among around.tied u → t.signal ≡ u.signal → t.net ≡ u.net
