-- Which models stand in one another as they may.
use Rattle.std.specs.Prelude.{◌≡◌, ◌⊎◌, ℕ, ◌<◌, ◌≤◌, List, map, length, Result, Ok, Err}
use Rattle.vrt_model.specs.FlatBlif.{model_at, model_numbered}
use Rattle.vrt_model.specs.Models.{depth_of_model, models_within}
use Rattle.vrt_model.specs.Nesting.{ContainsItself}
use Rattle.vrt_model.specs.Unrolled.{deepest}
use Rattle.vrt_model.specs.declared.blif.Blif.{Blif}
use Rattle.vrt_model.specs.declared.blif.BlifModel.{BlifModel}
use Rattle.vrt_model.specs.declared.blif.SubLine.{SubLine}
use Rattle.blif_checks.specs.Depths.{AreShallow}
use Rattle.blif_checks.specs.declared.faults.ModelFault.{ModelFault}
use Rattle.blif_checks.specs.declared.faults.ModelFault.TheVariants.{Recursion, Depth, NoMemory}

-- the models that stand directly in each, by their numbers
abbrev pub AreInner : Blif → List (List ℕ) → Type 0
AreInner blif all = all ≡ map (λ (m : BlifModel). map (λ (s : SubLine). model_numbered blif s.model) m.subs) blif.models

-- no model contains itself
abbrev pub AreFounded : Blif → Type 0
AreFounded blif = (n : ℕ) → n < length blif.models → ¬ ContainsItself (models_within blif) n

-- the first model that contains itself
pub record IsFirstRecursive (blif : Blif) (n : ℕ) : Type 0 where
  pub there : n < length blif.models
  pub recursive : ContainsItself (models_within blif) n
  pub first : (k : ℕ) → k < n → ¬ ContainsItself (models_within blif) k

-- the first model deeper than 32
pub record IsFirstDeep (blif : Blif) (n : ℕ) : Type 0 where
  pub there : n < length blif.models
  pub deep : deepest < depth_of_model blif n
  pub first : (k : ℕ) → k < n → depth_of_model blif k ≤ deepest

abbrev pub IsRecursionFault : Blif → ModelFault → Type 0
IsRecursionFault blif f = (n : ℕ) × IsFirstRecursive blif n × (f ≡ Recursion (model_at blif n).line (model_at blif n).name)

abbrev pub IsDepthFault : Blif → ModelFault → Type 0
IsDepthFault blif f = (n : ℕ) × IsFirstDeep blif n × (f ≡ Depth (model_at blif n).line (depth_of_model blif n))

-- a model that contains itself comes before one that is too deep
abbrev pub IsNestingFault : Blif → ModelFault → Type 0
IsNestingFault blif f = IsRecursionFault blif f ⊎ (AreFounded blif × IsDepthFault blif f)

-- A call refuses the first model that contains itself, else the first deeper than 32. Memory may run out.
abbrev pub NestingGives : {T : Type 0} → Blif → Result T ModelFault → Type 0
NestingGives blif (Ok x) = AreShallow blif
NestingGives blif (Err f) = (f ≡ NoMemory) ⊎ IsNestingFault blif f
