-- How deep models stand in one another.
use Rattle.std.specs.Prelude.{ℕ, ◌<◌, ◌≤◌, List, map, length, position, unwrap_or, bytes_eq}
use Rattle.vrt_model.specs.Models.{depth_of_model, models_within}
use Rattle.vrt_model.specs.Nesting.{ContainsItself, depth_in}
use Rattle.vrt_model.specs.Unrolled.{deepest}
use Rattle.vrt_model.specs.declared.blif.Blif.{Blif}
use Rattle.vrt_model.specs.declared.blif.BlifModel.{BlifModel}
use Rattle.vrt_model.specs.declared.blif.SubLine.{SubLine}

-- the depth of a model, as far as so many levels below it show: a model in which none stands has depth 1
unfoldable pub depth_after : Blif → ℕ → ℕ → ℕ
depth_after blif rounds n = depth_in (models_within blif) rounds n

-- the models that stand directly in each, by their numbers
abbrev pub numbers_in : List (List ℕ) → BlifModel → List ℕ
numbers_in names model = map (λ (s : SubLine). unwrap_or (position (bytes_eq s.model) names) 0) model.subs

-- none contains itself, and none is deeper than 32
pub record AreShallow (blif : Blif) : Type 0 where
  pub well_founded : (n : ℕ) → n < length blif.models → ¬ ContainsItself (models_within blif) n
  pub depth_limit : (n : ℕ) → n < length blif.models → depth_of_model blif n ≤ deepest
