-- The variables as they are listed are those of the definition.
use Rattle.std.proofs.Common.{◌≡◌, ℕ, ◌<◌, ◌≤◌, List, length, map, arith, refl, ap, ap₂, ◌∙◌}
use mathlib.Core.Path.{fun_ext}
use Rattle.vrt_model.specs.Elements.{element_names}
use Rattle.vrt_model.specs.Variables.{variable_name, variables_of}
use Rattle.vrt_model.specs.declared.circuit.Circuit.{Circuit}
use Rattle.vrt_model.specs.declared.flat_model.FlatModel.{FlatModel}
use Rattle.vrt_model.specs.declared.groups.Group.{Group as HoldGroup}
use Rattle.vrt_model.specs.declared.groups.Source.{Source}
use Rattle.vrt_model.specs.declared.groups.Source.TheVariants.{Input, Element, Group}
use Rattle.vrt_model.specs.declared.groups.Vars.{Vars}
use Rattle.hold_groups.specs.Given.{AreFilled}
use Rattle.hold_groups.specs.Sources.{name_in, sources_by}

sources_are : (c : Circuit) (flat : FlatModel) (groups : List HoldGroup) (phase : ℕ) → sources_by c (element_names flat) groups phase ≡ variables_of c flat groups phase
unfolding variables_of
sources_are c flat groups phase = refl

name_is : (c : Circuit) (flat : FlatModel) (groups : List HoldGroup) (s : Source) → name_in c (element_names flat) groups s ≡ variable_name c flat groups s
name_is c flat groups (Input net) = refl
name_is c flat groups (Element e) = refl
name_is c flat groups (Group g) = refl

module _ (c : Circuit) (flat : FlatModel) (groups : List HoldGroup) (phase count : ℕ) (vars : Vars) (filled : AreFilled c (element_names flat) groups phase vars count) where
  sources_listed : vars.sources ≡ variables_of c flat groups phase
  sources_listed = filled.sources ∙ sources_are c flat groups phase

  pub counted : count ≡ length (variables_of c flat groups phase)
  counted = filled.count_is ∙ ap (λ (xs : List Source). length xs) (sources_are c flat groups phase)

  pub listed : count ≤ 1000
      → (length (variables_of c flat groups phase) ≤ 1000) × (vars.sources ≡ variables_of c flat groups phase)
      × (vars.names ≡ map (variable_name c flat groups) (variables_of c flat groups phase))
  listed few = (
    omega (arith, few, counted),
    sources_listed,
    filled.names few ∙ ap₂ (λ (f : Source → List ℕ) (xs : List Source). map f xs) (fun_ext (name_is c flat groups)) (sources_are c flat groups phase),
  )

  pub too_many : 1000 < count → (1000 < length (variables_of c flat groups phase)) × (count ≡ length (variables_of c flat groups phase))
  too_many many = (omega (arith, many, counted), counted)
