-- The paths of the places of an unrolled cell.
use Rattle.std.specs.Prelude.{◌≡◌, ◌⊎◌, ℕ, Bool, List, ◌∷◌, ◌++◌, bytes_eq}
use Rattle.vrt_model.specs.Comparison.{cell_at}
use Rattle.vrt_model.specs.Inputs.{AllApart, IsDesign}
use Rattle.vrt_model.specs.Lists.{Among}
use Rattle.vrt_model.specs.Unrolled.{Place, Step, Top, places_in}
use Rattle.vrt_model.specs.declared.design.Design.{Design}
use Rattle.vrt_model.specs.declared.design.InstanceCard.{InstanceCard}

-- two cards have one name
abbrev pub same_card : InstanceCard → InstanceCard → Bool
same_card a b = bytes_eq a.name b.name

-- the step from a place to the instance of a card
abbrev pub step_at : Top → Place → InstanceCard → Step
step_at t q card = record { instance = card.name; within = (cell_at t.design q.cell).name }

-- the path of a place goes on from this one
abbrev pub GoesOn : Place → List Step → Type 0
GoesOn r path = (steps : List Step) × (r.path ≡ steps ++ path)

-- and from it over the step to the instance of one of these cards
abbrev pub GoesOver : Top → Place → List InstanceCard → Place → Type 0
GoesOver t q cards r = (c : InstanceCard) × Among cards c × (steps : List Step) × (r.path ≡ steps ++ step_at t q c ∷ q.path)

abbrev pub InstancesAreApart : Type 0
InstancesAreApart = (design : Design) → IsDesign design → (k : ℕ) → AllApart same_card (cell_at design k).instances

abbrev pub PathsGoOn : Type 0
PathsGoOn = (t : Top) (depth : ℕ) (q r : Place) → Among (places_in t depth q) r → (r ≡ q) ⊎ GoesOver t q (cell_at t.design q.cell).instances r
