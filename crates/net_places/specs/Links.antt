-- Places of an unrolled netlist by tables, and those of the definition.
use Rattle.std.specs.Prelude.{◌≡◌, ℕ, suc, ◌+◌, ◌≤◌, ◌<◌, List, ◌∷◌, length, map, Some, None}
use Rattle.net_places.specs.declared.places.Place.{Place}
use Rattle.net_places.specs.declared.whole.Unrolled.{Unrolled}
use Rattle.net_tables.specs.Places.{global_place}
use Rattle.vrt_model.specs.Comparison.{cell_at}
use Rattle.vrt_model.specs.FlatCircuit.{flat_nets, net_id}
use Rattle.vrt_model.specs.Lists.{Among, At, place_of}
use Rattle.vrt_model.specs.Unrolled.{Place as FlatPlace, Step, Top, all_places, first_global, globals_of, own_nets, path_text}
use Rattle.vrt_model.specs.declared.design.InstanceCard.{InstanceCard}
use Rattle.vrt_model.specs.declared.ids.Net.{Net}

-- a place: its cell, how deep it is, its path, the flat nets of its ports, and the flat net of its first own net
pub record Bare : Type 0 where
  pub cell : ℕ
  pub depth : ℕ
  pub path : List ℕ
  pub ports : List ℕ
  pub base : ℕ

abbrev pub shown : Place → Bare
shown p = record { cell = p.cell; depth = p.depth; path = p.path; ports = map (λ (n : Net). n.0) p.ports; base = p.base }

abbrev pub bare : FlatPlace → Bare
bare at = record { cell = at.cell; depth = length at.path; path = path_text at.path; ports = at.ports; base = at.base }

-- the flat nets of the nets on `.global` cards, where they are global nets of the checked cell
abbrev pub AreGlobalNets : Top → List Net → Type 0
AreGlobalNets t globals = (j k : ℕ) → j < length t.design.globals → global_place t j ≡ Some k → At globals j (net_id (first_global t + k))

-- the others are net 0
abbrev pub AreNoOthers : Top → List Net → Type 0
AreNoOthers t globals = (j : ℕ) (name : List ℕ) → At t.design.globals j name → place_of (globals_of t) name ≡ None → At globals j (net_id 0)

-- the step from a place to an instance in it
abbrev pub step_of : Top → FlatPlace → InstanceCard → Step
step_of t outer card = record { instance = card.name; within = (cell_at t.design outer.cell).name }

-- among these places, the path to a place is the step of its card before the path to the place around it
pub record IsInside (t : Top) (all : List FlatPlace) (number : ℕ) (p : Place) (at outer : FlatPlace) (card : InstanceCard) : Type 0 where
  pub before : p.around < number
  pub around : At all p.around outer
  pub on_card : At (cell_at t.design outer.cell).instances p.card card
  pub path : at.path ≡ step_of t outer card ∷ outer.path

-- each place but the whole stands in the place around it
abbrev pub AreNested : Top → List FlatPlace → ℕ → List Place → List FlatPlace → Type 0
AreNested t all number places flat =
    (i : ℕ) (p : Place) (at : FlatPlace) → At places (suc i) p → At flat (suc i) at → (outer : FlatPlace) × (card : InstanceCard) × IsInside t all (number + suc i) p at outer card

-- the places of an unrolled cell, and the flat nets of its global nets
pub record IsUnrolled (t : Top) (unrolled : Unrolled) : Type 0 where
  pub places_are : map shown unrolled.places ≡ map bare (all_places t)
  pub nested : AreNested t (all_places t) 0 unrolled.places (all_places t)
  pub globals_are : AreGlobalNets t unrolled.globals
  pub others_are : AreNoOthers t unrolled.globals
  pub cells : (at : FlatPlace) → Among (all_places t) at → at.cell < length t.design.cells
  pub room : (at : FlatPlace) → Among (all_places t) at → at.base + length (own_nets t.design t.rules (cell_at t.design at.cell)) ≤ length (flat_nets t)
