-- Input ports that are named to rise.
use Rattle.std.specs.Prelude.{◌≡◌, ◌+◌, ◌&&◌, ◌∷◌, [], ◌++◌, ℕ, List, Option, Some, None, Result, Ok, Err, bytes_eq, cond, false, is_some, map}
use Rattle.mode_lines.specs.Lists.{Tells, first_fault}
use Rattle.mode_lines.specs.declared.valuations.AtFault.{AtFault}
use Rattle.mode_lines.specs.declared.valuations.AtFault.TheVariants.{NoSuchName, Twice}
use Rattle.vrt_model.specs.Comparison.{Comparison, cell_at, input_signal}
use Rattle.vrt_model.specs.Lists.{has_name}
use Rattle.vrt_model.specs.declared.pairing.PortRole.{PortRole}

-- ---- one name

-- the place of the first input of a name among ports by their names and roles, which are numbered from a number on
abbrev pub input_from : ℕ → List (List ℕ) → List PortRole → List ℕ → Option ℕ
input_from at [] roles name = None
input_from at (own ∷ names) [] name = None
input_from at (own ∷ names) (role ∷ roles) name = cond (bytes_eq own name && is_some (input_signal role)) (Some at) (input_from (at + 1) names roles name)

-- the place of the first input port of a name
abbrev pub input_named : Comparison → List ℕ → Option ℕ
input_named k name = input_from 0 (cell_at k.design k.cell).ports k.pairing.ports name

-- the fault of a name behind others, whose input port is at this place: there is none, or the name stands before
abbrev pub name_fault : Option ℕ → List (List ℕ) → List ℕ → Option AtFault
name_fault None before name = Some (NoSuchName name)
name_fault (Some place) before name = cond (has_name before name) (Some (Twice name)) None

abbrev pub PlaceGives : Option ℕ → List (List ℕ) → List ℕ → Result ℕ AtFault → Type 0
PlaceGives found before name (Ok place) = (found ≡ Some place) × (has_name before name ≡ false)
PlaceGives found before name (Err told) = Tells (name_fault found before name) told

-- its place was added behind others, or it has a fault
abbrev pub AddsPlace : Option ℕ → List (List ℕ) → List ℕ → List ℕ → List ℕ → Result (Unit {0}) AtFault → Type 0
AddsPlace found before name old new (Ok done) = (place : ℕ) × (new ≡ old ++ place ∷ []) × (found ≡ Some place) × (has_name before name ≡ false)
AddsPlace found before name old new (Err told) = Tells (name_fault found before name) told

-- ---- several names

-- the first fault of names behind others
abbrev pub fault_from : (List ℕ → Option ℕ) → List (List ℕ) → List (List ℕ) → Option AtFault
fault_from place_of before [] = None
fault_from place_of before (name ∷ names) = first_fault (name_fault (place_of name) before name) (fault_from place_of (before ++ name ∷ []) names)

-- no name has a fault, and these are their places
pub record ArePlaced (place_of : List ℕ → Option ℕ) (names : List (List ℕ)) (places : List ℕ) : Type 0 where
  pub no_fault : fault_from place_of [] names ≡ None
  pub places_are : map place_of names ≡ map (λ (place : ℕ). Some place) places

-- places were found, of which these are all; or the first fault
abbrev pub PlacesGive : (List ℕ → Option ℕ) → List (List ℕ) → List ℕ → Result (Unit {0}) AtFault → Type 0
PlacesGive place_of names places (Ok done) = ArePlaced place_of names places
PlacesGive place_of names places (Err told) = Tells (fault_from place_of [] names) told

-- ---- ports of a cell

-- the first fault of names of ports that are to rise
abbrev pub rising_fault : Comparison → List (List ℕ) → Option AtFault
rising_fault k names = fault_from (input_named k) [] names

-- no name of ports that are to rise has a fault, and these are their places
abbrev pub AreNamed : Comparison → List (List ℕ) → List ℕ → Type 0
AreNamed k names places = ArePlaced (input_named k) names places
