-- The nets of an unrolled cell behind its ports.
use Rattle.std.specs.Prelude.{ℕ, Bool, false, not, cond, ◌==◌, List, [], ◌∷◌, map, drop, slice_get, Option, Some, None}
use Rattle.net_places.specs.Places.{nets_at}
use Rattle.net_places.specs.declared.places.Place.{Place}
use Rattle.net_tables.specs.declared.tables.NetTables.{NetTables}
use Rattle.vrt_model.specs.FlatCircuit.{plain_net}
use Rattle.vrt_model.specs.Lists.{path_name}
use Rattle.vrt_model.specs.declared.circuit.FlatNet.{FlatNet}
use Rattle.vrt_model.specs.declared.ids.Net.{Net}

-- the own nets of a place
abbrev pub own_by : NetTables → Place → List FlatNet
own_by tables p = map (λ (name : List ℕ). plain_net (path_name p.path name)) (nets_at tables p.cell).names.own

-- a flat net that is no supply
abbrev pub is_given : Option Net → Bool
is_given None = false
is_given (Some net) = not (net.0 == 0)

-- the names whose flat nets are no supplies
abbrev pub given_names : List (List ℕ) → List Net → List (List ℕ)
given_names [] nets = []
given_names (name ∷ names) nets = cond (is_given (slice_get nets 0)) (name ∷ given_names names (drop 1 nets)) (given_names names (drop 1 nets))
