-- The names of the nets of a cell without instances, and the nets of ports.
use Rattle.std.specs.Prelude.{ℕ, List, [], ◌∷◌, ◌++◌, filter, flat_map, Bool, drop, Option, Some, None, slice_get, if◌then◌else◌}
use Rattle.names.specs.Names.{with_name}
use Rattle.vrt_model.specs.FlatCircuit.{kind_by}
use Rattle.vrt_model.specs.Lists.{has_name}
use Rattle.vrt_model.specs.declared.circuit.FlatNet.{FlatNet}
use Rattle.vrt_model.specs.declared.design.Cell.{Cell}
use Rattle.vrt_model.specs.declared.design.DeviceCard.{DeviceCard}
use Rattle.vrt_model.specs.declared.pairing.PortRole.{PortRole}

-- ---- names of nets that are no supplies

-- which supply a name is
abbrev pub Supplies : Type 0
Supplies = List ℕ → Option Bool

-- the names with one net more, the last, unless it is there or is a supply
abbrev pub with_net : Supplies → List (List ℕ) → List ℕ → List (List ℕ)
with_net supply names name =
    elim (supply name) [
      | None ↦ with_name names name
      | Some value ↦ names
    ]

abbrev pub with_nets : Supplies → List (List ℕ) → List (List ℕ) → List (List ℕ)
with_nets supply names [] = names
with_nets supply names (x ∷ xs) = with_nets supply (with_net supply names x) xs

-- the same, if the name is among others
abbrev pub with_named : Supplies → List (List ℕ) → List (List ℕ) → List ℕ → List (List ℕ)
with_named supply named names name = if has_name named name then with_net supply names name else names

-- the nets that a card names, in order, and those that cards name
abbrev pub card_nets : DeviceCard → List (List ℕ)
card_nets card = card.drain ∷ card.gate ∷ card.source ∷ []

abbrev pub nets_named : List DeviceCard → List (List ℕ)
nets_named cards = flat_map card_nets cards

-- those of some names that cards name
abbrev pub globals_named : List DeviceCard → List (List ℕ) → List (List ℕ)
globals_named cards globals = filter (has_name (nets_named cards)) globals

-- the ports; then the global nets that a card names; then the other nets in the order of first mention
abbrev pub port_table : Supplies → Cell → List (List ℕ)
port_table supply cell = with_nets supply [] cell.ports

abbrev pub names_table : Supplies → List (List ℕ) → Cell → List (List ℕ)
names_table supply globals cell =
    with_nets supply (with_nets supply (port_table supply cell) (globals_named cell.devices globals)) (nets_named cell.devices)

-- ---- nets of ports

-- the net of a port with the first of some roles, if it is no supply
abbrev pub port_net_in : Supplies → List ℕ → List PortRole → List FlatNet
port_net_in supply name roles =
    elim (supply name) [
      | None ↦ record { name = name; kind = kind_by (slice_get roles 0) } ∷ []
      | Some value ↦ []
    ]

-- the ports that are no supplies, by their roles
abbrev pub port_nets_in : Supplies → List (List ℕ) → List PortRole → List FlatNet
port_nets_in supply [] roles = []
port_nets_in supply (name ∷ names) roles = port_net_in supply name roles ++ port_nets_in supply names (drop 1 roles)
