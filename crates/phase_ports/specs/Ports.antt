-- The ports of a cell without their names, by their roles: their nets and their places.
use Rattle.std.specs.Prelude.{ℕ, ◌+◌, Bool, cond, List, [], ◌∷◌, Option, Some, None}
use Rattle.phase_ports.specs.declared.port_list.Port.{Port}
use Rattle.vrt_model.specs.Comparison.{CellPort}
use Rattle.vrt_model.specs.declared.pairing.PortRole.{PortRole}
use Rattle.vrt_model.specs.declared.pairing.PortRole.TheVariants.{Supply, Clock, Input, Output}

-- the bit of a supply
abbrev pub supply_bit : PortRole → Option Bool
supply_bit (Supply value) = Some value
supply_bit (Clock clock) = None
supply_bit (Input signal) = None
supply_bit (Output signal) = None

-- the net of a port, where the next port that is no supply has this number
abbrev pub net_by : Option Bool → ℕ → ℕ
net_by None next = next
net_by (Some value) next = cond value 1 0

-- the number for the ports behind it
abbrev pub next_by : Option Bool → ℕ → ℕ
next_by None next = next + 1
next_by (Some value) next = next

abbrev pub port_at : ℕ → ℕ → PortRole → Port
port_at place net role = record { place = place; net = net; role = role }

-- the ports with these roles, from a place on
abbrev pub ports_by : ℕ → ℕ → List PortRole → List Port
ports_by place next [] = []
ports_by place next (role ∷ roles) =
    port_at place (net_by (supply_bit role) next) role ∷ ports_by (place + 1) (next_by (supply_bit role) next) roles

-- a port without its name
abbrev pub unnamed : CellPort → Port
unnamed p = port_at p.place p.net p.role
