-- The nets of the ports of a cell, by the roles of the ports.
use Rattle.std.specs.Prelude.{ℕ, List, [], ◌∷◌, slice_get, unwrap_or}
use Rattle.phase_ports.specs.Ports.{net_by, next_by, supply_bit}
use Rattle.vrt_model.specs.declared.pairing.PortRole.{PortRole}

-- the nets of ports with these roles, where the first that is no supply has this number
abbrev pub nets_by : ℕ → List PortRole → List ℕ
nets_by next [] = []
nets_by next (role ∷ roles) = net_by (supply_bit role) next ∷ nets_by (next_by (supply_bit role) next) roles

-- the net of the port at a place, 0 where there is none
abbrev pub net_at : ℕ → List PortRole → ℕ → ℕ
net_at next roles place = unwrap_or (slice_get (nets_by next roles) place) 0
