-- What is asked of a cell whose instances may be left whole, by its devices, its ports and its global nets.
use Rattle.std.specs.Prelude.{ℕ, ◌==◌, Bool, true, not, ◌||◌, List, option_map, slice_get, unwrap_or}
use Rattle.phase_ports.specs.declared.port_list.Port.{Port}
use Rattle.whole_circuits.specs.Outputs.{meets}
use Rattle.vrt_model.specs.Checked.{may_meet_channels}
use Rattle.vrt_model.specs.declared.circuit.Device.{Device}
use Rattle.vrt_model.specs.declared.ids.Net.{Net}

-- the channel of a device ends at a net
abbrev pub ends_at : ℕ → Device → Bool
ends_at n d = (d.left.0 == n) || (d.right.0 == n)

-- channels may meet the net of a port, or none does
abbrev pub is_port_free : List Device → Port → Bool
is_port_free devices p = may_meet_channels p.role || not (meets devices p.net)

-- the net at a place is supply 0, or there is none
abbrev pub is_zero_at : List Net → ℕ → Bool
is_zero_at nets j = unwrap_or (option_map (λ (n : Net). n.0 == 0) (slice_get nets j)) true
