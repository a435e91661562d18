-- Names of signals, by number and by the roles of ports.
use Rattle.std.specs.Prelude.{ℕ, List, [], Option, option_map, slice_get, unwrap_or}
use Rattle.vrt_model.specs.Comparison.{input_signal}
use Rattle.vrt_model.specs.declared.pairing.PortRole.{PortRole}

-- the name of a signal
abbrev pub name_in : List (List ℕ) → ℕ → List ℕ
name_in signals s = unwrap_or (slice_get signals s) []

-- the name of the signal of an input port
abbrev pub input_name : List (List ℕ) → PortRole → Option (List ℕ)
input_name signals role = option_map (name_in signals) (input_signal role)
