-- What is known of nets and devices before anything is solved.
use Rattle.std.specs.Prelude.{ℕ, Bool, true, false, List, Option, option_map, slice_get, unwrap_or}
use Rattle.known_nets.specs.KnownTables.{known_at}
pub use Rattle.vrt_model.specs.Known.{is_plain_at, is_plain_kind}
use Rattle.vrt_model.specs.Reading.{conducts_at}
use Rattle.vrt_model.specs.declared.circuit.Circuit.{Circuit}
use Rattle.vrt_model.specs.declared.circuit.Device.{Device}
use Rattle.vrt_model.specs.declared.circuit.FlatNet.{FlatNet}
use Rattle.vrt_model.specs.declared.circuit.NetKind.{NetKind}
use Rattle.vrt_model.specs.declared.circuit.NetKind.TheVariants.{Supply, Clock, Input, Plain}

abbrev pub is_input_kind : NetKind → Bool
is_input_kind (Supply value) = false
is_input_kind (Clock clock) = false
is_input_kind Input = true
is_input_kind Plain = false

-- whether the net is there and an input
abbrev pub is_input_at : Circuit → ℕ → Bool
is_input_at c n = unwrap_or (option_map (λ (net : FlatNet). is_input_kind net.kind) (slice_get c.nets n)) false

-- whether a device conducts, where its gate is known
abbrev pub conduction_of : List (Option Bool) → Device → Option Bool
conduction_of known d = option_map (conducts_at d.kind) (known_at known d.gate.0)
