-- What a net of a part shows, as tests of the gates of the part and of the signals at a reading.
use Rattle.std.specs.Prelude.{ℕ, Bool, true, false, cond, List, Option, is_none, option_map, slice_get, unwrap_or}
use Rattle.std.specs.List.{list_any}
use Rattle.known_nets.specs.KnownTables.{known_at}
use Rattle.vrt_model.specs.Lists.{bit_at}
use Rattle.vrt_model.specs.declared.circuit.Circuit.{Circuit}
use Rattle.vrt_model.specs.declared.circuit.Device.{Device}
use Rattle.vrt_model.specs.declared.ids.Dev.{Dev}
use Rattle.witness.specs.declared.seen.Seen.{Seen}
use Rattle.witness.specs.declared.seen.Seen.TheVariants.{Bit, Fight, Float, Blocked}

-- the device of this number is there, and its gate has no bit
abbrev pub is_stopped_at : Circuit → List (Option Bool) → Dev → Bool
is_stopped_at c bits k = unwrap_or (option_map (λ (d : Device). is_none (known_at bits d.gate.0)) (slice_get c.devices k.0)) false

abbrev pub is_stopped : Circuit → List (Option Bool) → List Dev → Bool
is_stopped c bits devices = list_any (is_stopped_at c bits) devices

-- what is seen of a net that the values 0 and 1 reach or do not
abbrev pub seen_by : Bool → Bool → Seen
seen_by true true = Fight
seen_by true false = Bit false
seen_by false true = Bit true
seen_by false false = Float

-- a reading: the bits that there are, and else 0
abbrev pub filled : List (Option Bool) → ℕ → Bool
filled bits n = unwrap_or (known_at bits n) false

abbrev pub look : Circuit → List (Option Bool) → List Dev → List Bool → List Bool → ℕ → Seen
look c bits devices zeros ones n = cond (is_stopped c bits devices) Blocked (seen_by (bit_at zeros n) (bit_at ones n))
