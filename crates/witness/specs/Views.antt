-- What all nets show at given bits, as tests of parts and of signals.
use Rattle.std.specs.Prelude.{ℕ, ◌&&◌, ◌==◌, Bool, false, cond, List, Option, map, unwrap_or}
use Rattle.std.specs.List.{list_any}
use Rattle.channel_parts.specs.declared.part.Part.{Part}
use Rattle.plain_paths.specs.declared.signals.Signals.{Signals}
use Rattle.vrt_model.specs.Lists.{bit_at}
use Rattle.vrt_model.specs.declared.circuit.Circuit.{Circuit}
use Rattle.vrt_model.specs.declared.ids.Net.{Net}
use Rattle.witness.specs.Looks.{is_stopped, seen_by}
use Rattle.witness.specs.Replays.{bit_shown}
use Rattle.witness.specs.declared.seen.Seen.{Seen}
use Rattle.witness.specs.declared.seen.Seen.TheVariants.{Blocked}

-- whether a net is one of these
abbrev pub has_net : List Net → ℕ → Bool
has_net nets n = list_any (λ (net : Net). net.0 == n) nets

-- the net is of the part, and some gate of the part has no bit
abbrev pub stops : Circuit → List (Option Bool) → ℕ → Part → Bool
stops c bits n part = is_stopped c bits part.devices && has_net part.nets n

abbrev pub filled_list : List (Option Bool) → List Bool
filled_list bits = map (λ (bit : Option Bool). unwrap_or bit false) bits

abbrev pub view_by : Bool → List Bool → List Bool → ℕ → Seen
view_by stopped zeros ones n = cond stopped Blocked (seen_by (bit_at zeros n) (bit_at ones n))

-- the bit that a net shows by these signals, if it shows one
abbrev pub shown_by : Signals → ℕ → Option Bool
shown_by signals n = bit_shown (seen_by (bit_at signals.zeros.items n) (bit_at signals.ones.items n))
