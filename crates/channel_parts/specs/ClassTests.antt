-- The class of a part as tests of its devices and nets.
use Rattle.std.specs.Prelude.{ℕ, ◌&&◌, ◌||◌, Bool, false, not, cond, List, Option, option_map, slice_get, unwrap_or}
use Rattle.std.specs.List.{list_any}
use Rattle.channel_parts.specs.declared.part.Part.{Part}
use Rattle.channel_parts.specs.Classes.{pulled_to}
use Rattle.channel_parts.specs.PhaseTables.{is_switched}
use Rattle.channel_parts.specs.declared.class.Class.{Class}
use Rattle.channel_parts.specs.declared.class.Class.TheVariants.{Static, Pass, Domino}
use Rattle.channel_parts.specs.declared.class.ClassLine.{ClassLine}
use Rattle.known_nets.specs.Conduction.{is_input_at}
use Rattle.vrt_model.specs.Known.{is_plain_at}
use Rattle.vrt_model.specs.Lists.{mark_at}
use Rattle.vrt_model.specs.declared.circuit.Circuit.{Circuit}
use Rattle.vrt_model.specs.declared.circuit.Device.{Device}
use Rattle.vrt_model.specs.declared.circuit.FlatNet.{FlatNet}
use Rattle.vrt_model.specs.declared.circuit.NetKind.{NetKind}
use Rattle.vrt_model.specs.declared.circuit.NetKind.TheVariants.{Supply, Clock, Input, Plain}
use Rattle.vrt_model.specs.declared.ids.Dev.{Dev}
use Rattle.vrt_model.specs.declared.ids.Net.{Net}

-- ---- nets

-- the net is there, and its kind passes the test
abbrev pub kind_at : (NetKind → Bool) → Circuit → ℕ → Bool
kind_at test c n = unwrap_or (option_map (λ (net : FlatNet). test net.kind) (slice_get c.nets n)) false

abbrev pub is_supply_kind : Bool → NetKind → Bool
is_supply_kind value (Supply own) = cond value own (not own)
is_supply_kind value (Clock clock) = false
is_supply_kind value Input = false
is_supply_kind value Plain = false

-- a plain net with a hold
abbrev pub is_stored : Circuit → List Bool → ℕ → Bool
is_stored c held n = is_plain_at c n && mark_at held n

-- ---- devices

-- one net is a plain one with a hold, and the other a supply of this value
abbrev pub is_between : Circuit → List Bool → Bool → ℕ → ℕ → Bool
is_between c held value net supply = is_stored c held net && kind_at (is_supply_kind value) c supply

abbrev pub is_stage : Circuit → List Bool → List (List (Option Bool)) → Device → Bool
is_stage c held tables d =
    (is_between c held (pulled_to d.kind) d.left.0 d.right.0 || is_between c held (pulled_to d.kind) d.right.0 d.left.0) && is_switched tables d.gate.0

abbrev pub meets_input : Circuit → Device → Bool
meets_input c d = is_input_at c d.left.0 || is_input_at c d.right.0

-- the device of this number is there, and passes the test
abbrev pub device_at : (Device → Bool) → Circuit → ℕ → Bool
device_at test c k = unwrap_or (option_map test (slice_get c.devices k)) false

-- ---- parts

abbrev pub has_stage : Circuit → List Bool → List (List (Option Bool)) → List Dev → Bool
has_stage c held tables devices = list_any (λ (k : Dev). device_at (is_stage c held tables) c k.0) devices

abbrev pub has_input : Circuit → List Dev → Bool
has_input c devices = list_any (λ (k : Dev). device_at (meets_input c) c k.0) devices

abbrev pub has_hold : List Bool → List Net → Bool
has_hold held nets = list_any (λ (n : Net). mark_at held n.0) nets

abbrev pub class_by : Circuit → List Bool → List (List (Option Bool)) → Part → Class
class_by c held tables part =
    cond (has_stage c held tables part.devices) Domino (cond (has_input c part.devices || has_hold held part.nets) Pass Static)

-- the first net of a part
abbrev pub first_net : List Net → Net
first_net nets = unwrap_or (slice_get nets 0) (record { 0 = 0 })

abbrev pub line_by : Circuit → List Bool → List (List (Option Bool)) → Part → ClassLine
line_by c held tables part = record { net = first_net part.nets; class = class_by c held tables part }
