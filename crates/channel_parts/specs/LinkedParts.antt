-- The parts of all devices are those of the circuit whose gates are all at one more net, an input: nothing is known of it,
-- so no device is off.
use Rattle.std.specs.Prelude.{◌≡◌, ℕ, ◌<◌, ◌↔◌, List, [], ◌∷◌, ◌++◌, length, map, slice_get, Some}
use Rattle.channel_parts.specs.PartLists.{IsRising, device_numbers, least_of, net_numbers}
use Rattle.channel_parts.specs.declared.part.Part.{Part}
use Rattle.channel_parts.specs.Classes.{IsLinked, IsLinkedDevice}
use Rattle.vrt_model.specs.Known.{IsPlain}
use Rattle.vrt_model.specs.Lists.{At, Among}
use Rattle.vrt_model.specs.declared.circuit.Circuit.{Circuit}
use Rattle.vrt_model.specs.declared.circuit.Device.{Device}
use Rattle.vrt_model.specs.declared.circuit.FlatNet.{FlatNet}
use Rattle.vrt_model.specs.declared.circuit.NetKind.{NetKind}
use Rattle.vrt_model.specs.declared.circuit.NetKind.TheVariants.{Supply, Clock, Input, Plain}

-- ---- the circuit of channels

-- plain nets stay, and all others are inputs
abbrev pub channel_kind : NetKind → NetKind
channel_kind (Supply value) = Input
channel_kind (Clock clock) = Input
channel_kind Input = Input
channel_kind Plain = Plain

abbrev pub channel_net : FlatNet → FlatNet
channel_net net = record { name = []; kind = channel_kind net.kind }

-- the net of all gates
abbrev pub gate_net : FlatNet
gate_net = record { name = []; kind = Input }

abbrev pub channel_nets : List FlatNet → List FlatNet
channel_nets nets = map channel_net nets ++ gate_net ∷ []

abbrev pub channel_device : ℕ → Device → Device
channel_device gate d = record {
  name = [];
  kind = d.kind;
  gate = record { 0 = gate };
  left = d.left;
  right = d.right;
  level = d.level;
  keeper = d.keeper;
}

abbrev pub channel_circuit : Circuit → Circuit
channel_circuit c = record {
  nets = channel_nets c.nets;
  devices = map (channel_device (length c.nets)) c.devices;
  holds = [];
  instances = [];
  wholes = [];
  source = c.source;
}

-- ---- its parts

-- a part has exactly the nets that channels join to its least net, by number, and exactly the devices that meet one
pub record IsLinkedPart (c : Circuit) (part : Part) : Type 0 where
  pub first : slice_get (net_numbers part.nets) 0 ≡ Some (least_of part)
  pub nets : (n : ℕ) → Among (net_numbers part.nets) n ↔ IsLinked c (least_of part) n
  pub net_order : IsRising (net_numbers part.nets)
  pub devices : (k : ℕ) → Among (device_numbers part.devices) k ↔ ((d : Device) × At c.devices k d × IsLinkedDevice c (least_of part) d)

-- the parts by least net, and each plain net is in one
pub record AreLinkedParts (c : Circuit) (list : List Part) : Type 0 where
  pub each : (part : Part) → Among list part → IsLinkedPart c part
  pub all : (n : ℕ) → IsPlain c n → (part : Part) × Among list part × Among (net_numbers part.nets) n
  pub sorted : (i j : ℕ) (p q : Part) → At list i p → At list j q → i < j → least_of p < least_of q
