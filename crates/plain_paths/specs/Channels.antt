-- The channels of the devices that conduct, as the rounds go over them.
use Rattle.std.specs.Prelude.{◌≡◌, ℕ, ◌<◌, ◌⊎◌, ◌&&◌, Bool, List, [], filter, map}
use Rattle.vrt_model.specs.Levels.{source_level}
use Rattle.vrt_model.specs.Lists.{Among}
use Rattle.vrt_model.specs.Path.{IsOn, Network}
use Rattle.vrt_model.specs.Reading.{conducts, is_in}
use Rattle.vrt_model.specs.declared.circuit.Circuit.{Circuit}
use Rattle.vrt_model.specs.declared.circuit.Device.{Device}
use Rattle.plain_paths.specs.declared.channels.Channel.{Channel}

-- a device of the bare or the kept circuit that conducts
abbrev pub is_on : Bool → (ℕ → Bool) → Device → Bool
is_on bare reading d = is_in bare d && conducts reading d

abbrev pub channel_of : Device → Channel
channel_of d = record { left = d.left.0; right = d.right.0; level = d.level }

-- the channels of those of some devices that conduct
abbrev pub channels_over : Bool → (ℕ → Bool) → List Device → List Channel
channels_over bare reading devices = map channel_of (filter (is_on bare reading) devices)

abbrev pub channels_of : Bool → (ℕ → Bool) → Circuit → List Channel
channels_of bare reading c = channels_over bare reading c.devices

-- the nets of a channel are below a count
abbrev pub IsInRange : ℕ → Channel → Type 0
IsInRange count ch = (ch.left < count) × (ch.right < count)

-- the channel joins two nets, in either direction
abbrev pub Connects : Channel → ℕ → ℕ → Type 0
Connects ch m n = ((ch.left ≡ m) × (ch.right ≡ n)) ⊎ ((ch.left ≡ n) × (ch.right ≡ m))

-- the channels are those of the conducting devices of a network
pub record HasChannels (w : Network) (channels : List Channel) : Type 0 where
  pub each : (ch : Channel) → Among channels ch → (d : Device) × IsOn w d × (channel_of d ≡ ch)
  pub all : (d : Device) → IsOn w d → Among channels (channel_of d)

-- a network over the nets and holds of a circuit, without output pins
pub record IsOver (c : Circuit) (w : Network) : Type 0 where
  pub nets : w.nets ≡ c.nets
  pub holds : w.holds ≡ c.holds
  pub outputs : w.outputs ≡ []
  pub source : w.source ≡ source_level c
