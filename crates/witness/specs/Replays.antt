-- What the nets of a circuit show at one valuation, by plain bits.
use Rattle.std.specs.Prelude.{◌≡◌, ℕ, Bool, true, false, List, None, Option, Some, filter, length, option_map, slice_get, take, unwrap_or}
use Rattle.vrt_model.specs.Known.{IsInPart, IsKnown}
use Rattle.vrt_model.specs.Lists.{At, bit_at}
use Rattle.vrt_model.specs.Reading.{HasGivenBit, is_given}
use Rattle.vrt_model.specs.Response.{Fight as FightThere, Float as FloatThere, IsResponse, Response, Shows}
use Rattle.vrt_model.specs.State.{IsState, Setting, State, network_of}
use Rattle.vrt_model.specs.Variables.{is_input}
use Rattle.vrt_model.specs.declared.circuit.Circuit.{Circuit}
use Rattle.vrt_model.specs.declared.circuit.Device.{Device}
use Rattle.vrt_model.specs.declared.circuit.FlatNet.{FlatNet}
use Rattle.vrt_model.specs.declared.rules.Phase.{Phase}
use Rattle.witness.specs.declared.seen.Seen.{Seen}
use Rattle.witness.specs.declared.seen.Seen.TheVariants.{Bit, Fight, Float, Blocked}

-- ---- the valuation

-- the bit of an input net is that of its place among the inputs; the bit of a hold is that of its place
abbrev pub input_place : Circuit → ℕ → ℕ
input_place c n = length (filter (λ (net : FlatNet). is_input net.kind) (take n c.nets))

abbrev pub setting_of : Circuit → List Bool → List Bool → Setting
setting_of c held inputs = record {
  inputs = λ n. bit_at inputs (input_place c n);
  held = bit_at held;
  elements = λ e. false;
}

-- ---- bits of nets

-- the bit that a net shows, if it shows one
abbrev pub bit_shown : Seen → Option Bool
bit_shown (Bit value) = Some value
bit_shown Fight = None
bit_shown Float = None
bit_shown Blocked = None

abbrev pub bits_shown : List Seen → ℕ → Option Bool
bits_shown seen n = unwrap_or (option_map bit_shown (slice_get seen n)) None

-- a reading has these bits
abbrev pub HasBits : (ℕ → Option Bool) → (ℕ → Bool) → Type 0
HasBits bits reading = (n : ℕ) (v : Bool) → bits n ≡ Some v → reading n ≡ v

-- nets with a given value have it
abbrev pub HasGivenBits : Circuit → Phase → (ℕ → Bool) → (ℕ → Option Bool) → Type 0
HasGivenBits c phase inputs bits =
    (n : ℕ) (net : FlatNet) (v : Bool) → At c.nets n net → is_given net.kind ≡ true → HasGivenBit phase inputs net.kind n v → bits n ≡ Some v

-- known nets have their bits
abbrev pub HasKnownNets : Circuit → Phase → (ℕ → Option Bool) → Type 0
HasKnownNets c phase bits = (n : ℕ) (v : Bool) → IsKnown c phase n v → bits n ≡ Some v

-- ---- what a net shows

-- some gate of the part of a net, in the bare or the kept circuit, has no bit
abbrev pub IsBlocked : Circuit → Phase → (ℕ → Option Bool) → Bool → ℕ → Type 0
IsBlocked c phase bits which n = (d : Device) × IsInPart c phase which n d × (bits d.gate.0 ≡ None)

-- a net responds so in the bare or the kept circuit in every state with these bits
abbrev pub Responds : Circuit → Phase → Setting → (ℕ → Option Bool) → Bool → ℕ → Response → Type 0
Responds c phase setting bits which n r =
    (s : State) → IsState c phase setting.inputs s → HasBits bits s.reading → IsResponse (network_of c which setting.held s) n r

-- a net shows this: nothing is said of it where its part is blocked, and else its response
abbrev pub HasSeen : Circuit → Phase → Setting → (ℕ → Option Bool) → Bool → ℕ → Seen → Type 0
HasSeen c phase setting bits which n Blocked = IsBlocked c phase bits which n
HasSeen c phase setting bits which n (Bit value) = (¬ IsBlocked c phase bits which n) × Responds c phase setting bits which n (Shows value)
HasSeen c phase setting bits which n Fight = (¬ IsBlocked c phase bits which n) × Responds c phase setting bits which n FightThere
HasSeen c phase setting bits which n Float = (¬ IsBlocked c phase bits which n) × Responds c phase setting bits which n FloatThere

-- What all nets show in the bare and in the kept circuit, by net, where gates have the bits of the bare one.
pub record AreValues (c : Circuit) (phase : Phase) (setting : Setting) (bare kept : List Seen) : Type 0 where
  pub bare_count : length bare ≡ length c.nets
  pub kept_count : length kept ≡ length c.nets
  pub given : HasGivenBits c phase setting.inputs (bits_shown bare)
  pub known : HasKnownNets c phase (bits_shown bare)
  pub bare_seen : (n : ℕ) (seen : Seen) → At bare n seen → HasSeen c phase setting (bits_shown bare) true n seen
  pub kept_seen : (n : ℕ) (seen : Seen) → At kept n seen → HasSeen c phase setting (bits_shown bare) false n seen
