-- Regions of a circuit: sets of plain nets whose responses the bits of a base settle, whatever the rest of the circuit does.
use Rattle.std.specs.Prelude.{◌≡◌, ℕ, ◌<◌, ◌⊎◌, Bool, true, Option, Some}
use Rattle.vrt_model.specs.Known.{IsPlain}
use Rattle.vrt_model.specs.Lists.{Among, At}
use Rattle.vrt_model.specs.Networks.{HasRanges}
use Rattle.vrt_model.specs.Path.{Joins}
use Rattle.vrt_model.specs.Reading.{conducts, devices_of, is_given}
use Rattle.vrt_model.specs.Response.{IsResponse, Response, Shows}
use Rattle.vrt_model.specs.Solution.{AlwaysResponds, IsSolution}
use Rattle.vrt_model.specs.State.{IsState, OutputPin, Setting, State, network_of, output_pins}
use Rattle.vrt_model.specs.declared.circuit.Circuit.{Circuit}
use Rattle.vrt_model.specs.declared.circuit.Device.{Device}
use Rattle.vrt_model.specs.declared.circuit.FlatNet.{FlatNet}
use Rattle.vrt_model.specs.declared.rules.Phase.{Phase}

-- the net is a supply, an input or a clock port
abbrev pub IsGivenNet : Circuit → ℕ → Type 0
IsGivenNet c n = (net : FlatNet) × At c.nets n net × (is_given net.kind ≡ true)

-- the state has these bits at the nets of the base
abbrev pub HasBits : (ℕ → Bool) → (ℕ → Bool) → State → Type 0
HasBits base bits s = (n : ℕ) → base n ≡ true → s.reading n ≡ bits n

-- the nets are plain; the gates of the devices at them are in the base or given; where the base has its bits, conducting devices
-- join them to each other and to given nets alone, and each output pin at them is driven with one bit
pub record IsRegion (c : Circuit) (phase : Phase) (setting : Setting) (region base bits : ℕ → Bool) : Type 0 where
  pub plain : (n : ℕ) → region n ≡ true → IsPlain c n
  pub gates : (n m : ℕ) (d : Device) → region n ≡ true → Among (devices_of true c) d → Joins d m n → (base d.gate.0 ≡ true) ⊎ IsGivenNet c d.gate.0
  pub bounded :
      (n m : ℕ) (d : Device) (s : State) → region n ≡ true → Among (devices_of true c) d → Joins d m n → IsState c phase setting.inputs s → HasBits base bits s
      → conducts s.reading d ≡ true → (region m ≡ true) ⊎ IsGivenNet c m
  pub pins :
      (s t : State) → IsState c phase setting.inputs s → IsState c phase setting.inputs t → HasBits base bits s → HasBits base bits t
      → (at : ℕ) (out : OutputPin) → At (output_pins c) at out → region out.pin.net.0 ≡ true → s.driven at ≡ t.driven at

-- each output pin is at a plain net
abbrev pub ArePinsPlain : Circuit → Type 0
ArePinsPlain c = (out : OutputPin) → Among (output_pins c) out → IsPlain c out.pin.net.0

-- The law: the nets of a region respond alike in any two states in which its base has its bits.
abbrev pub RegionIsLocal : Type 0
RegionIsLocal =
    (c : Circuit) (phase : Phase) (setting : Setting) (region base bits : ℕ → Bool) (s t : State)
    → HasRanges c → ArePinsPlain c → IsRegion c phase setting region base bits
    → IsState c phase setting.inputs s → IsState c phase setting.inputs t → HasBits base bits s → HasBits base bits t
    → (n : ℕ) (r : Response) → region n ≡ true → IsResponse (network_of c true setting.held s) n r → IsResponse (network_of c true setting.held t) n r

-- regions that stand one upon the other, one of each rank: the base of each is observed, and is fixed from outside, as known nets
-- are, or in a region of a lower rank
pub record AreRegions (c : Circuit) (phase : Phase) (setting : Setting) (observed fixed : ℕ → Bool) (region base : ℕ → ℕ → Bool) (bits : ℕ → Bool) : Type 0 where
  pub each : (rank : ℕ) → IsRegion c phase setting (region rank) (base rank) bits
  pub below : (rank n : ℕ) → base rank n ≡ true → (observed n ≡ true) × ((fixed n ≡ true) ⊎ ((lower : ℕ) × (lower < rank) × (region lower n ≡ true)))

-- The law: where a state shows its own bits at the bases, and has those of a solution at what is fixed, the solution has these
-- bits at the bases, and each net of a region always responds as in that state, be it by a bit, a fight or a float.
abbrev pub RegionsAreSolved : Type 0
RegionsAreSolved =
    (c : Circuit) (phase : Phase) (setting : Setting) (observed fixed : ℕ → Bool) (region base : ℕ → ℕ → Bool) (s : State) (a : ℕ → Option Bool)
    → HasRanges c → ArePinsPlain c → AreRegions c phase setting observed fixed region base s.reading
    → IsState c phase setting.inputs s
    → ((n : ℕ) → fixed n ≡ true → observed n ≡ true → a n ≡ Some (s.reading n))
    → ((rank n : ℕ) → base rank n ≡ true → (fixed n ≡ true) ⊎ IsResponse (network_of c true setting.held s) n (Shows (s.reading n)))
    → IsSolution c phase observed setting a
    → ((rank n : ℕ) → base rank n ≡ true → a n ≡ Some (s.reading n))
    × ((rank n : ℕ) (r : Response) → region rank n ≡ true → IsResponse (network_of c true setting.held s) n r → AlwaysResponds c phase observed setting a true n r)
