-- The parts of plain nets by labels: the label of a net is a net of its part, and in the end the least.
use Rattle.std.specs.Prelude.{ℕ, ◌≤◌, ◌&&◌, Bool, true, List, None, Option, Some, slice_index}
use Rattle.known_nets.specs.Conduction.{conduction_of, is_plain_at}
use Rattle.vrt_model.specs.Known.{IsPlain, IsTogether}
use Rattle.vrt_model.specs.Reading.{is_in}
use Rattle.vrt_model.specs.declared.circuit.Circuit.{Circuit}
use Rattle.vrt_model.specs.declared.circuit.Device.{Device}
use Rattle.vrt_model.specs.declared.rules.Phase.{Phase}

-- a device of which it is not known that it does not conduct
abbrev pub may_conduct : Option Bool → Bool
may_conduct None = true
may_conduct (Some on) = on

-- the device is in the bare or the kept circuit, may conduct, and joins two plain nets
abbrev pub joins_plain_nets : Circuit → List (Option Bool) → Bool → Device → Bool
joins_plain_nets c known bare d = (is_in bare d && may_conduct (conduction_of known d)) && (is_plain_at c d.left.0 && is_plain_at c d.right.0)

-- the least net of the part of a net, in the bare or the kept circuit
pub record IsLeastTogether (c : Circuit) (phase : Phase) (bare : Bool) (n least : ℕ) : Type 0 where
  pub together : IsTogether c phase bare n least
  pub lowest : (m : ℕ) → IsTogether c phase bare n m → least ≤ m

-- no label is above its net
abbrev pub AreBelow : List ℕ → Type 0
AreBelow t = (n : ℕ) → slice_index t n ≤ n

-- the label of each plain net is a net of its part
abbrev pub AreOfParts : Circuit → Phase → Bool → List ℕ → Type 0
AreOfParts c phase bare t = (n : ℕ) → IsPlain c n → IsTogether c phase bare n (slice_index t n)
