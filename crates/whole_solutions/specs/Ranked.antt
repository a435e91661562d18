-- Circuits whose nets have ranks, with whole instances: what settles the nets of a rank, and where a solution has bits.
use Rattle.std.specs.Prelude.{◌≡◌, ℕ, ◌<◌, ◌↔◌, Bool, true, ◌&&◌, ◌||◌, Option, Some, length, nat_le, nat_lt}
use Rattle.cell_inside.specs.Regions.{AreRegions}
use Rattle.vrt_model.specs.Determined.{IsDetermined}
use Rattle.vrt_model.specs.Known.{IsKnown, IsPlain, IsRanking, is_plain_at}
use Rattle.vrt_model.specs.Lists.{Among}
use Rattle.vrt_model.specs.Networks.{HasRanges}
use Rattle.vrt_model.specs.Reading.{bare, devices_of}
use Rattle.vrt_model.specs.Response.{Fight, Float}
use Rattle.vrt_model.specs.Solution.{AlwaysResponds, IsSolution}
use Rattle.vrt_model.specs.State.{Setting}
use Rattle.vrt_model.specs.declared.circuit.Circuit.{Circuit}
use Rattle.vrt_model.specs.declared.circuit.Device.{Device}
use Rattle.vrt_model.specs.declared.rules.Phase.{Phase}
use Rattle.vrt_model.specs.declared.whole.Whole.{Whole}

-- a circuit whose nets have ranks in a phase, with a test of its known nets; its whole instances are determined by what is
-- linked, and its observed nets are nets of the circuit, all gates of the bare one among them
pub record IsRanked (c : Circuit) (phase : Phase) (observed known : ℕ → Bool) (rank : ℕ → ℕ) : Type 0 where
  pub ranges : HasRanges c
  pub wholes : (w : Whole) → Among c.wholes w → IsDetermined c phase observed w
  pub gates : (d : Device) → Among (devices_of bare c) d → observed d.gate.0 ≡ true
  pub nets : (n : ℕ) → observed n ≡ true → n < length c.nets
  pub tested : (n : ℕ) → (known n ≡ true) ↔ ((v : Bool) × IsKnown c phase n v)
  pub ranking : IsRanking c phase rank

-- the plain nets of at most a rank
abbrev pub up_to : Circuit → (ℕ → ℕ) → ℕ → ℕ → Bool
up_to c rank most n = is_plain_at c n && nat_le (rank n) most

-- the observed nets that are known, or plain and of lower rank
abbrev pub known_or_lower : Circuit → (ℕ → Bool) → (ℕ → Bool) → (ℕ → ℕ) → ℕ → ℕ → Bool
known_or_lower c observed known rank most n = observed n && (known n || (is_plain_at c n && nat_lt (rank n) most))

-- The law: the plain nets of at most each rank are regions, whose bases are the observed nets of lower rank and the known ones,
-- where the latter have their bits.
abbrev pub RanksGiveRegions : Type 0
RanksGiveRegions =
    (c : Circuit) (phase : Phase) (setting : Setting) (observed known : ℕ → Bool) (rank : ℕ → ℕ) (bits : ℕ → Bool)
    → IsRanked c phase observed known rank
    → ((n : ℕ) (v : Bool) → observed n ≡ true → IsKnown c phase n v → bits n ≡ v)
    → AreRegions c phase setting observed known (up_to c rank) (known_or_lower c observed known rank) bits

-- The law: where a solution has the bits of known nets, and no observed net below a rank always fights or always floats, each
-- observed net below that rank has a bit.
abbrev pub RankedSolutionsHaveBits : Type 0
RankedSolutionsHaveBits =
    (c : Circuit) (phase : Phase) (setting : Setting) (observed known : ℕ → Bool) (rank : ℕ → ℕ) (a : ℕ → Option Bool) (top : ℕ)
    → IsRanked c phase observed known rank → IsSolution c phase observed setting a
    → ((n : ℕ) (v : Bool) → observed n ≡ true → IsKnown c phase n v → a n ≡ Some v)
    → ((n : ℕ) → observed n ≡ true → rank n < top → IsPlain c n
    → (¬ AlwaysResponds c phase observed setting a bare n Fight) × (¬ AlwaysResponds c phase observed setting a bare n Float))
    → (n : ℕ) → observed n ≡ true → rank n < top → (v : Bool) × (a n ≡ Some v)
