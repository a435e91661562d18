-- Solutions that have a bit at each observed net.
use Rattle.std.specs.Prelude.{◌≡◌, ℕ, ◌<◌, Bool, true, Option, Some}
use Rattle.channel_parts.specs.OneSolution.{AreDetermined, AreObserved}
use Rattle.vrt_model.specs.Known.{IsPlain, IsRanking}
use Rattle.vrt_model.specs.Networks.{HasRanges}
use Rattle.vrt_model.specs.Reading.{bare}
use Rattle.vrt_model.specs.Response.{Fight, Float, Response}
use Rattle.vrt_model.specs.Solution.{AlwaysResponds, IsSolution}
use Rattle.vrt_model.specs.State.{Setting}
use Rattle.vrt_model.specs.declared.circuit.Circuit.{Circuit}
use Rattle.vrt_model.specs.declared.rules.Phase.{Phase}

-- an assignment has a bit at a net
abbrev pub HasBitAt : (ℕ → Option Bool) → ℕ → Type 0
HasBitAt a n = (v : Bool) × (a n ≡ Some v)

-- The law: where a solution has a bit at each observed net of lower rank than a plain net, that net always responds in one way.
abbrev pub SettledNetsRespond : Type 0
SettledNetsRespond =
    (c : Circuit) (phase : Phase) (observed : ℕ → Bool) (setting : Setting) (rank : ℕ → ℕ) (a : ℕ → Option Bool)
    → HasRanges c → AreObserved c observed → AreDetermined c phase observed → IsRanking c phase rank → IsSolution c phase observed setting a
    → (n : ℕ) → IsPlain c n → ((m : ℕ) → observed m ≡ true → rank m < rank n → HasBitAt a m)
    → (r : Response) × AlwaysResponds c phase observed setting a bare n r

-- The law: a solution has a bit at each observed net where no plain net always fights and no observed net always floats.
abbrev pub SolutionsAreDefined : Type 0
SolutionsAreDefined =
    (c : Circuit) (phase : Phase) (observed : ℕ → Bool) (setting : Setting) (rank : ℕ → ℕ) (a : ℕ → Option Bool)
    → HasRanges c → AreObserved c observed → AreDetermined c phase observed → IsRanking c phase rank → IsSolution c phase observed setting a
    → ((n : ℕ) → IsPlain c n → ¬ AlwaysResponds c phase observed setting a bare n Fight)
    → ((n : ℕ) → observed n ≡ true → ¬ AlwaysResponds c phase observed setting a bare n Float)
    → (n : ℕ) → observed n ≡ true → HasBitAt a n
