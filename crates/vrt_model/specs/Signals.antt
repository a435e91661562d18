-- The signals of a network as tables: the strength of each net, and which values reach it by clear paths.
use Rattle.std.specs.Prelude.{◌≡◌, ℕ, Bool, true, false, List, ◌↔◌, slice_index}
use Rattle.vrt_model.specs.Lists.{bit_at}
use Rattle.vrt_model.specs.Path.{Network}
use Rattle.vrt_model.specs.Response.{Fight, Float, IsStrength, Reaches, Response, Shows}

-- the entries are by the numbers of the nets
pub record AreSignals (w : Network) (strengths : List ℕ) (zeros ones : List Bool) : Type 0 where
  pub strength : (n : ℕ) → IsStrength w n (slice_index strengths n)
  pub reached_by_zero : (n : ℕ) → (bit_at zeros n ≡ true) ↔ Reaches w n false
  pub reached_by_one : (n : ℕ) → (bit_at ones n ≡ true) ↔ Reaches w n true

-- the response of a net that 0 and 1 reach or do not reach
abbrev pub response_by : Bool → Bool → Response
response_by true true = Fight
response_by true false = Shows false
response_by false true = Shows true
response_by false false = Float
