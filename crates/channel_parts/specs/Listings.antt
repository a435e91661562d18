-- The plain nets in the order of parts.
use Rattle.std.specs.Prelude.{◌≡◌, ℕ, ◌<◌, ◌==◌, Bool, List, slice_index}
use Rattle.std.specs.List.{IsDistinct}
use Rattle.std.specs.List.Sorted.{IsSorted}
use Rattle.std.specs.Ordering.{nat_cmp, ordering_then}
use Rattle.std.specs.declared.cmp.Ordering.{Ordering}
use Rattle.vrt_model.specs.Known.{IsPlain}
use Rattle.vrt_model.specs.Lists.{Among}
use Rattle.vrt_model.specs.declared.circuit.Circuit.{Circuit}

-- by rank, then by the least net of the part, then by the net
abbrev pub order_cmp : (ℕ × ℕ) × ℕ → (ℕ × ℕ) × ℕ → Ordering
order_cmp x y = ordering_then (ordering_then (nat_cmp x.0.0 y.0.0) (nat_cmp x.0.1 y.0.1)) (nat_cmp x.1 y.1)

abbrev pub same_net : (ℕ × ℕ) × ℕ → (ℕ × ℕ) × ℕ → Bool
same_net x y = x.1 == y.1

-- the rank of a net and the least net of its part
abbrev pub key_of : List ℕ → List ℕ → ℕ → ℕ × ℕ
key_of ranks least n = (slice_index ranks n, slice_index least n)

-- the plain nets below a bound, each once after its key
pub record ArePairs (c : Circuit) (ranks least : List ℕ) (bound : ℕ) (pairs : List ((ℕ × ℕ) × ℕ)) : Type 0 where
  pub distinct : IsDistinct same_net pairs
  pub all : (n : ℕ) → n < bound → IsPlain c n → Among pairs (key_of ranks least n, n)
  pub each : (p : (ℕ × ℕ) × ℕ) → Among pairs p → (p.1 < bound) × IsPlain c p.1 × (p.0 ≡ key_of ranks least p.1)

-- the plain nets, each after its rank and the least net of its part, in order
pub record AreInOrder (c : Circuit) (ranks least : List ℕ) (nets : List ((ℕ × ℕ) × ℕ)) : Type 0 where
  pub sorted : IsSorted order_cmp nets
  pub distinct : IsDistinct same_net nets
  pub all : (n : ℕ) → IsPlain c n → Among nets ((slice_index ranks n, slice_index least n), n)
  pub each : (p : (ℕ × ℕ) × ℕ) → Among nets p → IsPlain c p.1 × (p.0 ≡ (slice_index ranks p.1, slice_index least p.1))
