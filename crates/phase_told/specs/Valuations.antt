-- A valuation that stands in words of a store, and the values of a fault there.
use Rattle.std.specs.Prelude.{◌≡◌, ℕ, ◌<◌, Bool, List, Option, map}
use Rattle.std.specs.List.{range_with_len}
use Rattle.node_pool.specs.declared.region.Span.{Span}
use Rattle.bdd_core.specs.Diagram.{Valuation}
use Rattle.bdd_core.specs.Store.{Diagrams}
use Rattle.bdd_core.specs.declared.handle.H.{H}
use Rattle.bdd_ops.specs.Ops.{bits_in}
use Rattle.phase_terms.specs.Found.{circuit_bit, wanted_bit}

-- the valuation in the first so many words of a span: 1 where the word is 1
abbrev pub valuation_in : Diagrams → Span → ℕ → List Bool
valuation_in d words count = map (bits_in d.words words.start) (range_with_len 0 count)

-- each variable of the store has the bit of its word
abbrev pub StandsIn : Diagrams → Span → Valuation → Type 0
StandsIn d words v = (x : ℕ) → x < d.vars → v x ≡ bits_in d.words words.start x

-- the bits of the values of a fault, if it is printed with any, at a valuation
abbrev pub HasValues : Diagrams → Option (H × H) → List Bool → Option Bool × Option Bool → Type 0
HasValues d values bits told = (told.0 ≡ circuit_bit d values bits) × (told.1 ≡ wanted_bit d values bits)
