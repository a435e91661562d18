-- The words of inputs.
use Rattle.std.specs.Prelude.{◌≡◌, ℕ, true, List, position}
use Rattle.node_pool.specs.declared.region.Span.{Span}
use Rattle.bdd_core.specs.Diagram.{Valuation}
use Rattle.bdd_core.specs.Store.{Diagrams}
use Rattle.bdd_core.specs.Words.{shows}
use Rattle.hold_keep.specs.Rooted.{bit_by}
use Rattle.known_nets.specs.Conduction.{is_input_at}
use Rattle.vrt_model.specs.Held.{is_input_of}
use Rattle.vrt_model.specs.declared.circuit.Circuit.{Circuit}
use Rattle.vrt_model.specs.declared.groups.Source.{Source}

-- the word of a net, if it is an input, has the bit at the place of its variable
abbrev pub HasInput : Circuit → List Source → Diagrams → Span → ℕ → Type 0
HasInput c sources d roots n = is_input_at c n ≡ true → (v : Valuation) → shows d roots n v ≡ bit_by (position (is_input_of n) sources) v
