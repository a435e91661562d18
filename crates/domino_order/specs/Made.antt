-- How many elements latches have.
use Rattle.std.specs.Prelude.{ℕ, ◌+◌, List, [], ◌∷◌}
use Rattle.vrt_model.specs.Elements.{element_count}
use Rattle.vrt_model.specs.declared.flat_model.FlatLatch.{FlatLatch}

abbrev pub latch_elements : List FlatLatch → ℕ
latch_elements [] = 0
latch_elements (latch ∷ latches) = element_count latch.kind + latch_elements latches
