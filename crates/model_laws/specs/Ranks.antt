-- Ranks of a circuit whose gates are nets with given values.
use Rattle.std.specs.Prelude.{ℕ, false, cond, option_map, slice_get, unwrap_or}
use Rattle.vrt_model.specs.Reading.{is_given}
use Rattle.vrt_model.specs.declared.circuit.Circuit.{Circuit}
use Rattle.vrt_model.specs.declared.circuit.FlatNet.{FlatNet}

-- nets with given values have rank 0, and all others 1
unfoldable pub rank_of : Circuit → ℕ → ℕ
rank_of c n = cond (unwrap_or (option_map (λ (net : FlatNet). is_given net.kind) (slice_get c.nets n)) false) 0 1
