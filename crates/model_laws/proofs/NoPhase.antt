-- Without a phase every comparison is equal: so rules have one (`AreRules`).
use Rattle.std.proofs.Common.{◌<◌, [], arith}
use Rattle.vrt_model.specs.Comparison.{Comparison}
use Rattle.vrt_model.specs.Equal.{IsEqual}

pub no_phase : (k : Comparison) → IsEqual (record k { rules = record (k.rules) { phases = [] } })
no_phase k phase lt = absurd (none lt)
  where
    none : phase < 0 → ⊥
    none h = omega (arith, h)
