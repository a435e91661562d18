-- The limits on a written model.
use Rattle.std.specs.Prelude.{◌≡◌, ◌≤◌, None, length}
use Rattle.plain_models.specs.Flat.{signal_names}
use Rattle.plain_models.specs.Texts.{alone}
use Rattle.vrt_model.specs.Limits.{most_signals}
use Rattle.vrt_model.specs.Unsupported.{model_limits, too_large}
use Rattle.written_models.specs.Written.{IsWritable, Logic, written_model}

-- The law: with no more signals than a model may have, and no more outputs than signals may be, it passes no limit.
abbrev pub WrittenModelsAreSmall : Type 0
WrittenModelsAreSmall =
    (l : Logic) → IsWritable l → length (signal_names (written_model l)) ≤ most_signals → length l.outputs ≤ most_signals
    → too_large (model_limits (alone (written_model l)) 0) ≡ None
