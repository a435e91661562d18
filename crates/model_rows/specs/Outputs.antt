-- The outputs of a model's covers and latches.
use Rattle.std.specs.Prelude.{ℕ, ◌++◌, List, map}
use Rattle.vrt_model.specs.declared.flat_model.Cover.{Cover}
use Rattle.vrt_model.specs.declared.flat_model.FlatLatch.{FlatLatch}
use Rattle.vrt_model.specs.declared.flat_model.FlatModel.{FlatModel}

-- those of the covers, and behind them those of the latches
abbrev pub outputs_in : FlatModel → List ℕ
outputs_in flat = map (λ (c : Cover). c.output) flat.covers ++ map (λ (l : FlatLatch). l.output) flat.latches
