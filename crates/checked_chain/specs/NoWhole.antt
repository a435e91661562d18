-- The choice by which no instance is left whole.
use Rattle.std.specs.Prelude.{ℕ, Bool, false}
use Rattle.vrt_model.specs.Cut.{Cut}
use Rattle.vrt_model.specs.Unrolled.{Top}

abbrev pub none : ℕ → Bool
none i = false

-- no instance is left whole
abbrev pub whole_nowhere : Top → Cut
whole_nowhere t = record { top = t; choice = none }
