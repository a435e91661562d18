-- Holds at different nets.
use Rattle.std.specs.Prelude.{◌≢◌, All, List, [], ◌∷◌}
use Rattle.vrt_model.specs.declared.circuit.Hold.{Hold}

-- no two holds are at one net
abbrev pub AreApart : List Hold → Type 0
AreApart [] = Unit {0}
AreApart (h ∷ hs) = All (λ (g : Hold). g.net.0 ≢ h.net.0) hs × AreApart hs
