-- The circuit in which instances are left whole that are tried before one, and that instance.
use Rattle.std.specs.Prelude.{◌≡◌, ℕ, suc, ◌<◌, Bool, true, false, List}
use Rattle.placed_cells.specs.Instances.{ShowsInside}
use Rattle.placed_cells.specs.Splits.{IsSplit}
use Rattle.vrt_model.specs.Checked.{IsCircuitWith}
use Rattle.vrt_model.specs.Cut.{Cut, is_inside_whole}
use Rattle.vrt_model.specs.Inputs.{IsDesign}
use Rattle.vrt_model.specs.Unrolled.{Place}
use Rattle.vrt_model.specs.declared.blif.Blif.{Blif}
use Rattle.vrt_model.specs.declared.circuit.Circuit.{Circuit}
use Rattle.vrt_model.specs.declared.whole.CellFacts.{CellFacts}

-- only instances before place i are chosen
abbrev pub AreBefore : (ℕ → Bool) → ℕ → Type 0
AreBefore choice i = (j : ℕ) → choice j ≡ true → j < i

-- The law: the circuit in which some of the instances before one are left whole shows that instance and all in it, where it is in
-- none of them.
abbrev pub CutShowsInside : Type 0
CutShowsInside =
    (cut : Cut) (blif : Blif) (facts : List CellFacts) (c : Circuit) (i : ℕ) (p : Place) (depth : ℕ) (before behind : List Place)
    → IsDesign cut.top.design → IsSplit cut.top (suc i) p depth before behind → AreBefore cut.choice i → is_inside_whole cut p ≡ false
    → IsCircuitWith cut blif facts c → ShowsInside cut.top p depth before behind c
