-- Nets at which pins are.
use Rattle.std.specs.Prelude.{◌≡◌, ℕ, ◌==◌, Bool, not, ◌&&◌, ◌||◌, List, ◌++◌}
use Rattle.std.specs.List.{list_all}
use Rattle.whole_circuits.specs.Outputs.{own_outputs}
use Rattle.whole_circuits.specs.Taken.{AreTaken, admits, joins, taken_at}
use Rattle.whole_circuits.specs.declared.taken.Taken.{Taken}
use Rattle.vrt_model.specs.WholeInstances.{OutputAt}
use Rattle.vrt_model.specs.declared.whole.Drive.{Drive}
use Rattle.vrt_model.specs.declared.whole.WholePin.{WholePin}

-- a pin is not at the net, or may be met there by an output of a drive
abbrev pub may_meet_pin : ℕ → Drive → WholePin → Bool
may_meet_pin n drive p = not (p.net.0 == n) || joins drive p.drive

-- some pins come to their nets
abbrev pub TakesPins : List WholePin → List Taken → List Taken → Type 0
TakesPins pins old new = (n : ℕ) (drive : Drive) → admits (taken_at new n) drive ≡ (admits (taken_at old n) drive && list_all (may_meet_pin n drive) pins)

-- The law: where a list has the outputs of some instances, and the pins of one more come to their nets, it has the outputs of all.
abbrev pub TakenGrow : Type 0
TakenGrow =
    (earlier : List OutputAt) (number : ℕ) (pins : List WholePin) (old new : List Taken)
    → AreTaken earlier old → TakesPins pins old new → AreTaken (earlier ++ own_outputs number pins) new
