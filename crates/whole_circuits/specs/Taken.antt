-- Which outputs of whole instances are at nets, and which others may come to them.
use Rattle.std.specs.Prelude.{◌≡◌, ℕ, ◌==◌, Bool, true, false, cond, not, ◌||◌, List, slice_get, unwrap_or}
use Rattle.std.specs.List.{list_all}
use Rattle.whole_circuits.specs.declared.taken.Taken.{Taken}
use Rattle.whole_circuits.specs.declared.taken.Taken.TheVariants.{Free, Shared, Closed}
use Rattle.vrt_model.specs.WholeInstances.{OutputAt, has_level}
use Rattle.vrt_model.specs.declared.whole.Drive.{Drive}
use Rattle.vrt_model.specs.declared.whole.Drive.TheVariants.{Soft, Level}

-- an output of a drive may be where another is: where both have the same level
abbrev pub joins : Drive → Drive → Bool
joins Soft other = false
joins (Level level) other = has_level level other

-- it may come to a net with these outputs
abbrev pub admits : Taken → Drive → Bool
admits Free drive = true
admits (Shared level) drive = joins drive (Level level)
admits Closed drive = false

-- the outputs at a net of which two levels are said
abbrev pub shared : ℕ → ℕ → Taken
shared one other = cond (one == other) (Shared one) Closed

-- what a list has for a net, nothing past its end
abbrev pub taken_at : List Taken → ℕ → Taken
taken_at taken n = unwrap_or (slice_get taken n) Free

-- an output is not at the net, or may be met there by one of a drive
abbrev pub may_meet : ℕ → Drive → OutputAt → Bool
may_meet n drive o = not (o.pin.net.0 == n) || joins drive o.pin.drive

-- a list has for each net whether an output of a drive may come to those of these that are there
abbrev pub AreTaken : List OutputAt → List Taken → Type 0
AreTaken outputs taken = (n : ℕ) (drive : Drive) → admits (taken_at taken n) drive ≡ list_all (may_meet n drive) outputs
