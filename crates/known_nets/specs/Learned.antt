-- What nets show by the values that reach them, and tables of known nets that grow.
use Rattle.std.specs.Prelude.{◌≡◌, ℕ, ◌<◌, ◌≤◌, Bool, true, false, cond, List, length, None, Option, Some, is_none, sum_by}
use Rattle.known_nets.specs.KnownTables.{known_at}
use Rattle.known_nets.specs.Regions.{HasMarkedEnds, has_amount}
use Rattle.known_nets.specs.Waits.{HasWaited}
use Rattle.known_nets.specs.declared.waiting.Waiting.{Waiting}
use Rattle.vrt_model.specs.Response.{Fight, Float, Response, Shows}
use Rattle.vrt_model.specs.Signals.{response_by}
use Rattle.vrt_model.specs.declared.circuit.Circuit.{Circuit}

-- the bit of a response
abbrev pub bit_shown : Response → Option Bool
bit_shown Fight = None
bit_shown Float = None
bit_shown (Shows v) = Some v

-- the bit that a net shows, where it has amounts in these tables if 0 and 1 reach it
abbrev pub shown_of : List ℕ → List ℕ → ℕ → Option Bool
shown_of zeros ones n = bit_shown (response_by (has_amount zeros n) (has_amount ones n))

-- how many nets are not known
abbrev pub unknown : List (Option Bool) → ℕ
unknown known = sum_by (λ (o : Option Bool). cond (is_none o) 1 0) known

-- bits were noted of nets that were not known, and the nets at the devices that these gate wait; where none was noted,
-- no more nets are listed
pub record HasNoted (c : Circuit) (more : Bool) (old new : List (Option Bool)) (before after : Waiting) : Type 0 where
  pub size : length new ≡ length old
  pub grown : (n : ℕ) (v : Bool) → known_at old n ≡ Some v → known_at new n ≡ Some v
  pub waited : HasWaited c before after
  pub ends : HasMarkedEnds c old new after.marks.items
  pub same : more ≡ false → (new ≡ old) × (after.list.items ≡ before.list.items)
  pub falls : unknown new ≤ unknown old
  pub less : more ≡ true → unknown new < unknown old
