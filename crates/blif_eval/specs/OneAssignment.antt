-- A model has exactly one assignment at given bits.
use Rattle.std.specs.Prelude.{◌≡◌, ℕ, ◌<◌, Bool, length}
use Rattle.vrt_model.specs.Assignment.{Assignment, HasInterface, Obeys}
use Rattle.vrt_model.specs.Elements.{element_names}
use Rattle.vrt_model.specs.declared.flat_model.FlatModel.{FlatModel}

-- two assignments have the same bits at the signals, and the same new bits at the elements
pub record AreSame (flat : FlatModel) (g h : Assignment) : Type 0 where
  pub signal : (s : ℕ) → s < length flat.signals → g.signal s ≡ h.signal s
  pub next : (e : ℕ) → e < length (element_names flat) → g.next e ≡ h.next e

-- an assignment with these bits of the inputs and clocks, of the default clock and of the elements
pub record IsAssigned (flat : FlatModel) (default_clock : Bool) (held inputs : ℕ → Bool) (g : Assignment) : Type 0 where
  pub interface : HasInterface flat inputs g
  pub obeys : Obeys flat default_clock held g

-- there is one, and any two are the same
pub record HasOneAssignment (flat : FlatModel) (default_clock : Bool) (held inputs : ℕ → Bool) : Type 0 where
  pub some : (g : Assignment) × IsAssigned flat default_clock held inputs g
  pub one : (g h : Assignment) → IsAssigned flat default_clock held inputs g → IsAssigned flat default_clock held inputs h → AreSame flat g h
