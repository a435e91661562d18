-- Partial assignments that have a bit at each observed net, so that any one state that agrees tells how all of them respond.
use Rattle.std.specs.Prelude.{◌≡◌, ℕ, ◌↔◌, Bool, true, Option, Some}
use Rattle.vrt_model.specs.Lists.{Among, At}
use Rattle.vrt_model.specs.Response.{IsResponse, Response, Shows}
use Rattle.vrt_model.specs.Solution.{Agrees, AlwaysResponds, IsSolution}
use Rattle.vrt_model.specs.State.{IsState, OutputPin, Setting, State, network_of, output_pins}
use Rattle.vrt_model.specs.declared.circuit.Circuit.{Circuit}
use Rattle.vrt_model.specs.declared.circuit.Device.{Device}
use Rattle.vrt_model.specs.declared.rules.Phase.{Phase}

-- the assignment a has a bit at each observed net, all gates are observed, and all states that agree with a drive the output
-- pins alike
pub record IsTotal (c : Circuit) (phase : Phase) (observed : ℕ → Bool) (setting : Setting) (a : ℕ → Option Bool) : Type 0 where
  pub gates : (d : Device) → Among c.devices d → observed d.gate.0 ≡ true
  pub bits : (n : ℕ) → observed n ≡ true → (v : Bool) × (a n ≡ Some v)
  pub pins :
      (s t : State) → IsState c phase setting.inputs s → IsState c phase setting.inputs t → Agrees observed a s.reading → Agrees observed a t.reading
      → (at : ℕ) (out : OutputPin) → At (output_pins c) at out → s.driven at ≡ t.driven at

-- The law: one state that agrees tells how each net always responds, and whether a is a solution.
abbrev pub OneStateSaysAll : Type 0
OneStateSaysAll =
    (c : Circuit) (phase : Phase) (observed : ℕ → Bool) (setting : Setting) (a : ℕ → Option Bool) (s : State)
    → IsTotal c phase observed setting a → IsState c phase setting.inputs s → Agrees observed a s.reading
    → ((bare : Bool) (n : ℕ) (r : Response) → AlwaysResponds c phase observed setting a bare n r ↔ IsResponse (network_of c bare setting.held s) n r)
    × (IsSolution c phase observed setting a ↔ ((n : ℕ) (v : Bool) → observed n ≡ true → a n ≡ Some v → IsResponse (network_of c true setting.held s) n (Shows v)))
