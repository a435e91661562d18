-- Output ports that are alone in a phase: their nets are not known, and in their parts of the kept circuit is no other.
use Rattle.std.specs.Prelude.{◌≡◌, ◌≢◌, ◌↔◌, ◌<◌, ◌&&◌, ℕ, suc, Bool, true, List, length, map}
use Rattle.vrt_model.specs.Comparison.{CellPort, Comparison, phase_at}
use Rattle.vrt_model.specs.Facts.{IsAloneInside, output_ports}
use Rattle.vrt_model.specs.Known.{IsTogether, IsUnknown}
use Rattle.vrt_model.specs.Lists.{At, mark_at}
use Rattle.vrt_model.specs.Reading.{kept}
use Rattle.vrt_model.specs.declared.circuit.Circuit.{Circuit}
use Rattle.vrt_model.specs.declared.ids.Net.{Net}
use Rattle.vrt_model.specs.declared.rules.Phase.{Phase}

-- the net n at place j of a list is not known, and the net at no other place is in its part of the kept circuit
pub record IsLone (c : Circuit) (phase : Phase) (nets : List ℕ) (j n : ℕ) : Type 0 where
  pub unknown : IsUnknown c phase n
  pub alone : (i m : ℕ) → At nets i m → i ≢ j → ¬ IsTogether c phase kept n m

-- a bit for each place of a list of nets, which says this
pub record AreLone (c : Circuit) (phase : Phase) (nets : List ℕ) (lone : List Bool) : Type 0 where
  pub count : length lone ≡ length nets
  pub each : (j n : ℕ) → At nets j n → (mark_at lone j ≡ true) ↔ IsLone c phase nets j n

-- the nets are those of the output ports, in port order
abbrev pub AreOutputNets : Comparison → List Net → Type 0
AreOutputNets k nets = map (λ (n : Net). n.0) nets ≡ map (λ (p : CellPort). p.net) (output_ports k)

-- ---- several phases

-- the net at place j is alone in each phase before one
abbrev pub IsLoneBefore : Comparison → ℕ → List ℕ → ℕ → ℕ → Type 0
IsLoneBefore k upto nets j n = (phase : ℕ) → phase < upto → IsLone k.circuit (phase_at k.rules phase) nets j n

-- a bit for each place of a list of nets, which says this
pub record AreLoneBefore (k : Comparison) (upto : ℕ) (nets : List ℕ) (lone : List Bool) : Type 0 where
  pub count : length lone ≡ length nets
  pub each : (j n : ℕ) → At nets j n → (mark_at lone j ≡ true) ↔ IsLoneBefore k upto nets j n

-- one phase more: a mark stays where the phase has it too
pub record AreKept (more old new : List Bool) : Type 0 where
  pub len : length new ≡ length old
  pub each : (j : ℕ) → j < length old → mark_at new j ≡ (mark_at more j && mark_at old j)

-- The law: the marks that are kept say which nets are alone in one phase more.
abbrev pub LoneNetsAreKept : Type 0
LoneNetsAreKept =
    (k : Comparison) (phase : ℕ) (nets : List ℕ) (more old new : List Bool) → AreLoneBefore k phase nets old → AreLone k.circuit (phase_at k.rules phase) nets more → AreKept more old new
    → AreLoneBefore k (suc phase) nets new

-- The law: an output port whose net is alone in all phases is alone inside its cell.
abbrev pub LonePortsAreAlone : Type 0
LonePortsAreAlone =
    (k : Comparison) (nets : List Net) → AreOutputNets k nets → (j : ℕ) (port : CellPort) → At (output_ports k) j port
    → IsLoneBefore k (length k.rules.phases) (map (λ (n : Net). n.0) nets) j port.net ↔ IsAloneInside k port
