-- What the search of the ports finds, port by port.
use Rattle.std.specs.Prelude.{◌≡◌, ℕ, ◌<◌, Bool, List, slice_index}
use Rattle.domino_order.specs.Runs.{MayPass, asked_variables, of_asked, run_operations}
use Rattle.domino_order.specs.Searches.{IsLeastFailing}
use Rattle.domino_order.specs.StepBits.{AllHoldAt}
use Rattle.domino_order.specs.declared.arrival.Arrival.{Arrival}
use Rattle.domino_order.specs.declared.arrival.Arrival.TheVariants.{Yes, No, TooMany, Budget}
use Rattle.domino_order.specs.declared.prepared.Asked.{Asked}
use Rattle.vrt_model.specs.Lists.{At}

-- the net that rises at a place of the list
abbrev pub net_at : Asked → ℕ → ℕ
net_at s i = slice_index s.rising.nets.now i

-- each step of the net at a place holds
abbrev pub HoldsFor : Asked → ℕ → Type 0
HoldsFor s i = AllHoldAt (of_asked s) s.rising.phase s.rising.nets.now (net_at s i)

-- the first of the ports of whose net a step fails, and the least bits of such a step
pub record IsFirstNet (s : Asked) (ports : List ℕ) (port : ℕ) (bits : List Bool) : Type 0 where
  pub place : ℕ
  pub there : At ports place port
  pub fails : IsLeastFailing (of_asked s) s.rising.phase s.rising.nets.now (net_at s place) bits
  pub before : (i : ℕ) → i < place → HoldsFor s i

-- each step holds; or the first port of which one fails; or the budget, where a run may need more nodes
abbrev pub PortsGive : Asked → List ℕ → ℕ → Arrival → Type 0
PortsGive s ports budget Yes = (n : ℕ) → AllHoldAt (of_asked s) s.rising.phase s.rising.nets.now n
PortsGive s ports budget (No port valuation) = IsFirstNet s ports port valuation.bits
PortsGive s ports budget (TooMany count) = ⊥
PortsGive s ports budget (Budget nodes) = (nodes ≡ budget) × MayPass (asked_variables s) budget (run_operations s)
