-- Single steps: some inputs have risen at once, and one more rises.
use Rattle.std.specs.Prelude.{◌≡◌, ℕ, Bool, true, false, List, ◌↔◌}
use Rattle.arrival_laws.specs.Orders.{AllOrdersGoWell, Nets, OrdersGoWell, Rise, Rises, Settles, SettlesAlike, and_now, at_once, on_the_way, taken_bits}
use Rattle.vrt_model.specs.Comparison.{Comparison}
use Rattle.vrt_model.specs.Constraints.{Meets}
use Rattle.vrt_model.specs.Equal.{IsPhaseEqual}
use Rattle.vrt_model.specs.Faults.{Solves}
use Rattle.vrt_model.specs.Held.{setting_of}
use Rattle.vrt_model.specs.Reading.{Partial}

-- some of the nets that rise have risen, and another one is next
pub record IsStep (r : Rise) (risen : Nets) (n : ℕ) : Type 0 where
  pub before : (m : ℕ) → risen m ≡ true → Rises r m
  pub rises : Rises r n
  pub next : risen n ≡ false

-- The step does not fail: the circuit settles where it begins, with what has risen at once; it settles after the next net rose, the holds
-- having taken their bits; and there as with all of these risen at once.
pub record StepHolds (r : Rise) (risen : Nets) (n : ℕ) : Type 0 where
  pub before : Settles r.k r.phase (at_once r risen)
  pub after : (a : Partial) → Solves r.k r.phase (at_once r risen) a → Settles r.k r.phase (on_the_way r (and_now risen n) (taken_bits r.k.circuit a))
  pub once : Settles r.k r.phase (at_once r (and_now risen n))
  pub alike :
      (a : Partial) → Solves r.k r.phase (at_once r risen) a
      → SettlesAlike r.k r.phase (on_the_way r (and_now risen n) (taken_bits r.k.circuit a)) (at_once r (and_now risen n))

-- no step fails
abbrev pub StepsHold : Rise → Type 0
StepsHold r = (risen : Nets) (n : ℕ) → IsStep r risen n → StepHolds r risen n

-- at any valuation that meets the constraints
abbrev pub AllStepsHold : Comparison → ℕ → List ℕ → Type 0
AllStepsHold k phase nets =
    (bits : List Bool) → Meets k phase bits → StepsHold (record { k = k; phase = phase; nets = nets; end = setting_of k phase bits })

-- ---- the laws

-- The law: where no single step fails, every order goes well, if the circuit settles at the valuation itself.
abbrev pub StepsGiveOrders : Type 0
StepsGiveOrders = (r : Rise) → Settles r.k r.phase r.end → StepsHold r → OrdersGoWell r

-- The law: where every order goes well, no single step fails.
abbrev pub OrdersGiveSteps : Type 0
OrdersGiveSteps = (r : Rise) → OrdersGoWell r → StepsHold r

-- The law: in an equal phase the ones are so exactly where the others are.
abbrev pub StepsTellOrders : Type 0
StepsTellOrders = (k : Comparison) (phase : ℕ) (nets : List ℕ) → IsPhaseEqual k phase → AllStepsHold k phase nets ↔ AllOrdersGoWell k phase nets
