-- The three settings of a step: where it begins, after the next net rose, and with all of these risen at once.
use Rattle.std.specs.Prelude.{◌≡◌, ◌≢◌, ℕ, Bool, true, Some}
use Rattle.arrival_laws.specs.Orders.{Nets, Rise, Settles, and_now, at_once, on_the_way, taken_bits}
use Rattle.arrival_laws.specs.Steps.{StepHolds}
use Rattle.vrt_model.specs.Comparison.{Comparison, is_observed}
use Rattle.vrt_model.specs.Faults.{Solves}
use Rattle.vrt_model.specs.Reading.{Partial}
use Rattle.vrt_model.specs.State.{Setting}
use Rattle.vrt_model.specs.declared.circuit.Circuit.{Circuit}

-- the circuit settles at the setting, and the observed nets have these bits then
pub record SettlesTo (k : Comparison) (phase : ℕ) (s : Setting) (bits : ℕ → Bool) : Type 0 where
  pub settles : Settles k phase s
  pub shown : (a : Partial) → Solves k phase s a → (n : ℕ) → is_observed k phase n ≡ true → a n ≡ Some (bits n)

-- the bit that each hold takes from the bits of nets
abbrev pub held_from : Circuit → (ℕ → Bool) → ℕ → Bool
held_from c bits place = taken_bits c (λ n. Some (bits n)) place

-- where the step begins; after the net rose, the holds having taken their bits; and with all of these risen at once
abbrev pub before_rise : Rise → Nets → Setting
before_rise r risen = at_once r risen

abbrev pub after_rise : Rise → Nets → ℕ → (ℕ → Bool) → Setting
after_rise r risen n bits = on_the_way r (and_now risen n) (held_from r.k.circuit bits)

abbrev pub risen_at_once : Rise → Nets → ℕ → Setting
risen_at_once r risen n = at_once r (and_now risen n)

-- the circuit settles at all three, and at the last two to the same bits
pub record SettlesThrice (r : Rise) (risen : Nets) (n : ℕ) : Type 0 where
  pub first : ℕ → Bool
  pub after : ℕ → Bool
  pub once : ℕ → Bool
  pub start : SettlesTo r.k r.phase (before_rise r risen) first
  pub rose : SettlesTo r.k r.phase (after_rise r risen n first) after
  pub together : SettlesTo r.k r.phase (risen_at_once r risen n) once
  pub alike : (m : ℕ) → is_observed r.k r.phase m ≡ true → after m ≡ once m

-- at one of them it does not settle, or at an observed net the last two have different bits
pub data SettlesNot (r : Rise) (risen : Nets) (n : ℕ) : Type 0 where
  NotBefore : ¬ Settles r.k r.phase (before_rise r risen) → SettlesNot r risen n
  NotAfter : (first : ℕ → Bool) → SettlesTo r.k r.phase (before_rise r risen) first → ¬ Settles r.k r.phase (after_rise r risen n first) → SettlesNot r risen n
  NotAtOnce : ¬ Settles r.k r.phase (risen_at_once r risen n) → SettlesNot r risen n
  NotAlike :
      (first after once : ℕ → Bool) (m : ℕ) → SettlesTo r.k r.phase (before_rise r risen) first → SettlesTo r.k r.phase (after_rise r risen n first) after
      → SettlesTo r.k r.phase (risen_at_once r risen n) once → is_observed r.k r.phase m ≡ true → after m ≢ once m → SettlesNot r risen n

-- ---- the laws

-- The law: a step holds where the circuit settles at all three, and fails where it does not.
pub record ThreeSettings : Type 0 where
  pub holds : (r : Rise) (risen : Nets) (n : ℕ) → SettlesThrice r risen n → StepHolds r risen n
  pub fails : (r : Rise) (risen : Nets) (n : ℕ) → SettlesNot r risen n → ¬ StepHolds r risen n
