-- The settings of a step by its bits, the roots that give them, and what is found of them at all bits at once.
use Rattle.std.specs.Prelude.{◌≡◌, ◌≢◌, ℕ, suc, Bool, true, cond, List, [], ◌∷◌, ◌==◌, drop, length, take, Option, Some, None}
use Rattle.node_pool.specs.declared.region.Span.{Span}
use Rattle.arrival_laws.specs.Orders.{Nets, Rise, Settles}
use Rattle.bdd_core.specs.Diagram.{Valuation}
use Rattle.bdd_core.specs.Store.{Diagrams, IsLive, function_of}
use Rattle.bdd_core.specs.Words.{shows}
use Rattle.bdd_core.specs.declared.handle.H.{H}
use Rattle.bdd_ops.specs.Ops.{bits_of}
use Rattle.circuit_faults.specs.Faults.{HasFixedBits, IsSettingAt}
use Rattle.circuit_faults.specs.Results.{root_at}
use Rattle.domino_order.specs.StepBits.{FailsAt, HoldsAt, IsStepAt, arrived, rise_to}
use Rattle.domino_order.specs.ThreeSettings.{SettlesTo, after_rise, before_rise, risen_at_once}
use Rattle.phase_open.specs.Given.{variable_at}
use Rattle.vrt_model.specs.Comparison.{Comparison, phase_at}
use Rattle.vrt_model.specs.Held.{sources_of}
use Rattle.vrt_model.specs.State.{Setting}
use Rattle.vrt_model.specs.declared.circuit.Circuit.{Circuit}

-- ---- settings

-- the two parts of the bits of a step: inputs that rise to the valuation, and those of them that have arrived
abbrev pub rise_at : Comparison → ℕ → List ℕ → List Bool → Rise
rise_at k phase nets bits = rise_to k phase nets (take (length (sources_of k phase)) bits)

abbrev pub risen_at : Comparison → ℕ → List ℕ → List Bool → Nets
risen_at k phase nets bits = arrived nets (drop (length (sources_of k phase)) bits)

-- the setting where the step begins, that with the net risen at once, and that after it rose, from these bits of the nets
abbrev pub start_at : Comparison → ℕ → List ℕ → List Bool → Setting
start_at k phase nets bits = before_rise (rise_at k phase nets bits) (risen_at k phase nets bits)

abbrev pub together_at : Comparison → ℕ → List ℕ → ℕ → List Bool → Setting
together_at k phase nets n bits = risen_at_once (rise_at k phase nets bits) (risen_at k phase nets bits) n

abbrev pub after_at : Comparison → ℕ → List ℕ → ℕ → (List Bool → ℕ → Bool) → List Bool → Setting
after_at k phase nets n first bits = after_rise (rise_at k phase nets bits) (risen_at k phase nets bits) n (first bits)

-- ---- functions of the variables of the phase

-- the bit of a variable where a step begins: that of a rising input says whether it has risen
abbrev pub begun_bit : Circuit → List ℕ → Nets → ℕ → Bool → Bool
begun_bit c [] risen variable bit = bit
begun_bit c (net ∷ nets) risen variable bit = cond (variable_at c net == variable) (risen net) (begun_bit c nets risen variable bit)

-- those of the variables from one on
abbrev pub begun_from : Circuit → List ℕ → Nets → ℕ → List Bool → List Bool
begun_from c nets risen first [] = []
begun_from c nets risen first (bit ∷ bits) = begun_bit c nets risen first bit ∷ begun_from c nets risen (suc first) bits

-- The bits of all variables where the step begins with these bits: a rising input has its arrival bit, and each other variable its bit at the end. So
-- no variable is needed for an arrival.
abbrev pub begun : Comparison → ℕ → List ℕ → List Bool → List Bool
begun k phase nets bits = begun_from k.circuit nets (risen_at k phase nets bits) 0 (take (length (sources_of k phase)) bits)

abbrev pub begun_at : Comparison → ℕ → List ℕ → List Bool → Valuation
begun_at k phase nets bits = bits_of (begun k phase nets bits)

-- where the step begins with these bits, the function of a handle, and the bits of the nets
abbrev pub at_begun : Comparison → ℕ → List ℕ → Diagrams → H → List Bool → Bool
at_begun k phase nets d h bits = function_of d h (begun_at k phase nets bits)

abbrev pub net_bits : Comparison → ℕ → List ℕ → Diagrams → Span → List Bool → ℕ → Bool
net_bits k phase nets d gates bits n = shows d gates n (begun_at k phase nets bits)

-- ---- roots

-- the roots give these settings at the bits of each step, and supplies and clock ports have their bits
pub record GivesSettings (k : Comparison) (phase : ℕ) (nets : List ℕ) (n : ℕ) (settings : List Bool → Setting) (roots : Span) (d : Diagrams) : Type 0 where
  pub given : (bits : List Bool) → IsStepAt k phase nets n bits → IsSettingAt k.circuit (root_at d roots (begun_at k phase nets bits)) (settings bits)
  pub fixed : (v : Valuation) → HasFixedBits k.circuit (phase_at k.rules phase) (root_at d roots v)

-- ---- what is found

-- somewhere in the care set this is so of steps: the handle is live, not that of the constant 0, and says where
pub record IsSomewhere (k : Comparison) (phase : ℕ) (nets : List ℕ) (n : ℕ) (So : List Bool → Type 0) (care at : H) (old new : Diagrams) : Type 0 where
  pub live : IsLive new at
  pub some : at.0 ≢ 0
  pub within : (v : Valuation) → function_of new at v ≡ true → function_of old care v ≡ true
  pub so : (bits : List Bool) → IsStepAt k phase nets n bits → at_begun k phase nets new at bits ≡ true → So bits

-- the circuit settles at these settings in the care set, to the bits of the handles; or the handle says where it does not
abbrev pub SettlesAt : Comparison → ℕ → List ℕ → ℕ → (List Bool → Setting) → H → Span → Diagrams → Diagrams → Option H → Type 0
SettlesAt k phase nets n settings care gates old new None =
    (bits : List Bool) → IsStepAt k phase nets n bits → at_begun k phase nets old care bits ≡ true → SettlesTo k phase (settings bits) (net_bits k phase nets new gates bits)
SettlesAt k phase nets n settings care gates old new (Some at) = IsSomewhere k phase nets n (λ bits. ¬ Settles k phase (settings bits)) care at old new

-- the first two settings of a step in the care set: the net rose in the roots, and the handles have the bits that the circuit settles to where the
-- step begins, and with the net risen at once
pub record IsSettledTwice (k : Comparison) (phase : ℕ) (nets : List ℕ) (n : ℕ) (care : H) (setting rose together : Span) (d : Diagrams) : Type 0 where
  pub gives : GivesSettings k phase nets n (together_at k phase nets n) setting d
  pub before : (bits : List Bool) → IsStepAt k phase nets n bits → at_begun k phase nets d care bits ≡ true → SettlesTo k phase (start_at k phase nets bits) (net_bits k phase nets d rose bits)
  pub risen : (bits : List Bool) → IsStepAt k phase nets n bits → at_begun k phase nets d care bits ≡ true → SettlesTo k phase (together_at k phase nets n bits) (net_bits k phase nets d together bits)

-- the circuit settles at both, or the handle says where the step fails
abbrev pub TwiceGives : Comparison → ℕ → List ℕ → ℕ → H → Span → Span → Span → Diagrams → Diagrams → Option H → Type 0
TwiceGives k phase nets n care setting rose together old new None = IsSettledTwice k phase nets n care setting rose together new
TwiceGives k phase nets n care setting rose together old new (Some at) = IsSomewhere k phase nets n (FailsAt k phase nets n) care at old new

-- each step of the care set holds, or the handle says where one fails
abbrev pub StepGives : Comparison → ℕ → List ℕ → ℕ → H → Diagrams → Diagrams → Option H → Type 0
StepGives k phase nets n care old new None = (bits : List Bool) → IsStepAt k phase nets n bits → at_begun k phase nets old care bits ≡ true → HoldsAt k phase nets n bits
StepGives k phase nets n care old new (Some at) = IsSomewhere k phase nets n (FailsAt k phase nets n) care at old new
