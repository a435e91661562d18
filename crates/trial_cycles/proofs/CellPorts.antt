-- The ports of a cell: their nets and kinds.
use Rattle.std.proofs.Common.{◌≡◌, ℕ, Bool, true, false, Option, Some, None, ap, refl}
use Rattle.std.proofs.lemmas.Option.{none-some, same_Some}
use Rattle.replaced_instances.proofs.OutputPorts.{is_net_role}
use Rattle.vrt_model.specs.Comparison.{input_signal}
use Rattle.vrt_model.specs.FlatCircuit.{kind_by_role}
use Rattle.vrt_model.specs.declared.circuit.NetKind.{NetKind}
use Rattle.vrt_model.specs.declared.circuit.NetKind.TheVariants.{Supply as SupplyNet, Clock as ClockNet, Input as InputNet, Plain}
use Rattle.vrt_model.specs.declared.pairing.PortRole.{PortRole}
use Rattle.vrt_model.specs.declared.pairing.PortRole.TheVariants.{Supply, Clock, Input, Output}
use Rattle.vrt_model.specs.declared.rules.ClockRef.{ClockRef}

-- an input has a net of its own
pub signal_is_net : (role : PortRole) (s : ℕ) → input_signal role ≡ Some s → is_net_role role ≡ true
signal_is_net (Supply value) s e = absurd (none-some s e)
signal_is_net (Clock clock) s e = refl
signal_is_net (Input signal) s e = refl
signal_is_net (Output signal) s e = refl

-- the clock that a kind of nets carries, if any
unfoldable pub clock_in : NetKind → Option ClockRef
clock_in (SupplyNet value) = None
clock_in (ClockNet clock) = Some clock
clock_in InputNet = None
clock_in Plain = None

unfoldable pub is_input : NetKind → Bool
is_input (SupplyNet value) = false
is_input (ClockNet clock) = false
is_input InputNet = true
is_input Plain = false

pub clock_role : (role : PortRole) (clock : ClockRef) → kind_by_role role ≡ ClockNet clock → role ≡ Clock clock
unfolding clock_in
clock_role (Supply value) clock e = absurd (none-some clock (ap clock_in e))
clock_role (Clock other) clock e = ap (λ (x : ClockRef). Clock x) (same_Some other clock (ap clock_in e))
clock_role (Input signal) clock e = absurd (none-some clock (ap clock_in e))
clock_role (Output signal) clock e = absurd (none-some clock (ap clock_in e))
