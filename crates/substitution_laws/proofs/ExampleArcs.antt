-- The circuits of the example have no cycle, and a link leads from the input of the inverter to its output alone.
use Rattle.std.proofs.Common.{◌≡◌, ℕ, zero, suc, ◌<◌, Bool, true, false, cond, List, [], ◌∷◌, eqb, refl, subst, arith, inl, inr}
use Rattle.std.specs.Prelude.{codes}
use Rattle.std.proofs.lemmas.Bool.{false≢true}
use Rattle.std.proofs.lemmas.Option.{none-some, same_Some}
use Rattle.substitution_laws.proofs.ExampleCells.{checked, device, flat, inverter, of_inverter}
use Rattle.substitution_laws.proofs.ExampleInverter.{each_of_two, n_device, p_device, port_a, port_y}
use Rattle.substitution_laws.proofs.LoneNets.{IsSupplied, is_acyclic}
use Rattle.vrt_model.specs.Comparison.{CellPort}
use Rattle.vrt_model.specs.Known.{HasArc, HasWholeArc}
use Rattle.vrt_model.specs.Lists.{Among, At}
use Rattle.vrt_model.specs.Reading.{devices_of}
use Rattle.vrt_model.specs.Unsupported.{IsAcyclic}
use Rattle.vrt_model.specs.WholeInstances.{Links, Pin}
use Rattle.vrt_model.specs.declared.circuit.Circuit.{Circuit}
use Rattle.vrt_model.specs.declared.circuit.Device.{Device}
use Rattle.vrt_model.specs.declared.circuit.FlatNet.{FlatNet}
use Rattle.vrt_model.specs.declared.circuit.NetKind.TheVariants.{Supply}
use Rattle.vrt_model.specs.declared.design.Kind.TheVariants.{N, P}
use Rattle.vrt_model.specs.declared.rules.Phase.{Phase}
use Rattle.vrt_model.specs.declared.whole.Drive.TheVariants.{Soft}
use Rattle.vrt_model.specs.declared.whole.Link.{Link}
use Rattle.vrt_model.specs.declared.whole.Whole.{Whole}
use Rattle.vrt_model.specs.declared.whole.WholePin.{WholePin}

pub each_of_one : {X : Type 0} (Holds : X → Type 0) (a : X) → Holds a → (x : X) → Among (a ∷ []) x → Holds x
each_of_one Holds a one x (zero, e) = subst Holds (same_Some a x e) one
each_of_one Holds a one x (suc i, e) = absurd (none-some x e)

each_of_four : {X : Type 0} (Holds : X → Type 0) (a b c d : X) → Holds a → Holds b → Holds c → Holds d → (x : X) → Among (a ∷ b ∷ c ∷ d ∷ []) x → Holds x
each_of_four Holds a b c d one two three four x (zero, e) = subst Holds (same_Some a x e) one
each_of_four Holds a b c d one two three four x (suc zero, e) = subst Holds (same_Some b x e) two
each_of_four Holds a b c d one two three four x (suc (suc i), e) = each_of_two Holds c d three four x (i, e)

abbrev p_out : Device
p_out = device (codes "p") P 3 4 1

abbrev n_out : Device
n_out = device (codes "n") N 3 4 0

abbrev p_in : Device
p_in = device (codes "x/p") P 4 2 1

abbrev n_in : Device
n_in = device (codes "x/n") N 4 2 0

abbrev pub the_output : WholePin
the_output = record { net = record { 0 = 4 }; signal = 1; drive = Soft; observed = false }

abbrev pub pin_a : Pin
pin_a = record { port = port_a; net = record { 0 = 2 } }

abbrev pub pin_y : Pin
pin_y = record { port = port_y; net = record { 0 = 4 } }

abbrev pub pins : List Pin
pins = pin_a ∷ pin_y ∷ []

-- the way of a bit: the input, the net between, the output
abbrev pub order : ℕ → ℕ
order n = cond (eqb n 3) 5 n

pub rises_at_gates : (d : Device) → Among (devices_of true (checked [])) d → order d.gate.0 < order d.left.0
rises_at_gates = each_of_two (λ d. order d.gate.0 < order d.left.0) p_out n_out (omega arith) (omega arith)

-- ---- devices lead to supplies

abbrev IsAtSupply : Circuit → Device → Type 0
IsAtSupply c d = (net : FlatNet) × (value : Bool) × At c.nets d.right.0 net × (net.kind ≡ Supply value)

inverter_supplied : IsSupplied inverter
inverter_supplied = each_of_two (IsAtSupply inverter) p_device n_device (_, true, refl, refl) (_, false, refl, refl)

flat_supplied : IsSupplied flat
flat_supplied = each_of_four (IsAtSupply flat) p_out n_out p_in n_in (_, true, refl, refl) (_, false, refl, refl) (_, true, refl, refl) (_, false, refl, refl)

pub checked_supplied : (links : List Link) → IsSupplied (checked links)
checked_supplied links = each_of_two (IsAtSupply flat) p_out n_out (_, true, refl, refl) (_, false, refl, refl)

-- ---- no cycles

no_whole : (c : Circuit) (phase : Phase) → c.wholes ≡ [] → (n m : ℕ) → HasWholeArc c phase n m → ⊥
no_whole c phase none n m arc = (let on = subst (λ (ws : List Whole). Among ws arc.0) none arc.2.0 in none-some arc.0 on.1)

pub inverter_acyclic : (phase : Phase) → IsAcyclic (HasArc inverter phase)
inverter_acyclic phase =
    is_acyclic inverter phase inverter_supplied order (each_of_two (λ d. order d.gate.0 < order d.left.0) p_device n_device (omega arith) (omega arith))
    (λ n m arc. absurd (no_whole inverter phase refl n m arc))

pub flat_acyclic : (phase : Phase) → IsAcyclic (HasArc flat phase)
flat_acyclic phase =
    is_acyclic flat phase flat_supplied order
    (each_of_four (λ d. order d.gate.0 < order d.left.0) p_out n_out p_in n_in (omega arith) (omega arith) (omega arith) (omega arith)) (λ n m arc. absurd (no_whole flat phase refl n m arc))

-- ---- links

-- a link leads from the input to the output, and nowhere else
pub link_is : (q : ℕ) (from to : Pin) → Among pins from → Among pins to → Links of_inverter q from.port to.port → (from.net.0 ≡ 2) × (to.net.0 ≡ 4)
link_is q from to one two link =
    each_of_two (λ (x : Pin). Links of_inverter q x.port to.port → (x.net.0 ≡ 2) × (to.net.0 ≡ 4)) pin_a pin_y
    (each_of_two (λ (y : Pin). Links of_inverter q port_a y.port → (pin_a.net.0 ≡ 2) × (y.net.0 ≡ 4)) pin_a pin_y (λ l. absurd (to_input port_a l)) (λ l. (refl, refl)) to two)
    (each_of_two (λ (y : Pin). Links of_inverter q port_y y.port → (pin_y.net.0 ≡ 2) × (y.net.0 ≡ 4)) pin_a pin_y (λ l. absurd (to_input port_y l)) (λ l. absurd (output_only l)) to two) from one link
  where
    to_input : (port : CellPort) → Links of_inverter q port port_a → ⊥
    to_input port (inl (s, out, inl l)) = none-some out l.1
    to_input port (inl (s, out, inr l)) = none-some out l.1
    to_input port (inr (named, out)) = none-some out.0 out.1

    output_only : Links of_inverter q port_y port_y → ⊥
    output_only (inl (s, out, inl l)) = none-some s l.0
    output_only (inl (s, out, inr l)) = l.2 refl
    output_only (inr (named, out)) = false≢true named
