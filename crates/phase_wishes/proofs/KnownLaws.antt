-- Of which nets the wishes of holds speak.
use Rattle.std.proofs.Common.{◌≡◌, ℕ, zero, suc, ◌&&◌, ◌||◌, true, List, eqb, subst}
use Rattle.std.specs.Prelude.{is_some}
use Rattle.std.specs.List.{list_any}
use Rattle.std.proofs.lemmas.Bool.{eq-eqb, or_left, or_right}
use Rattle.std.proofs.lemmas.Option.{same_Some}
use Rattle.phase_wishes.specs.Held.{IsHoldNet, IsHoldWish, IsOfHold}
use Rattle.phase_wishes.specs.Missed.{nets_in, nets_of}
use Rattle.phase_wishes.specs.declared.wishes.Wanted.{Wanted}
use Rattle.phase_wishes.specs.declared.wishes.Wanted.TheVariants.{Signal, Element, Other, Constant}
use Rattle.phase_wishes.specs.declared.wishes.Wish.{Wish}
use Rattle.vrt_model.proofs.Members.{among_any, at_none}
use Rattle.vrt_model.specs.CellRules.{is_constrained, is_observed_port}
use Rattle.vrt_model.specs.Comparison.{CellPort, Comparison, cell_at, is_observed, output_signal, ports_of}
use Rattle.vrt_model.specs.Lists.{Among}
use Rattle.vrt_model.specs.declared.circuit.Circuit.{Circuit}
use Rattle.vrt_model.specs.declared.circuit.Device.{Device}
use Rattle.vrt_model.specs.declared.circuit.FlatInstance.{FlatInstance}
use Rattle.vrt_model.specs.declared.circuit.Hold.{Hold}
use Rattle.vrt_model.specs.declared.groups.Group.{Group}
use Rattle.vrt_model.specs.declared.ids.Net.{Net}
use Rattle.vrt_model.specs.declared.whole.Whole.{Whole}
use Rattle.vrt_model.specs.declared.whole.WholePin.{WholePin}

-- a net that has a hold is observed
pub hold_observed : (k : Comparison) (phase n : ℕ) → IsHoldNet k.circuit n → is_observed k phase n ≡ true
unfolding is_observed
hold_observed k phase n hold =
    let gates = list_any (λ (d : Device). eqb d.gate.0 n) k.circuit.devices in
    let holds = list_any (λ (h : Hold). eqb h.net.0 n) k.circuit.holds in
    let outputs = list_any (λ (p : CellPort). eqb p.net n && is_some (output_signal p.role) && is_observed_port k.rules (cell_at k.design k.cell).name p.name phase) (ports_of k) in
    let instances = list_any (λ (i : FlatInstance). is_constrained k.rules (cell_at k.design i.cell).name && list_any (λ (m : Net). eqb m.0 n) i.ports) k.circuit.instances in
    let wholes = list_any (λ (w : Whole). list_any (λ (p : WholePin). p.observed && eqb p.net.0 n) w.inputs) k.circuit.wholes in
    or_left (((gates || holds) || outputs) || instances) wholes
    (or_left ((gates || holds) || outputs) instances
    (or_left (gates || holds) outputs
    (or_right gates holds (among_any (λ (h : Hold). eqb h.net.0 n) k.circuit.holds hold.0 hold.1 (eq-eqb hold.0.net.0 n hold.2)))))

-- each net of which such a wish speaks has a hold
pub hold_nets : (c : Circuit) (groups : List Group) (wish : Wish) (n : ℕ) → IsHoldWish c groups wish → Among (nets_of wish) n → IsHoldNet c n
hold_nets c groups wish n is (zero, e) = subst (IsHoldNet c) (same_Some wish.net.0 n e) is.0
hold_nets c groups wish n is (suc i, e) = other wish.wanted is.1 (i, e)
  where
    other : (wanted : Wanted) → IsOfHold c groups wanted → Among (nets_in wanted) n → IsHoldNet c n
    other (Signal signal) of m = absurd of
    other (Element element inverted) of m = absurd (at_none m.0 n m.1)
    other (Other net inverted) of (zero, e) = subst (IsHoldNet c) (same_Some net.0 n e) of
    other (Other net inverted) of (suc i, e) = absurd (at_none i n e)
    other (Constant v) of m = absurd (at_none m.0 n m.1)
