-- An arc over a link of a whole instance is one of the circuit with the choice.
use Rattle.std.proofs.Common.{◌≡◌, ℕ, zero, suc, ◌+◌, ◌<◌, false, List, [], ◌∷◌, map, length, Option, Some, None, arith, subst, sym, refl, ◌∙◌, ap, inl, inr}
use Rattle.std.specs.Prelude.{slice_get, unwrap_or}
use Rattle.std.specs.List.{AllZip, enumerate_from}
use Rattle.std.proofs.lemmas.Option.{none-some, same_Some}
use Rattle.std.proofs.lemmas.Slice.Eq.{bytes_eq-Decides}
use Rattle.checked_chain.proofs.AcyclicLaws.{acyclic_kept, chain_is_acyclic}
use Rattle.checked_chain.proofs.ChoiceLaws.{at_enumerated}
use Rattle.checked_chain.proofs.GateArcs.{gate_there, together_there, without_is}
use Rattle.checked_chain.proofs.WholeLaws.{outputs_are, unlinked, whole_beside}
use Rattle.checked_chain.specs.Arcs.{AreOutputsApart, AreWholeOutputsApart, ArcsAreOfChoice, CircuitsAreAcyclic}
use Rattle.vrt_model.proofs.Lists.{at_map, at_there, one_at}
use Rattle.vrt_model.specs.Checked.{HasArcWith, HasLinkArc, IsCircuitWith, before, circuit_with}
use Rattle.vrt_model.specs.CheckedParts.{checked_devices}
use Rattle.vrt_model.specs.Comparison.{Comparison, CellPort, cell_at, output_signal, phase_at, port_nets, ports_from, ports_of}
use Rattle.vrt_model.specs.Cut.{Cut, NumberedPlace, whole_places}
use Rattle.vrt_model.specs.Inputs.{AreRules}
use Rattle.vrt_model.specs.Known.{HasArc, HasGateArc, HasWholeArc, IsTogether}
use Rattle.vrt_model.specs.Lists.{Among, At}
use Rattle.vrt_model.specs.PairedPorts.{Paired, Model, Skipped, Missing, paired_model}
use Rattle.vrt_model.specs.Reading.{bare}
use Rattle.vrt_model.specs.Unrolled.{Place, Top}
use Rattle.vrt_model.specs.Unsupported.{comparison_of}
use Rattle.vrt_model.specs.WholeInstances.{IsWholeAt, Links, OutputAt, Pin, all_outputs, drive_in, driven_pins, driven_pins_from, outputs_of_place, pins_from, pins_of, settled_drive}
use Rattle.vrt_model.specs.declared.blif.Blif.{Blif}
use Rattle.vrt_model.specs.declared.circuit.Circuit.{Circuit}
use Rattle.vrt_model.specs.declared.circuit.Device.{Device}
use Rattle.vrt_model.specs.declared.ids.Net.{Net}
use Rattle.vrt_model.specs.declared.pairing.PortRole.{PortRole}
use Rattle.vrt_model.specs.declared.rules.Phase.{Phase}
use Rattle.vrt_model.specs.declared.rules.Rules.{Rules}
use Rattle.vrt_model.specs.declared.whole.CellFacts.{CellFacts}
use Rattle.vrt_model.specs.declared.whole.Link.{Link}
use Rattle.vrt_model.specs.declared.whole.Whole.{Whole}
use Rattle.vrt_model.specs.declared.whole.WholePin.{WholePin}

-- what stands in the second list has its item in the first
beside_back : {A B : Type 0} (R : A → B → Type 0) (xs : List A) (ys : List B) (y : B) → AllZip R xs ys → Among ys y → (x : A) × Among xs x × R x y
beside_back R [] [] y h m = absurd (none-some y m.1)
beside_back R [] (z ∷ ys) y h m = absurd h
beside_back R (x ∷ xs) [] y h m = absurd h
beside_back {A} {B} R (x ∷ xs) (z ∷ ys) y h (zero, e) = (x, (0, refl), subst (λ (w : B). R x w) (same_Some z y e) h.0)
beside_back R (x ∷ xs) (z ∷ ys) y h (suc i, e) = let rest = beside_back R xs ys y h.1 (i, e) in (rest.0, (suc rest.1.0, rest.1.1), rest.2)

-- ---- ports and their pins

port_place : (n : ℕ) (names : List (List ℕ)) (nets : List ℕ) (roles : List PortRole) (i : ℕ) (port : CellPort) → At (ports_from n names nets roles) i port → port.place ≡ n + i
port_place n [] nets roles i port e = absurd (none-some port e)
port_place n (name ∷ names) [] roles i port e = absurd (none-some port e)
port_place n (name ∷ names) (net ∷ nets) [] i port e = absurd (none-some port e)
port_place n (name ∷ names) (net ∷ nets) (role ∷ roles) zero port e =
    let first : n ≡ port.place = ap (λ (o : Option CellPort). elim o [ None ↦ 0 | Some p ↦ p.place ]) e in omega (arith, first)
port_place n (name ∷ names) (net ∷ nets) (role ∷ roles) (suc i) port e = let h = port_place (suc n) names nets roles i port e in omega (arith, h)

port_of_pin : (ports : List CellPort) (nets : List ℕ) (i : ℕ) (pin : Pin) → At (pins_from ports nets) i pin → At ports i pin.port
port_of_pin [] nets i pin e = absurd (none-some pin e)
port_of_pin (port ∷ ports) [] i pin e = absurd (none-some pin e)
port_of_pin (port ∷ ports) (n ∷ nets) zero pin e = ap (λ (o : Option Pin). elim o [ None ↦ None | Some p ↦ Some p.port ]) e
port_of_pin (port ∷ ports) (n ∷ nets) (suc i) pin e = port_of_pin ports nets i pin e

-- two pins with one output signal are one
module _ (k : Comparison) (at : Place) (apart : AreOutputsApart k) where
  port_at : (a : Pin) (m : Among (pins_of k at) a) → At (ports_of k) m.0 a.port
  port_at a m = port_of_pin (ports_of k) at.ports m.0 a m.1

  place_at : (a : Pin) (m : Among (pins_of k at) a) → a.port.place ≡ 0 + m.0
  place_at a m = port_place 0 (cell_at k.design k.cell).ports (port_nets k.rules (cell_at k.design k.cell).ports) k.pairing.ports m.0 a.port (port_at a m)

  one_pin : (a b : Pin) (s : ℕ) → Among (pins_of k at) a → Among (pins_of k at) b → output_signal a.port.role ≡ Some s → output_signal b.port.role ≡ Some s → a ≡ b
  one_pin a b s m n e f =
      let places = apart a.port b.port s (m.0, port_at a m) (n.0, port_at b n) e f in
      let left = place_at a m in
      let right = place_at b n in
      let same : m.0 ≡ n.0 = omega (arith, places, left, right) in
      one_at (pins_of k at) n.0 a b (subst (λ (i : ℕ). At (pins_of k at) i a) same m.1) n.1

-- an output pin is that of a port with its signal
IsPinOf : List Pin → WholePin → Type 0
IsPinOf pins x = (q : Pin) × Among pins q × (output_signal q.port.role ≡ Some x.signal) × (x.net ≡ q.net)

driven_from : (facts : List CellFacts) (cell j : ℕ) (pins : List Pin) (i : ℕ) (x : WholePin) → At (driven_pins_from facts cell j pins) i x → IsPinOf pins x
unfolding IsPinOf
driven_from facts cell j [] i x e = absurd (none-some x e)
driven_from facts cell j (p ∷ pins) i x e =
    by_signal (output_signal p.port.role) refl i e (λ n k h. let rest = driven_from facts cell n pins k x h in (rest.0, (suc rest.1.0, rest.1.1), rest.2, rest.3))
  where
    by_signal : (o : Option ℕ) → output_signal p.port.role ≡ o → (k : ℕ)
        → slice_get {X = WholePin} (elim o [
          | None ↦ driven_pins_from facts cell j pins
          | Some s ↦ record { net = p.net; signal = s; drive = drive_in facts cell j; observed = false } ∷ driven_pins_from facts cell (suc j) pins
        ]) k ≡ Some x
        → ((n l : ℕ) → At (driven_pins_from facts cell n pins) l x → (q : Pin) × Among (p ∷ pins) q × (output_signal q.port.role ≡ Some x.signal) × (x.net ≡ q.net))
        → (q : Pin) × Among (p ∷ pins) q × (output_signal q.port.role ≡ Some x.signal) × (x.net ≡ q.net)
    by_signal None s k h rest = rest j k h
    by_signal (Some n) s zero h rest =
        let signal : n ≡ x.signal = ap (λ (o : Option WholePin). elim o [ None ↦ 0 | Some pin ↦ pin.signal ]) h in
        let net : Some p.net ≡ Some x.net = ap (λ (o : Option WholePin). elim o [ None ↦ None | Some pin ↦ Some pin.net ]) h in
        (p, (0, refl), s ∙ ap (λ (m : ℕ). Some m) signal, sym (same_Some p.net x.net net))
    by_signal (Some n) s (suc k) h rest = rest (suc j) k h

-- ---- a whole instance and its place

model_there : (t : Top) (blif : Blif) (facts : List CellFacts) (p : NumberedPlace) (devices : List Device) (outputs : List OutputAt) (paired : Paired) (w : Whole)
    → whole_beside t blif facts p devices outputs paired ≡ Some (unlinked w) → (m : ℕ) × (paired ≡ Model m)
model_there t blif facts p devices outputs (Model m) w e = (m, refl)
model_there t blif facts p devices outputs Skipped w e = absurd (none-some (unlinked w) e)
model_there t blif facts p devices outputs Missing w e = absurd (none-some (unlinked w) e)

abbrev outputs_by : Top → Blif → List CellFacts → NumberedPlace → Paired → List OutputAt
outputs_by t blif facts p paired =
    elim paired [
      | Model m ↦
          map (λ (q : ℕ × WholePin). let one : OutputAt = record { instance = p.number; output = q.0; pin = q.1 } in one)
          (enumerate_from 0 (driven_pins facts (comparison_of t.design blif t.rules p.at.cell m) p.at))
      | _ ↦ []
    ]

-- an output pin of a whole instance is that of a port of its cell
pin_there : (t : Top) (blif : Blif) (facts : List CellFacts) (p : NumberedPlace) (m : ℕ) (paired : Paired) (i : ℕ) (o : OutputAt) → paired ≡ Model m
    → At (outputs_by t blif facts p paired) i o → IsPinOf (pins_of (comparison_of t.design blif t.rules p.at.cell m) p.at) o.pin
pin_there t blif facts p m paired i o e here =
    let k = comparison_of t.design blif t.rules p.at.cell m in
    let made = at_map (λ (q : ℕ × WholePin). let one : OutputAt = record { instance = p.number; output = q.0; pin = q.1 } in one) (enumerate_from 0 (driven_pins facts k p.at)) i o
    (subst (λ (q : Paired). At (outputs_by t blif facts p q) i o) e here) in
    let number = at_enumerated 0 (driven_pins facts k p.at) i made.0 made.1 in
    subst (λ (x : OutputAt). IsPinOf (pins_of k p.at) x.pin) made.2 (driven_from facts p.at.cell 0 (pins_of k p.at) i made.0.1 number.1)

-- phases of one name are one
one_phase : (rules : Rules) → AreRules rules → (i j : ℕ) → i < length rules.phases → j < length rules.phases → (phase_at rules i).name ≡ (phase_at rules j).name → i ≡ j
one_phase rules are i j a b e =
    let x = at_there rules.phases i a in
    let y = at_there rules.phases j b in
    let left : (phase_at rules i).name ≡ x.0.name = ap (λ (o : Option Phase). (unwrap_or o (record { line = 0; name = []; bits = [] })).name) x.1 in
    let right : (phase_at rules j).name ≡ y.0.name = ap (λ (o : Option Phase). (unwrap_or o (record { line = 0; name = []; bits = [] })).name) y.1 in
    are.phases i j x.0 y.0 x.1 y.1 ((bytes_eq-Decides x.0.name y.0.name).1 (sym left ∙ e ∙ right))

module _ (cut : Cut) (blif : Blif) (facts : List CellFacts) (c : Circuit) (phase : ℕ) (are : AreRules cut.top.rules) (apart : AreWholeOutputsApart cut blif)
    (h : IsCircuitWith cut blif facts c) (lt : phase < length cut.top.rules.phases) where
  abbrev this : Phase
  this = phase_at cut.top.rules phase

  together_with : (n m : ℕ) → IsTogether c this bare n m → IsTogether (circuit_with cut blif facts) this bare n m
  together_with n m t = subst (λ (d : Circuit). IsTogether d this bare n m) (without_is cut blif facts c h) (together_there c this t)

  link_arc : (from to : ℕ) → HasWholeArc c this from to → HasLinkArc cut blif facts phase from to
  unfolding IsPinOf
  link_arc from to arc =
      let w : Whole = arc.0 in
      let link : Link = arc.1 in
      let pin : WholePin = arc.2.4.0 in
      let here = arc.2.4.1 in
      let place = beside_back (IsWholeAt cut blif facts) (whole_places cut) c.wholes w h.wholes arc.2.0 in
      let p : NumberedPlace = place.0 in
      let is : IsWholeAt cut blif facts p w = place.2 in
      let paired = paired_model cut.top.design blif cut.top.rules p.at.cell in
      let devices = checked_devices cut in
      let outputs = all_outputs cut blif facts in
      let model = model_there cut.top blif facts p devices outputs paired w is.whole in
      let m : ℕ = model.0 in
      let k : Comparison = comparison_of cut.top.design blif cut.top.rules p.at.cell m in
      let s = (is.links m model.1).sound link arc.2.1 in
      let made = at_map (settled_drive devices outputs) (outputs_of_place cut.top blif facts p) link.output pin
      (subst (λ (pins : List WholePin). At pins link.output pin) (outputs_are cut.top blif facts p devices devices outputs outputs paired w is.whole) here) in
      let own = pin_there cut.top blif facts p m paired link.output made.0 model.1 made.1 in
      let same = one_at w.outputs link.output s.3 pin s.10 here in
      let signal : output_signal s.2.port.role ≡ Some made.0.pin.signal =
      s.11 ∙ ap (λ (x : WholePin). Some x.signal) same ∙ ap (λ (x : WholePin). Some x.signal) (sym made.2) in
      let one = one_pin k p.at (apart p m place.1 model.1) own.0 s.2 made.0.pin.signal own.1 s.7 own.2 signal in
      let net : pin.net.0 ≡ s.2.net.0 =
      ap (λ (x : WholePin). x.net.0) (sym made.2) ∙ ap (λ (x : Net). x.0) own.3 ∙ ap (λ (x : Pin). x.net.0) one in
      let is_phase = one_phase cut.top.rules are s.0 phase s.4 lt (sym s.5 ∙ arc.2.2) in (
        p,
        m,
        s.1,
        s.2,
        place.1,
        model.1,
        (s.6, s.7, subst (λ (ph : ℕ). Links k ph s.1.port s.2.port) is_phase s.8),
        ap (λ (x : Net). x.0) (sym s.9) ∙ arc.2.3,
        subst (λ (n : ℕ). IsTogether (circuit_with cut blif facts) this bare to n) net (together_with to pin.net.0 arc.2.4.2),
      )

  arc_with : (from to : ℕ) → HasArc c this from to → HasArcWith cut blif facts phase from to
  arc_with from to (inl gate) = inl (subst (λ (d : Circuit). HasGateArc d this from to) (without_is cut blif facts c h) (gate_there c this from to gate))
  arc_with from to (inr whole) = inr (link_arc from to whole)

pub arcs_are_of_choice : ArcsAreOfChoice
arcs_are_of_choice cut blif facts c phase are apart h lt from to arc = arc_with cut blif facts c phase are apart h lt from to arc

pub circuits_are_acyclic : CircuitsAreAcyclic
circuits_are_acyclic cut blif facts c i phase are apart choice h lt low free =
    acyclic_kept (HasArc c (phase_at cut.top.rules phase)) (HasArcWith (before cut i) blif facts phase)
    (arc_with (before cut i) blif facts c phase are apart h lt) (chain_is_acyclic cut blif facts i phase choice lt low free)
