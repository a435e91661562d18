-- The arcs of a circuit with whole instances are those of the definitions by which instances are chosen.
use Rattle.std.proofs.Common.{◌≡◌, ℕ, zero, suc, ◌<◌, Bool, false, List, [], ◌∷◌, length, map, Option, Some, None, subst, sym, refl, ◌∙◌, ap, inl, inr}
use Rattle.std.specs.Prelude.{◌↔◌}
use Rattle.std.specs.List.{AllZip, enumerate_from}
use Rattle.std.proofs.lemmas.Option.{none-some, same_Some}
use Rattle.checked_chain.proofs.AcyclicLaws.{acyclic_kept}
use Rattle.checked_chain.proofs.GateArcs.{known_there, without, without_is}
use Rattle.checked_chain.proofs.LinkLaws.{arcs_are_of_choice}
use Rattle.checked_chain.proofs.WholeLaws.{outputs_are}
use Rattle.checked_chain.specs.Arcs.{AreWholeOutputsApart}
use Rattle.whole_circuits.proofs.ListLaws.{placed}
use Rattle.vrt_model.proofs.Lists.{map_at}
use Rattle.vrt_model.specs.Checked.{HasArcWith, HasLinkArc, IsCircuitWith, circuit_with}
use Rattle.vrt_model.specs.CheckedParts.{checked_devices}
use Rattle.vrt_model.specs.Comparison.{CellPort, Comparison, output_signal, phase_at}
use Rattle.vrt_model.specs.Cut.{Cut, NumberedPlace, whole_places}
use Rattle.vrt_model.specs.Inputs.{AreRules}
use Rattle.vrt_model.specs.Known.{HasArc, HasGateArc, HasWholeArc, IsChannel, IsTogether, itself, onward}
use Rattle.vrt_model.specs.Lists.{Among, At}
use Rattle.vrt_model.specs.PairedPorts.{Model, Paired, paired_model}
use Rattle.vrt_model.specs.Reading.{bare}
use Rattle.vrt_model.specs.Unrolled.{Top}
use Rattle.vrt_model.specs.Unsupported.{IsAcyclic, comparison_of}
use Rattle.vrt_model.specs.WholeInstances.{IsWholeAt, Links, OutputAt, Pin, all_outputs, drive_in, driven_pins, driven_pins_from, outputs_of_place, pins_of, settled_drive}
use Rattle.vrt_model.specs.declared.blif.Blif.{Blif}
use Rattle.vrt_model.specs.declared.circuit.Circuit.{Circuit}
use Rattle.vrt_model.specs.declared.circuit.Device.{Device}
use Rattle.vrt_model.specs.declared.ids.Net.{Net}
use Rattle.vrt_model.specs.declared.rules.Phase.{Phase}
use Rattle.vrt_model.specs.declared.whole.CellFacts.{CellFacts}
use Rattle.vrt_model.specs.declared.whole.Whole.{Whole}
use Rattle.vrt_model.specs.declared.whole.WholePin.{WholePin}

-- ---- gates

module _ (c : Circuit) (phase : Phase) where
  channel_back : (which : Bool) (d : Device) → IsChannel (without c) phase which d → IsChannel c phase which d
  channel_back which d h = (h.0, λ v known. h.1 v (known_there c phase known))

  together_back : {which : Bool} {n m : ℕ} → IsTogether (without c) phase which n m → IsTogether c phase which n m
  together_back (itself p) = itself p
  together_back {which} (onward d t channel joins p) = onward d (together_back t) (channel_back which d channel) joins p

  gate_back : (from to : ℕ) → HasGateArc (without c) phase from to → HasGateArc c phase from to
  gate_back from to h =
      (h.0, (h.1.0, h.1.1, together_back h.1.2, channel_back bare h.0 h.1.3, h.1.4), h.2, λ v known. h.3 v (known_there c phase known))

-- ---- links

-- what stands in the first list has its item in the second
beside_there : {A B : Type 0} (R : A → B → Type 0) (xs : List A) (ys : List B) (x : A) → AllZip R xs ys → Among xs x → (y : B) × Among ys y × R x y
beside_there R [] ys x h m = absurd (none-some x m.1)
beside_there R (a ∷ xs) [] x h m = absurd h
beside_there {A} {B} R (a ∷ xs) (y ∷ ys) x h (zero, e) = (y, (0, refl), subst (λ (z : A). R z y) (same_Some a x e) h.0)
beside_there R (a ∷ xs) (y ∷ ys) x h (suc i, e) = let rest = beside_there R xs ys x h.1 (i, e) in (rest.0, (suc rest.1.0, rest.1.1), rest.2)

-- the pin of an output port
record IsDrivenPin (out : Pin) (s : ℕ) (pins : List WholePin) : Type 0 where
  at : ℕ
  pin : WholePin
  here : At pins at pin
  signal : pin.signal ≡ s
  net : pin.net ≡ out.net

driven_there : (facts : List CellFacts) (cell j : ℕ) (pins : List Pin) (i : ℕ) (out : Pin) (s : ℕ) → At pins i out → output_signal out.port.role ≡ Some s
    → IsDrivenPin out s (driven_pins_from facts cell j pins)
driven_there facts cell j [] i out s e role = absurd (none-some out e)
driven_there facts cell j (p ∷ pins) zero out s e role = first (output_signal p.port.role) (ap (λ (x : Pin). output_signal x.port.role) same ∙ role)
  where
    same : p ≡ out
    same = same_Some p out e

    first : (o : Option ℕ) → o ≡ Some s
        → IsDrivenPin out s (elim o [
          | None ↦ driven_pins_from facts cell j pins
          | Some k ↦ record { net = p.net; signal = k; drive = drive_in facts cell j; observed = false } ∷ driven_pins_from facts cell (suc j) pins
        ])
    first None is = absurd (none-some s is)
    first (Some k) is = record {
      at = 0;
      pin = record { net = p.net; signal = k; drive = drive_in facts cell j; observed = false };
      here = refl;
      signal = same_Some k s is;
      net = ap (λ (x : Pin). x.net) same;
    }
driven_there facts cell j (p ∷ pins) (suc i) out s e role =
    later (output_signal p.port.role) (λ n. driven_there facts cell n pins i out s e role)
  where
    later : (o : Option ℕ) → ((n : ℕ) → IsDrivenPin out s (driven_pins_from facts cell n pins))
        → IsDrivenPin out s (elim o [
          | None ↦ driven_pins_from facts cell j pins
          | Some k ↦ record { net = p.net; signal = k; drive = drive_in facts cell j; observed = false } ∷ driven_pins_from facts cell (suc j) pins
        ])
    later None rest = rest j
    later (Some k) rest =
        let found = rest (suc j) in record { at = suc found.at; pin = found.pin; here = found.here; signal = found.signal; net = found.net }

-- steps of equations that are short at any values
same_signal : (o : Option ℕ) (s k : ℕ) → o ≡ Some s → k ≡ s → o ≡ Some k
same_signal o s k e f = e ∙ ap (λ (n : ℕ). Some n) (sym f)

same_net : (a b : Net) (n : ℕ) → a ≡ b → b.0 ≡ n → a.0 ≡ n
same_net a b n e f = ap (λ (x : Net). x.0) e ∙ f

-- a link is to an output
to_output : (k : Comparison) (phase : ℕ) (from to : CellPort) → Links k phase from to → (s : ℕ) × (output_signal to.role ≡ Some s)
to_output k phase from to (inl (s, out, inl inside)) = (out, inside.1)
to_output k phase from to (inl (s, out, inr inside)) = (out, inside.1)
to_output k phase from to (inr named) = named.1

-- the output pins of an instance, where its cell pairs so
abbrev outputs_by : Top → Blif → List CellFacts → NumberedPlace → Paired → List OutputAt
outputs_by t blif facts p paired =
    elim paired [
      | Model n ↦
          map (λ (q : ℕ × WholePin). let o : OutputAt = record { instance = p.number; output = q.0; pin = q.1 } in o)
          (enumerate_from 0 (driven_pins facts (comparison_of t.design blif t.rules p.at.cell n) p.at))
      | _ ↦ []
    ]

own_at : (t : Top) (blif : Blif) (facts : List CellFacts) (p : NumberedPlace) (m j : ℕ) (x : WholePin) → paired_model t.design blif t.rules p.at.cell ≡ Model m
    → At (driven_pins facts (comparison_of t.design blif t.rules p.at.cell m) p.at) j x → At (outputs_of_place t blif facts p) j (record { instance = p.number; output = j; pin = x })
own_at t blif facts p m j x e here =
    let pins = driven_pins facts (comparison_of t.design blif t.rules p.at.cell m) p.at in
    subst (λ (paired : Paired). At (outputs_by t blif facts p paired) j (record { instance = p.number; output = j; pin = x })) (sym e)
    (map_at (λ (q : ℕ × WholePin). let o : OutputAt = record { instance = p.number; output = q.0; pin = q.1 } in o) (enumerate_from 0 pins) j (j, x) (placed pins j x here))

module _ (cut : Cut) (blif : Blif) (facts : List CellFacts) (c : Circuit) (phase : ℕ) (h : IsCircuitWith cut blif facts c) (lt : phase < length cut.top.rules.phases) where
  abbrev this : Phase
  this = phase_at cut.top.rules phase

  back_together : (n m : ℕ) → IsTogether (circuit_with cut blif facts) this bare n m → IsTogether c this bare n m
  back_together n m t = together_back c this (subst (λ (d : Circuit). IsTogether d this bare n m) (sym (without_is cut blif facts c h)) t)

  link_back : (from to : ℕ) → HasLinkArc cut blif facts phase from to → HasWholeArc c this from to
  link_back from to arc =
      let p : NumberedPlace = arc.0 in
      let m : ℕ = arc.1 in
      let pin : Pin = arc.2 in
      let out : Pin = arc.3 in
      let k : Comparison = comparison_of cut.top.design blif cut.top.rules p.at.cell m in
      let paired = paired_model cut.top.design blif cut.top.rules p.at.cell in
      let devices = checked_devices cut in
      let outputs = all_outputs cut blif facts in
      let there = beside_there (IsWholeAt cut blif facts) (whole_places cut) c.wholes p h.wholes arc.4 in
      let w : Whole = there.0 in
      let is : IsWholeAt cut blif facts p w = there.2 in
      let linked = arc.6 in
      let signal = to_output k phase pin.port out.port linked.2 in
      let driven = driven_there facts p.at.cell 0 (pins_of k p.at) linked.1.0 out signal.0 linked.1.1 signal.1 in
      let one : OutputAt = record { instance = p.number; output = driven.at; pin = driven.pin } in
      let settled : WholePin = settled_drive devices outputs one in
      let own : At (outputs_of_place cut.top blif facts p) driven.at one = own_at cut.top blif facts p m driven.at driven.pin arc.5 driven.here in
      let here : At w.outputs driven.at settled =
      subst (λ (pins : List WholePin). At pins driven.at settled) (sym (outputs_are cut.top blif facts p devices devices outputs outputs paired w is.whole))
      (map_at (settled_drive devices outputs) (outputs_of_place cut.top blif facts p) driven.at one own) in
      let link = (is.links m arc.5).full phase pin out settled driven.at lt linked.0 linked.1 linked.2 here (same_signal (output_signal out.port.role) signal.0 driven.pin.signal signal.1 driven.signal) in
      let at : At w.outputs link.0.output settled = subst (λ (i : ℕ). At w.outputs i settled) (sym link.4) here in (
        w,
        link.0,
        (
          there.1,
          link.1,
          link.2,
          same_net link.0.from pin.net from link.3 arc.7,
          (settled, at, subst (λ (n : ℕ). IsTogether c this bare to n) (ap (λ (x : Net). x.0) (sym driven.net)) (back_together to out.net.0 arc.8)),
        ),
      )

  arc_back : (from to : ℕ) → HasArcWith cut blif facts phase from to → HasArc c this from to
  arc_back from to (inl gate) = inl (gate_back c this from to (subst (λ (d : Circuit). HasGateArc d this from to) (sym (without_is cut blif facts c h)) gate))
  arc_back from to (inr link) = inr (link_back from to link)

  -- so the one has a cycle where the other has
  pub acyclic_is : AreRules cut.top.rules → AreWholeOutputsApart cut blif → IsAcyclic (HasArc c this) ↔ IsAcyclic (HasArcWith cut blif facts phase)
  acyclic_is rules apart = (
    acyclic_kept (HasArcWith cut blif facts phase) (HasArc c this) arc_back,
    acyclic_kept (HasArc c this) (HasArcWith cut blif facts phase) (arcs_are_of_choice cut blif facts c phase rules apart h lt),
  )
