-- The links of an instance are those that its cell's ports have, taken to the nets and output pins of the instance.
use Rattle.std.proofs.Common.{◌≡◌, ℕ, zero, suc, ◌<◌, Bool, true, false, List, [], ◌∷◌, length, Option, Some, None, ap, ap₂, refl, subst, sym, ◌∙◌, arith, inl, inr}
use Rattle.std.specs.Prelude.{◌==◌, cond, flat_map, option_and_then, option_map, slice_get, unwrap_or}
use Rattle.std.specs.List.{enumerate_from}
use Rattle.std.proofs.lemmas.Bool.{eq-eqb, eqb-true}
use Rattle.std.proofs.lemmas.Option.{none-some, same_Some, slice_get_within}
use Rattle.checked_chain.proofs.ChoiceLaws.{at_enumerated}
use Rattle.phase_ports.proofs.PortLaws.{place_is}
use Rattle.phase_ports.specs.Ports.{unnamed}
use Rattle.phase_ports.specs.declared.port_list.Port.{Port}
use Rattle.port_links.specs.PortLinks.{port_link}
use Rattle.port_links.specs.declared.links.PortLink.{PortLink}
use Rattle.whole_circuits.proofs.ListLaws.{placed}
use Rattle.whole_circuits.specs.Links.{ArePhaseLinks, link_to, links_by, links_from, links_over, over_of, signal_at}
use Rattle.whole_circuits.specs.Pins.{IsAtPorts}
use Rattle.whole_circuits.specs.declared.links.Over.{Over}
use Rattle.vrt_model.proofs.Lists.{among_filter_map, at_there, filter_map_among, map_at, one_at}
use Rattle.vrt_model.proofs.Members.{among_either, among_flat_map, among_left, among_right, at_none, flat_map_among}
use Rattle.vrt_model.specs.Comparison.{CellPort, Comparison, cell_at, output_signal, phase_at, port_nets, ports_of}
use Rattle.vrt_model.specs.FlatCircuit.{net_id}
use Rattle.vrt_model.specs.Lists.{At, Among}
use Rattle.vrt_model.specs.Unrolled.{Place}
use Rattle.vrt_model.specs.WholeInstances.{HasLinks, Links, Pin, is_named_port, pins_from, pins_of}
use Rattle.vrt_model.specs.declared.ids.Net.{Net}
use Rattle.vrt_model.specs.declared.rules.Phase.{Phase}
use Rattle.vrt_model.specs.declared.whole.Link.{Link}
use Rattle.vrt_model.specs.declared.whole.WholePin.{WholePin}

-- ---- options

then_some : {X Y : Type 0} (f : X → Option Y) (o : Option X) (y : Y) → option_and_then f o ≡ Some y → (x : X) × (o ≡ Some x) × (f x ≡ Some y)
then_some f None y e = absurd (none-some y e)
then_some f (Some x) y e = (x, refl, e)

mapped : {X Y : Type 0} (f : X → Y) (o : Option X) (y : Y) → option_map f o ≡ Some y → (x : X) × (o ≡ Some x) × (f x ≡ y)
mapped f None y e = absurd (none-some y e)
mapped f (Some x) y e = (x, refl, same_Some (f x) y e)

-- ---- over one link of two ports

-- the link leads from the net at the one port to an output pin with the signal of the other
record IsOver (name : List ℕ) (ports : List Port) (nets : List Net) (outputs : List WholePin) (l : PortLink) (link : Link) : Type 0 where
  from : Net
  at_from : At nets l.from from
  to : Port
  at_to : At ports l.to to
  signal : ℕ
  role : output_signal to.role ≡ Some signal
  pin : WholePin
  at_pin : At outputs link.output pin
  same : pin.signal ≡ signal
  phase_is : link.phase ≡ name
  from_is : link.from ≡ from
  named_is : link.named ≡ l.named

module _ (name : List ℕ) (ports : List Port) (nets : List Net) (outputs : List WholePin) (l : PortLink) where
  abbrev linked : Over → ℕ × WholePin → Link
  linked over q = record { phase = name; from = over.from; output = q.0; named = over.named }

  to_signal : (over : Over) (q : ℕ × WholePin) (link : Link) → link_to name over q ≡ Some link → (q.1.signal ≡ over.signal) × (linked over q ≡ link)
  to_signal over q link e = by_test (q.1.signal == over.signal) refl e
    where
      by_test : (b : Bool) → (q.1.signal == over.signal) ≡ b → cond b (Some (linked over q)) None ≡ Some link → (q.1.signal ≡ over.signal) × (linked over q ≡ link)
      by_test true t e = (eqb-true q.1.signal over.signal t, same_Some (linked over q) link e)
      by_test false t e = absurd (none-some link e)

  is_over : (link : Link) → Among (links_over name ports nets outputs l) link → IsOver name ports nets outputs l link
  is_over link m = by_over (over_of ports nets l) refl m
    where
      by_over : (o : Option Over) → over_of ports nets l ≡ o → Among (links_from name outputs o) link → IsOver name ports nets outputs l link
      by_over None e m = absurd (at_none m.0 link m.1)
      by_over (Some over) e m =
          let pick = λ (s : ℕ). option_map (λ (net : Net). let one : Over = record { from = net; signal = s; named = l.named } in one) (slice_get nets l.from) in
          let first = then_some pick (signal_at ports l.to) over e in
          let port = then_some (λ (p : Port). output_signal p.role) (slice_get ports l.to) first.0 first.1 in
          let net = mapped (λ (net : Net). let one : Over = record { from = net; signal = first.0; named = l.named } in one) (slice_get nets l.from) over first.2 in
          let found = among_filter_map (link_to name over) (enumerate_from 0 outputs) link m in
          let at = at_enumerated 0 outputs found.1.0 found.0 found.1.1 in
          let is = to_signal over found.0 link found.2 in
          let number : found.1.0 ≡ link.output = (let k = at.0 in let place : found.1.0 ≡ found.0.0 = omega (arith, k) in place) ∙ ap (λ (x : Link). x.output) is.1 in
          record {
            from = net.0;
            at_from = net.1;
            to = port.0;
            at_to = port.1;
            signal = first.0;
            role = port.2;
            pin = found.0.1;
            at_pin = subst (λ (k : ℕ). At outputs k found.0.1) number at.1;
            same = is.0 ∙ ap (λ (x : Over). x.signal) (sym net.2);
            phase_is = ap (λ (x : Link). x.phase) (sym is.1);
            from_is = ap (λ (x : Link). x.from) (sym is.1) ∙ ap (λ (x : Over). x.from) (sym net.2);
            named_is = ap (λ (x : Link). x.named) (sym is.1) ∙ ap (λ (x : Over). x.named) (sym net.2);
          }

  over_among : (from : Net) (to : Port) (s : ℕ) (pin : WholePin) (j : ℕ) → At nets l.from from → At ports l.to to → output_signal to.role ≡ Some s → At outputs j pin → pin.signal ≡ s
      → Among (links_over name ports nets outputs l) (record { phase = name; from = from; output = j; named = l.named })
  over_among from to s pin j at_from at_to role at_pin same =
      subst (λ (o : Option Over). Among (links_from name outputs o) (record { phase = name; from = from; output = j; named = l.named })) (sym over_is)
      (filter_map_among (link_to name over) (enumerate_from 0 outputs) j (j, pin) (linked over (j, pin)) (placed outputs j pin at_pin) hit)
    where
      over : Over
      over = record { from = from; signal = s; named = l.named }

      over_is : over_of ports nets l ≡ Some over
      over_is =
          ap (λ (o : Option ℕ). option_and_then (λ (k : ℕ). option_map (λ (net : Net). let one : Over = record { from = net; signal = k; named = l.named } in one) (slice_get nets l.from)) o)
          (ap (λ (o : Option Port). option_and_then (λ (p : Port). output_signal p.role) o) at_to ∙ role)
          ∙ ap (λ (o : Option Net). option_map (λ (net : Net). let one : Over = record { from = net; signal = s; named = l.named } in one) o) at_from

      hit : link_to name over (j, pin) ≡ Some (linked over (j, pin))
      hit = ap (λ (b : Bool). cond b (Some (linked over (j, pin))) None) (eq-eqb pin.signal s same)

-- ---- phase by phase

-- a link of one of the phases
record IsInPhase (ports : List Port) (nets : List Net) (outputs : List WholePin) (phases : List Phase) (own : List (List PortLink)) (link : Link) : Type 0 where
  place : ℕ
  phase : Phase
  at_phase : At phases place phase
  links : List PortLink
  at_links : At own place links
  one : PortLink
  among : Among links one
  over : Among (links_over phase.name ports nets outputs one) link

module _ (ports : List Port) (nets : List Net) (outputs : List WholePin) where
  in_phase : (phases : List Phase) (own : List (List PortLink)) (link : Link) → Among (links_by ports nets outputs phases own) link → IsInPhase ports nets outputs phases own link
  in_phase [] own link m = absurd (at_none m.0 link m.1)
  in_phase (phase ∷ phases) [] link m = absurd (at_none m.0 link m.1)
  in_phase (phase ∷ phases) (links ∷ own) link m =
      elim (among_either (flat_map (links_over phase.name ports nets outputs) links) (links_by ports nets outputs phases own) link m) [
        | inl here ↦ (
            let one = among_flat_map (links_over phase.name ports nets outputs) links link here in
            record { place = 0; phase = phase; at_phase = refl; links = links; at_links = refl; one = one.0; among = one.1; over = one.2 })
        | inr behind ↦ (
            let rest = in_phase phases own link behind in
            record { place = suc rest.place; phase = rest.phase; at_phase = rest.at_phase; links = rest.links; at_links = rest.at_links; one = rest.one; among = rest.among; over = rest.over })
      ]

  phase_among : (phases : List Phase) (own : List (List PortLink)) (place : ℕ) (phase : Phase) (links : List PortLink) (l : PortLink) (link : Link) → At phases place phase → At own place links
      → Among links l → Among (links_over phase.name ports nets outputs l) link → Among (links_by ports nets outputs phases own) link
  phase_among [] own place phase links l link at_phase at_links m over = absurd (none-some phase at_phase)
  phase_among (first ∷ phases) [] place phase links l link at_phase at_links m over = absurd (none-some links at_links)
  phase_among (first ∷ phases) (list ∷ own) zero phase links l link at_phase at_links m over =
      let p = same_Some first phase at_phase in
      let q = same_Some list links at_links in
      among_left (flat_map (links_over first.name ports nets outputs) list) (links_by ports nets outputs phases own) link
      (flat_map_among (links_over first.name ports nets outputs) list l link (subst (λ (xs : List PortLink). Among xs l) (sym q) m)
      (subst (λ (x : Phase). Among (links_over x.name ports nets outputs l) link) (sym p) over))
  phase_among (first ∷ phases) (list ∷ own) (suc place) phase links l link at_phase at_links m over =
      among_right (flat_map (links_over first.name ports nets outputs) list) (links_by ports nets outputs phases own) link
      (phase_among phases own place phase links l link at_phase at_links m over)

-- ---- ports and pins

-- a pin has a port and its net at one place
pin_at : (ports : List CellPort) (nets : List ℕ) (i : ℕ) (pin : Pin) → At (pins_from ports nets) i pin → At ports i pin.port × ((n : ℕ) × At nets i n × (pin.net ≡ net_id n))
pin_at [] nets i pin e = absurd (none-some pin e)
pin_at (port ∷ ports) [] i pin e = absurd (none-some pin e)
pin_at (port ∷ ports) (n ∷ nets) zero pin e =
    let first : Pin = record { port = port; net = net_id n } in
    let same = same_Some first pin e in
    (ap (λ (p : Pin). Some p.port) same, (n, refl, ap (λ (p : Pin). p.net) (sym same)))
pin_at (port ∷ ports) (n ∷ nets) (suc i) pin e = pin_at ports nets i pin e

at_pin : (ports : List CellPort) (nets : List ℕ) (i : ℕ) (port : CellPort) (n : ℕ) → At ports i port → At nets i n → At (pins_from ports nets) i (record { port = port; net = net_id n })
at_pin [] nets i port n e f = absurd (none-some port e)
at_pin (first ∷ ports) [] i port n e f = absurd (none-some n f)
at_pin (first ∷ ports) (m ∷ nets) zero port n e f =
    ap₂ (λ (p : CellPort) (k : ℕ). let pin : Pin = record { port = p; net = net_id k } in Some pin) (same_Some first port e) (same_Some m n f)
at_pin (first ∷ ports) (m ∷ nets) (suc i) port n e f = at_pin ports nets i port n e f

module _ (k : Comparison) (at : Place) (ports : List Port) (nets : List Net) (is : IsAtPorts k at ports nets)
    (outputs : List WholePin) (own : List (List PortLink)) (are : ArePhaseLinks k own) where
  -- the port that stands at its place
  own_place : (port : CellPort) → Among (ports_of k) port → At (ports_of k) port.place port
  own_place port m =
      let names = (cell_at k.design k.cell).ports in
      let at = place_is 0 names (port_nets k.rules names) k.pairing.ports m.0 port m.1 in
      let place : m.0 ≡ port.place = omega (arith, at) in
      subst (λ (i : ℕ). At (ports_of k) i port) place m.1

  port_at : (port : CellPort) → Among (ports_of k) port → At ports port.place (unnamed port)
  port_at port m = subst (λ (xs : List Port). At xs port.place (unnamed port)) (sym is.ports_are) (map_at unnamed (ports_of k) port.place port (own_place port m))

  -- the pin of a port
  pin_of : (port : CellPort) → Among (ports_of k) port → (pin : Pin) × Among (pins_of k at) pin × (pin.port ≡ port) × At nets port.place pin.net
  pin_of port m =
      let here = own_place port m in
      let n = at_there at.ports port.place (subst (λ (len : ℕ). port.place < len) (sym is.each) (slice_get_within (ports_of k) port.place port here)) in (
        record { port = port; net = net_id n.0 },
        (port.place, at_pin (ports_of k) at.ports port.place port n.0 here n.1),
        refl,
        subst (λ (xs : List Net). At xs port.place (net_id n.0)) (sym is.nets_are) (map_at net_id at.ports port.place n.0 n.1),
      )

  pin_port : (pin : Pin) → Among (pins_of k at) pin → Among (ports_of k) pin.port × At nets pin.port.place pin.net
  pin_port pin m =
      let p = pin_at (ports_of k) at.ports m.0 pin m.1 in
      let names = (cell_at k.design k.cell).ports in
      let number = place_is 0 names (port_nets k.rules names) k.pairing.ports m.0 pin.port p.0 in
      let place : m.0 ≡ pin.port.place = omega (arith, number) in
      let net = map_at net_id at.ports m.0 p.1.0 p.1.1 in
      ((m.0, p.0), subst (λ (i : ℕ). At nets i pin.net) place (subst (λ (xs : List Net). At xs m.0 pin.net) (sym is.nets_are) (net ∙ ap Some (sym p.1.2))))

  -- the name of a phase
  phase_is : (place : ℕ) (phase : Phase) → At k.rules.phases place phase → phase_at k.rules place ≡ phase
  phase_is place phase e = ap (λ (o : Option Phase). unwrap_or o (record { line = 0; name = []; bits = [] })) e

  abbrev links : List Link
  links = links_by ports nets outputs k.rules.phases own

  sound : (link : Link) → Among links link
      → (phase : ℕ) × (from : Pin) × (to : Pin) × (pin : WholePin) × (phase < length k.rules.phases) × (link.phase ≡ (phase_at k.rules phase).name)
      × Among (pins_of k at) from × Among (pins_of k at) to × Links k phase from.port to.port × (link.from ≡ from.net) × At outputs link.output pin
      × (output_signal to.port.role ≡ Some pin.signal) × (link.named ≡ true → is_named_port k phase from.port ≡ true)
  sound link m =
      let p = in_phase ports nets outputs k.rules.phases own link m in
      let o = is_over p.phase.name ports nets outputs p.one link p.over in
      let h = (are.are p.place p.links p.at_links).sound p.one p.among in
      let from = pin_of h.0 h.2 in
      let to = pin_of h.1 h.3 in
      let l_from : p.one.from ≡ h.0.place = ap (λ (x : PortLink). x.from) h.5 in
      let l_to : p.one.to ≡ h.1.place = ap (λ (x : PortLink). x.to) h.5 in
      let to_port : o.to ≡ unnamed h.1 = one_at ports h.1.place o.to (unnamed h.1) (subst (λ (i : ℕ). At ports i o.to) l_to o.at_to) (port_at h.1 h.3) in
      let net : o.from ≡ from.0.net = one_at nets h.0.place o.from from.0.net (subst (λ (i : ℕ). At nets i o.from) l_from o.at_from) from.3 in (
        p.place,
        from.0,
        to.0,
        o.pin,
        slice_get_within k.rules.phases p.place p.phase p.at_phase,
        o.phase_is ∙ ap (λ (x : Phase). x.name) (sym (phase_is p.place p.phase p.at_phase)),
        from.1,
        to.1,
        subst (λ (x : CellPort). Links k p.place x to.0.port) (sym from.2) (subst (λ (x : CellPort). Links k p.place h.0 x) (sym to.2) h.4),
        o.from_is ∙ net,
        o.at_pin,
        ap (λ (x : CellPort). output_signal x.role) to.2 ∙ ap (λ (x : Port). output_signal x.role) (sym to_port) ∙ o.role ∙ ap Some (sym o.same),
        λ named. ap (λ (x : CellPort). is_named_port k p.place x) from.2 ∙ ap (λ (x : PortLink). x.named) (sym h.5) ∙ sym o.named_is ∙ named,
      )

  full : (phase : ℕ) (from to : Pin) (pin : WholePin) (j : ℕ) → phase < length k.rules.phases → Among (pins_of k at) from → Among (pins_of k at) to → Links k phase from.port to.port
      → At outputs j pin → output_signal to.port.role ≡ Some pin.signal
      → (link : Link) × Among links link × (link.phase ≡ (phase_at k.rules phase).name) × (link.from ≡ from.net) × (link.output ≡ j)
      × (is_named_port k phase from.port ≡ true → link.named ≡ true)
  full phase from to pin j lt mf mt l at_j signal =
      let own_from = pin_port from mf in
      let own_to = pin_port to mt in
      let one = at_there k.rules.phases phase lt in
      let list = at_there own phase (subst (λ (n : ℕ). phase < n) (sym are.each) lt) in
      let there = (are.are phase list.0 list.1).full from.port to.port own_from.0 own_to.0 l in
      let pl = port_link k phase from.port to.port in (
        record { phase = one.0.name; from = from.net; output = j; named = pl.named },
        phase_among ports nets outputs k.rules.phases own phase one.0 list.0 pl (record { phase = one.0.name; from = from.net; output = j; named = pl.named }) one.1 list.1 there
            (over_among one.0.name ports nets outputs pl from.net (unnamed to.port) pin.signal pin j own_from.1 (port_at to.port own_to.0) signal at_j refl),
        ap (λ (x : Phase). x.name) (sym (phase_is phase one.0 one.1)),
        refl,
        refl,
        λ named. named,
      )

  pub has_links : HasLinks k (pins_of k at) outputs links
  has_links = record { sound = sound; full = full }

-- without lists there are no links
pub no_lists : (ports : List Port) (nets : List Net) (outputs : List WholePin) (phases : List Phase) → links_by ports nets outputs phases [] ≡ []
no_lists ports nets outputs [] = refl
no_lists ports nets outputs (phase ∷ phases) = refl
