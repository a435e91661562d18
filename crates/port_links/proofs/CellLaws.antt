-- The links of the ports without their names are those of the cell.
use Rattle.std.proofs.Common.{◌≡◌, ℕ, Bool, false, List, map, arith, ap, subst, sym, ◌∙◌, inl, inr}
use Rattle.std.proofs.lemmas.Option.{get_or_from_slice_get}
use Rattle.constraints.specs.Obliged.{is_named_in}
use Rattle.phase_ports.proofs.PortLaws.{name_is, place_is, ports_shown}
use Rattle.phase_ports.specs.Ports.{ports_by, unnamed}
use Rattle.phase_ports.specs.declared.port_list.Port.{Port}
use Rattle.port_links.specs.Linked.{AreLinks, IsLinked, link_of}
use Rattle.port_links.specs.PortLinks.{ArePortLinks, HasPortLinks, port_link}
use Rattle.port_links.specs.declared.links.PortLink.{PortLink}
use Rattle.vrt_model.proofs.Lists.{map_among, map_at}
use Rattle.vrt_model.proofs.Members.{among_map}
use Rattle.vrt_model.specs.Comparison.{CellPort, Comparison, cell_at, phase_at, port_nets, ports_from, ports_of}
use Rattle.vrt_model.specs.Lists.{Among, mark_at}
use Rattle.vrt_model.specs.PairedPorts.{HasRoles}
use Rattle.vrt_model.specs.WholeInstances.{Links, is_named_port}
use Rattle.vrt_model.specs.declared.circuit.Circuit.{Circuit}
use Rattle.vrt_model.specs.declared.design.Design.{Design}
use Rattle.vrt_model.specs.declared.flat_model.FlatModel.{FlatModel}
use Rattle.vrt_model.specs.declared.pairing.Pairing.{Pairing}
use Rattle.vrt_model.specs.declared.rules.Rules.{Rules}

module _ (k : Comparison) (phase : ℕ) (named : List Bool) (ports : List Port) (links : List PortLink)
    (named_are : named ≡ map (is_named_in k.rules (cell_at k.design k.cell).name phase) (cell_at k.design k.cell).ports)
    (ports_are : ports ≡ map unnamed (ports_of k)) (are : AreLinks k.circuit (phase_at k.rules phase) k.model named ports links) where
  abbrev names : List (List ℕ)
  names = (cell_at k.design k.cell).ports

  -- the mark of a port
  mark_is : (p : CellPort) → Among (ports_of k) p → mark_at named p.place ≡ is_named_port k phase p
  mark_is p there =
      let at = place_is 0 names (port_nets k.rules names) k.pairing.ports there.0 p there.1 in
      let place : p.place ≡ there.0 = omega (arith, at) in
      let name = name_is 0 names (port_nets k.rules names) k.pairing.ports there.0 p there.1 in
      let mark = map_at (is_named_in k.rules (cell_at k.design k.cell).name phase) names there.0 p.name name in
      ap (λ (xs : List Bool). mark_at xs p.place) named_are
      ∙ ap (mark_at (map (is_named_in k.rules (cell_at k.design k.cell).name phase) names)) place
      ∙ get_or_from_slice_get (map (is_named_in k.rules (cell_at k.design k.cell).name phase) names) there.0 (is_named_port k phase p) false mark

  link_is : (from to : CellPort) → Among (ports_of k) from → link_of named (unnamed from) (unnamed to) ≡ port_link k phase from to
  link_is from to m = ap (λ (b : Bool). let l : PortLink = record { from = from.place; to = to.place; named = b } in l) (mark_is from m)

  to_links : (from to : CellPort) → Among (ports_of k) from → IsLinked k.circuit (phase_at k.rules phase) k.model named (unnamed from) (unnamed to) → Links k phase from to
  to_links from to m (inl inside) = inl inside
  to_links from to m (inr name) = inr (sym (mark_is from m) ∙ name.0, name.1)

  from_links : (from to : CellPort) → Among (ports_of k) from → Links k phase from to → IsLinked k.circuit (phase_at k.rules phase) k.model named (unnamed from) (unnamed to)
  from_links from to m (inl inside) = inl inside
  from_links from to m (inr name) = inr (mark_is from m ∙ name.0, name.1)

  port_of : (p : Port) → Among ports p → (q : CellPort) × Among (ports_of k) q × (unnamed q ≡ p)
  port_of p m = among_map unnamed (ports_of k) p (subst (λ (xs : List Port). Among xs p) ports_are m)

  among_ports : (q : CellPort) → Among (ports_of k) q → Among ports (unnamed q)
  among_ports q m = subst (λ (xs : List Port). Among xs (unnamed q)) (sym ports_are) (map_among unnamed (ports_of k) q m)

  pub has_port_links : HasPortLinks k phase links
  has_port_links = record {
    sound = λ link m.
        let l = are.sound link m in
        let from = port_of l.0 l.2 in
        let to = port_of l.1 l.3 in
        let linked : IsLinked k.circuit (phase_at k.rules phase) k.model named (unnamed from.0) (unnamed to.0) =
        subst (λ (p : Port). IsLinked k.circuit (phase_at k.rules phase) k.model named p (unnamed to.0)) (sym from.2)
        (subst (λ (p : Port). IsLinked k.circuit (phase_at k.rules phase) k.model named l.0 p) (sym to.2) l.4) in
        let same : link ≡ link_of named (unnamed from.0) (unnamed to.0) = l.5 ∙ ap (λ (p : Port). link_of named p l.1) (sym from.2) ∙ ap (link_of named (unnamed from.0)) (sym to.2) in
        (from.0, to.0, from.1, to.1, to_links from.0 to.0 from.1 linked, same ∙ link_is from.0 to.0 from.1);
    full = λ from to mf mt l.
        subst (Among links) (link_is from to mf) (are.full (unnamed from) (unnamed to) (among_ports from mf) (among_ports to mt) (from_links from to mf l));
  }

-- what is known of the marks, the ports and the links, for any netlist, rules, cell, pairing, circuit and model
abbrev AreOf : ℕ → List Bool → List Port → List PortLink → Design → Rules → ℕ → Pairing → Circuit → FlatModel → Type 0
AreOf phase named ports links design rules cell pairing circuit model =
    (named ≡ map (is_named_in rules (cell_at design cell).name phase) (cell_at design cell).ports)
    × (ports ≡ map unnamed (ports_from 0 (cell_at design cell).ports (port_nets rules (cell_at design cell).ports) pairing.ports))
    × AreLinks circuit (phase_at rules phase) model named ports links

pub port_links_are : (design : Design) (rules : Rules) (cell : ℕ) (circuit : Circuit) (pairing : Pairing) (model : FlatModel) (phase : ℕ) (named : List Bool) (ports : List Port) (links : List PortLink)
    → HasRoles rules (cell_at design cell) pairing → named ≡ map (is_named_in rules (cell_at design cell).name phase) (cell_at design cell).ports → ports ≡ ports_by 0 2 pairing.ports
    → AreLinks circuit (phase_at rules phase) model named ports links → ArePortLinks design rules cell circuit pairing model phase links
port_links_are design rules cell circuit pairing model phase named ports links roles named_are ports_are are k of circuit_is model_is =
    let Of = AreOf phase named ports links in
    let given : Of design rules cell pairing circuit model = (named_are, ports_are ∙ ports_shown rules (cell_at design cell) pairing roles, are) in
    let one = subst (λ (d : Design). Of d rules cell pairing circuit model) (sym of.design_is) given in
    let two = subst (λ (r : Rules). Of k.design r cell pairing circuit model) (sym of.rules_are) one in
    let three = subst (λ (x : ℕ). Of k.design k.rules x pairing circuit model) (sym of.cell_is) two in
    let four = subst (λ (p : Pairing). Of k.design k.rules k.cell p circuit model) (sym of.pairing_is) three in
    let five = subst (λ (c : Circuit). Of k.design k.rules k.cell k.pairing c model) (sym circuit_is) four in
    let all : Of k.design k.rules k.cell k.pairing k.circuit k.model = subst (λ (m : FlatModel). Of k.design k.rules k.cell k.pairing k.circuit m) (sym model_is) five in
    has_port_links k phase named ports links all.0 all.1 all.2
