-- What is observed in a circuit with a cell in it, with the cell whole, and in the cell.
use Rattle.std.proofs.Common.{◌≡◌, ◌⊎◌, ℕ, ◌<◌, Bool, true, false, List, length, Option, ap, ap₂, subst, sym, refl, ◌∙◌, inl, inr}
use Rattle.std.specs.Prelude.{is_some, option_map, unwrap_or}
use Rattle.std.proofs.lemmas.Bool.{cases_Bool, or_left, or_right}
use Rattle.std.proofs.lemmas.Option.{none-some}
use Rattle.cell_inside.proofs.NetKinds.{plain_not_given, supply_given}
use Rattle.cell_inside.specs.LeftWhole.{IsLeftWhole}
use Rattle.cell_inside.specs.Placed.{IsPlaced, IsSupply}
use Rattle.vrt_model.proofs.Lists.{at_there, map_among}
use Rattle.vrt_model.proofs.Members.{among_map}
use Rattle.vrt_model.specs.CellRules.{is_constrained}
use Rattle.vrt_model.specs.Checked.{with_circuit}
use Rattle.vrt_model.specs.Comparison.{CellPort, Comparison, cell_at, is_observed, output_signal, ports_of}
use Rattle.vrt_model.specs.FlatCircuit.{net_id}
use Rattle.vrt_model.specs.Known.{IsPlain}
use Rattle.vrt_model.specs.Lists.{Among, At}
use Rattle.vrt_model.specs.Reading.{is_given, is_given_at}
use Rattle.vrt_model.specs.declared.circuit.Circuit.{Circuit}
use Rattle.vrt_model.specs.declared.circuit.FlatNet.{FlatNet}
use Rattle.vrt_model.specs.declared.circuit.Hold.{Hold}
use Rattle.vrt_model.specs.declared.circuit.NetKind.{NetKind}
use Rattle.vrt_model.specs.declared.circuit.NetKind.TheVariants.{Supply, Clock, Input, Plain}
use Rattle.vrt_model.specs.declared.design.Design.{Design}
use Rattle.vrt_model.specs.declared.ids.Net.{Net}
use Rattle.vrt_model.specs.declared.rules.Rules.{Rules}
use Rattle.vrt_model.specs.declared.whole.Whole.{Whole}
use Rattle.vrt_model.specs.declared.whole.WholePin.{WholePin}
use Rattle.whole_solutions.proofs.ObservedCases.{IsObservedFor, gate_observed, hold_observed, instance_observed, observed_for, pin_observed, port_observed}
use Rattle.whole_solutions.specs.Observed.{HasLeftInstances, HidesItsNets, ObservedNetsAreThere, WholeObservesNoMore, is_observed_or_given}

module _ (k q : Comparison) (phase : ℕ) (whole_circuit : Circuit) (at place fresh : ℕ → ℕ) (remaining compared exposed : ℕ → Bool) (drive : ℕ → ℕ)
    (same_design : q.design ≡ k.design) (same_rules : q.rules ≡ k.rules)
    (placed : IsPlaced q.circuit k.circuit at exposed drive)
    (left : IsLeftWhole q.circuit k.circuit whole_circuit at (λ n. n) place fresh remaining compared exposed drive)
    (p : HasLeftInstances k q phase whole_circuit at) where
  abbrev there : Comparison
  there = with_circuit k whole_circuit

  same_constraints : (cell : ℕ) → is_constrained q.rules (cell_at q.design cell).name ≡ is_constrained k.rules (cell_at k.design cell).name
  same_constraints cell = ap₂ (λ (rules : Rules) (design : Design). is_constrained rules (cell_at design cell).name) same_rules same_design

  -- what is observed in the circuit is so with the cell whole, or in the cell
  there_or_inside : (n : ℕ) → IsObservedFor k phase n → (is_observed there phase n ≡ true) ⊎ ((m : ℕ) × (n ≡ at m) × (is_observed q phase m ≡ true))
  there_or_inside n (inl (d, a, e)) =
      elim (left.devices d a) [
        | inl own ↦ inr (own.0.gate.0, sym e ∙ own.2.gate, gate_observed q phase own.0.gate.0 (own.0, own.1, refl))
        | inr f ↦ inl (gate_observed there phase n (f.0, f.1, f.2.image.gate ∙ e))
      ]
  there_or_inside n (inr (inl (h, a, e))) =
      let g = left.holds a.0 h a.1 in inl (hold_observed there phase n (g.0, (a.0, g.1), g.2.net ∙ e))
  there_or_inside n (inr (inr (inl o))) = inl (port_observed there phase n o)
  there_or_inside n (inr (inr (inr (inl (i, m, a, b, e, t))))) =
      elim (p.instances i a) [
        | inl own ↦
            let l = among_map (λ (x : Net). net_id (at x.0)) own.0.ports m (subst (λ (nets : List Net). Among nets m) own.2.ports b) in
            inr (
              l.0.0,
              sym (ap (λ (x : Net). x.0) l.2 ∙ e),
              instance_observed q phase l.0.0 (
                own.0,
                l.0,
                own.1,
                l.1,
                refl,
                same_constraints own.0.cell ∙ subst (λ (cell : ℕ). is_constrained k.rules (cell_at k.design cell).name ≡ true) own.2.cell t,
              ),
            )
        | inr stays ↦ inl (instance_observed there phase n (i, m, stays, b, e, t))
      ]
  there_or_inside n (inr (inr (inr (inr (w, pin, a, b, seen, e))))) =
      let v = p.wholes w a in
      inl (pin_observed there phase n (v.0, pin, v.1, subst (λ (pins : List WholePin). Among pins pin) (sym v.2) b, seen, e))

  -- an observed net of the cell is plain or a supply, or it is observed with the cell whole
  observed_inside : (m : ℕ) (net : FlatNet) → At q.circuit.nets m net → is_observed q phase m ≡ true
      → IsPlain q.circuit m ⊎ (((value : Bool) × IsSupply q.circuit m value) ⊎ (is_observed there phase (at m) ≡ true))
  observed_inside m net e seen = by_kind net.kind refl
    where
      by_kind : (kind : NetKind) → net.kind ≡ kind → IsPlain q.circuit m ⊎ (((value : Bool) × IsSupply q.circuit m value) ⊎ (is_observed there phase (at m) ≡ true))
      by_kind (Supply value) is = inr (inl (value, (net, e, is)))
      by_kind (Clock clock) is =
          let c = p.clocks m net clock e is in inr (inr (instance_observed there phase (at m) (c.0, c.1, c.2, c.3, c.4, c.5)))
      by_kind Input is = let c = p.inputs m net e is seen in inr (inr (pin_observed there phase (at m) (c.0, c.1, c.2, c.3, c.4, c.5)))
      by_kind Plain is = inl (net, e, is)

  module _ (hides : HidesItsNets k q phase whole_circuit at remaining compared) (within : (n : ℕ) → is_observed q phase n ≡ true → n < length q.circuit.nets) where
    -- what is observed with the cell whole remains
    pub remains : (n : ℕ) → IsObservedFor there phase n → remaining n ≡ true
    remains n (inl (f, a, e)) =
        let d = left.devices_back f a in subst (λ (x : ℕ). remaining x ≡ true) (sym d.2.image.gate ∙ e) d.2.gate
    remains n (inr (inl (g, a, e))) =
        let h = left.holds_back a.0 g a.1 in subst (λ (x : ℕ). remaining x ≡ true) (sym h.2.net ∙ e) h.2.stays
    remains n (inr (inr (inl (o, a, e, out, seen)))) = subst (λ (x : ℕ). remaining x ≡ true) e (hides.ports o a)
    remains n (inr (inr (inr (inl (i, m, a, b, e, t))))) = subst (λ (x : ℕ). remaining x ≡ true) e (hides.instance_ports i m a b)
    remains n (inr (inr (inr (inr (v, pin, a, b, seen, e))))) = subst (λ (x : ℕ). remaining x ≡ true) e (hides.pins v pin a b)

    abbrev IsThere : ℕ → Type 0
    IsThere n = ((compared n ≡ true) × (is_observed_or_given there phase n ≡ true)) ⊎ ((m : ℕ) × (n ≡ at m) × IsPlain q.circuit m × (is_observed q phase m ≡ true))

    observed_there : (n : ℕ) → is_observed there phase n ≡ true → IsThere n
    observed_there n seen =
        elim (cases_Bool (compared n)) [
          | inl t ↦ inl (t, or_left (is_observed there phase n) (is_given_at whole_circuit n) seen)
          | inr f ↦
              let h = hides.hidden n f in
              inr (h.0, h.1, h.2, hides.outputs h.0 h.2 (subst (λ (x : ℕ). remaining x ≡ true) h.1 (remains n (observed_for there phase n seen))))
        ]

    -- a supply of the cell is compared, and given with the cell whole
    supply_there : (m : ℕ) (value : Bool) → IsSupply q.circuit m value → IsThere (at m)
    supply_there m value s =
        let up = placed.supplies m value s in
        elim (cases_Bool (compared (at m))) [
          | inl t ↦
              let other = left.nets (at m) up.0 (left.compared_remaining (at m) t) up.1 in
              let given : is_given_at whole_circuit (at m) ≡ true =
              ap (λ (o : Option FlatNet). unwrap_or (option_map (λ (net : FlatNet). is_given net.kind) o) false) other.1 ∙ ap is_given (other.2 ∙ up.2) in
              inl (t, or_right (is_observed there phase (at m)) (is_given_at whole_circuit (at m)) given)
          | inr f ↦
              let h = hides.hidden (at m) f in
              absurd (plain_not_given k.circuit (at m) up.0 (subst (IsPlain k.circuit) (sym h.1) (placed.plain h.0 h.2)) up.1 (supply_given k.circuit (at m) value up))
        ]

    pub each_there : (n : ℕ) → is_observed k phase n ≡ true → IsThere n
    each_there n seen =
        elim (there_or_inside n (observed_for k phase n seen)) [
          | inl up ↦ observed_there n up
          | inr own ↦
              let net = at_there q.circuit.nets own.0 (within own.0 own.2) in
              elim (observed_inside own.0 net.0 net.1 own.2) [
                | inl plain ↦ inr (own.0, own.1, plain, own.2)
                | inr other ↦ elim other [
                  | inl s ↦ subst IsThere (sym own.1) (supply_there own.0 s.0 s.1)
                  | inr up ↦ subst IsThere (sym own.1) (observed_there (at own.0) up)
                ]
              ]
        ]

  -- ---- back

  module _ (output_plain : (o : CellPort) → Among (ports_of q) o → is_some (output_signal o.role) ≡ true → IsPlain q.circuit o.net) where
    -- an observed input of the cell is observed in the circuit
    input_above : (m : ℕ) (net : FlatNet) → At q.circuit.nets m net → is_given net.kind ≡ true → IsObservedFor q phase m → is_observed k phase (at m) ≡ true
    input_above m net e g (inl (d, a, is)) =
        let f = placed.there d a in gate_observed k phase (at m) (f.0, f.1, f.2.gate ∙ ap at is)
    input_above m net e g (inr (inl (h, a, is))) = absurd (none-some h (subst (λ (holds : List Hold). At holds a.0 h) placed.no_holds a.1))
    input_above m net e g (inr (inr (inl (o, a, is, out, seen)))) = absurd (plain_not_given q.circuit m net (subst (IsPlain q.circuit) is (output_plain o a out)) e g)
    input_above m net e g (inr (inr (inr (inl (j, l, a, b, is, t))))) =
        let i = p.inside j a in
        instance_observed k phase (at m) (
          i.0,
          net_id (at l.0),
          i.1,
          subst (λ (nets : List Net). Among nets (net_id (at l.0))) (sym i.2.ports) (map_among (λ (x : Net). net_id (at x.0)) j.ports l b),
          ap at is,
          subst (λ (cell : ℕ). is_constrained k.rules (cell_at k.design cell).name ≡ true) (sym i.2.cell) (sym (same_constraints j.cell) ∙ t),
        )
    input_above m net e g (inr (inr (inr (inr (w, pin, a, b, seen, is))))) = absurd (none-some w (subst (λ (ws : List Whole). At ws a.0 w) placed.no_wholes a.1))

    pub no_more : (n : ℕ) → IsObservedFor there phase n → is_observed k phase n ≡ true
    no_more n (inl (f, a, e)) = let d = left.devices_back f a in gate_observed k phase n (d.0, d.1, sym d.2.image.gate ∙ e)
    no_more n (inr (inl (g, a, e))) = let h = left.holds_back a.0 g a.1 in hold_observed k phase n (h.0, (a.0, h.1), sym h.2.net ∙ e)
    no_more n (inr (inr (inl o))) = port_observed k phase n o
    no_more n (inr (inr (inr (inl (i, m, a, b, e, t))))) = instance_observed k phase n (i, m, p.instances_back i a, b, e, t)
    no_more n (inr (inr (inr (inr (v, pin, a, b, seen, e))))) =
        elim (p.wholes_back v pin a b seen) [
          | inl w ↦ pin_observed k phase n (w.0, pin, w.1, w.2, seen, e)
          | inr own ↦
              let net = own.2 in
              subst (λ (x : ℕ). is_observed k phase x ≡ true) (sym own.1 ∙ e) (input_above own.0 net.0 net.1 net.2 (observed_for q phase own.0 own.3))
        ]

pub observed_nets_are_there : ObservedNetsAreThere
observed_nets_are_there k q phase whole_circuit at place fresh remaining compared exposed drive same_design same_rules within placed left p hides n seen =
    each_there k q phase whole_circuit at place fresh remaining compared exposed drive same_design same_rules placed left p hides within n seen

pub whole_observes_no_more : WholeObservesNoMore
whole_observes_no_more k q phase whole_circuit at place fresh remaining compared exposed drive same_design same_rules output_plain placed left p n seen =
    no_more k q phase whole_circuit at place fresh remaining compared exposed drive same_design same_rules placed left p output_plain n (observed_for (with_circuit k whole_circuit) phase n seen)
