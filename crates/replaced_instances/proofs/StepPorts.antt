-- The ports of an instance that comes to be whole: its outputs are at its plain nets there.
use Rattle.std.proofs.Common.{◌≡◌, ◌⊎◌, ◌+◌, ◌++◌, ◌<◌, ◌&&◌, ◌∷◌, [], ℕ, zero, suc, not, List, Bool, true, false, map, length, Option, Some, None, refl, ap, sym, ◌∙◌, subst, arith, inl, inr}
use Rattle.std.specs.Prelude.{flat_map, is_some, option_map, slice_get, unwrap_or}
use Rattle.std.specs.List.{enumerate_from}
use Rattle.std.proofs.lemmas.Bool.{and_parts, cases_Bool, false≢true}
use Rattle.std.proofs.lemmas.Option.{none-some, same_Some, slice_get_within}
use Rattle.cell_inside.specs.Placed.{IsSupply}
use Rattle.cell_inside.specs.Shifted.{NamesNoGlobal, top_alone}
use Rattle.checked_chain.proofs.ChoiceLaws.{at_enumerated, numbered_at}
use Rattle.placed_cells.proofs.AboveLaws.{instances_are_shifted, no_globals}
use Rattle.placed_cells.proofs.NameLaws.{name_among}
use Rattle.placed_cells.proofs.RowLaws.{port_count}
use Rattle.placed_cells.proofs.TieLaws.{instances_are_tied}
use Rattle.placed_cells.specs.Above.{IsTied, net_above, place_alone}
use Rattle.replaced_instances.proofs.OutputPorts.{IsRising, NamedNets, driven_drive, driven_nets, driven_signals, flat_of_port, is_net_role, out_is_net, outputs_rise, pin_at, pins_are, port_of_flat}
use Rattle.replaced_instances.specs.Steps.{IsAllowedInstance, IsStep, compared_at}
use Rattle.vrt_model.proofs.Filtered.{among_kept, filter_among}
use Rattle.vrt_model.proofs.Lists.{at_front, at_map, at_there, map_at, one_at}
use Rattle.vrt_model.proofs.Members.{at_all}
use Rattle.vrt_model.specs.CellRules.{supply_of}
use Rattle.vrt_model.specs.Checked.{before, has_fact, keeps_inputs_free, may_meet_channels, names_no_global, observes_outputs}
use Rattle.vrt_model.specs.Comparison.{Comparison, CellPort, cell_at, output_signal, ports_of}
use Rattle.vrt_model.specs.Cut.{Cut, NumberedPlace, is_inside_whole}
use Rattle.vrt_model.specs.Facts.{IsTrueFor, output_ports}
use Rattle.vrt_model.specs.FlatCircuit.{flat_circuit_of, flat_nets, kind_by_role, own_flat_nets, plain_net, port_nets_of, supply_flat}
use Rattle.vrt_model.specs.Known.{IsPlain, is_plain_kind}
use Rattle.vrt_model.specs.Lists.{Among, At}
use Rattle.vrt_model.specs.PairedPorts.{Paired, Model, Skipped, Missing}
use Rattle.vrt_model.specs.Unrolled.{Top, all_places, deepest, globals_of, names_global}
use Rattle.vrt_model.specs.WholeInstances.{OutputAt, Pin, drive_in, driven_pins, driven_pins_from, outputs_of_place, pins_from, pins_of}
use Rattle.vrt_model.specs.declared.blif.Blif.{Blif}
use Rattle.vrt_model.specs.declared.circuit.FlatNet.{FlatNet}
use Rattle.vrt_model.specs.declared.circuit.NetKind.TheVariants.{Plain, Supply as SupplyNet}
use Rattle.vrt_model.specs.declared.pairing.PortRole.{PortRole}
use Rattle.vrt_model.specs.declared.pairing.PortRole.TheVariants.{Supply, Clock, Input, Output}
use Rattle.vrt_model.specs.declared.whole.CellFacts.{CellFacts}
use Rattle.vrt_model.specs.declared.whole.WholePin.{WholePin}

-- ---- what a fact and a role say

pub fact_there : (test : CellFacts → Bool) (facts : List CellFacts) (cell : ℕ) → has_fact test facts cell ≡ true → (f : CellFacts) × At facts cell f × (test f ≡ true)
fact_there test facts cell e = by_case (slice_get facts cell) refl e
  where
    by_case : (o : Option CellFacts) → slice_get facts cell ≡ o → unwrap_or (option_map test o) false ≡ true → (f : CellFacts) × At facts cell f × (test f ≡ true)
    by_case None same t = absurd (false≢true t)
    by_case (Some f) same t = (f, same, t)

plain_is_output : (role : PortRole) → kind_by_role role ≡ Plain → is_some (output_signal role) ≡ true
plain_is_output (Supply value) e = absurd (false≢true (ap is_plain_kind e))
plain_is_output (Clock clock) e = absurd (false≢true (ap is_plain_kind e))
plain_is_output (Input signal) e = absurd (false≢true (ap is_plain_kind e))
plain_is_output (Output signal) e = refl

-- where channels may meet a port, its net is plain or a supply
pub met_kind : (role : PortRole) → may_meet_channels role ≡ true → (kind_by_role role ≡ Plain) ⊎ ((value : Bool) × (kind_by_role role ≡ SupplyNet value))
met_kind (Supply value) e = inr (value, refl)
met_kind (Clock clock) e = absurd (false≢true e)
met_kind (Input signal) e = absurd (false≢true e)
met_kind (Output signal) e = inl refl

pub enumerated_at : {X : Type 0} (n : ℕ) (xs : List X) (i : ℕ) (x : X) → At xs i x → At (enumerate_from n xs) i (n + i, x)
enumerated_at n [] i x e = absurd (none-some x e)
enumerated_at {X} n (y ∷ xs) zero x e = ap (λ (z : X). Some (n, z)) (same_Some y x e) ∙ ap (λ (k : ℕ). Some (k, x)) (let same : n ≡ n + 0 = omega arith in same)
enumerated_at {X} n (y ∷ xs) (suc i) x e =
    enumerated_at (n + 1) xs i x e ∙ ap (λ (k : ℕ). Some (k, x)) (let same : (n + 1) + i ≡ n + suc i = omega arith in same)

module _ (cut : Cut) (blif : Blif) (facts : List CellFacts) (i : ℕ) (p : NumberedPlace) (m : ℕ) (step : IsStep cut blif facts i p m) where
  abbrev t : Top
  t = cut.top

  abbrev k : Comparison
  k = compared_at cut.top blif p m

  abbrev roles : List PortRole
  roles = k.pairing.ports

  abbrev own : Top
  own = top_alone cut.top p.at.cell k.pairing.ports

  abbrev at : ℕ → ℕ
  at n = net_above cut.top p.at n

  abbrev base : ℕ
  base = (place_alone cut.top p.at).base

  abbrev names : List (List ℕ)
  names = (cell_at cut.top.design p.at.cell).ports

  abbrev outs : List OutputAt
  outs = outputs_of_place cut.top blif facts p

  -- ---- what is known of the instance

  pub free : is_inside_whole (before cut i) p.at ≡ false
  free = (step.tried i p step.place step.chosen).0

  pub may : IsAllowedInstance (before cut i) blif facts i p m
  may =
      let there = (step.tried i p step.place step.chosen).1 in
      let model : Paired → ℕ = λ x. elim x [ Model j ↦ j | Skipped ↦ 0 | Missing ↦ 0 ] in
      subst (λ (j : ℕ). IsAllowedInstance (before cut i) blif facts i p j) (ap model (sym there.1.paired ∙ step.paired)) there.1

  pub place_there : At (all_places t) (suc i) p.at
  place_there = (numbered_at t (suc i) p step.place).1

  pub tied : IsTied t p.at
  tied = instances_are_tied t i p.at step.netlist.ordered.cards step.netlist.ties place_there

  allowed : (has_fact (λ (f : CellFacts). f.equal && f.stateless) facts k.cell ≡ true) × (names_no_global t k.cell ≡ true) × (observes_outputs k ≡ true) × (keeps_inputs_free k ≡ true)
  allowed =
      let fact = has_fact (λ (f : CellFacts). f.equal && f.stateless) facts k.cell in
      let one = and_parts (fact && names_no_global t k.cell && observes_outputs k) (keeps_inputs_free k) may.cell in
      let two = and_parts (fact && names_no_global t k.cell) (observes_outputs k) one.0 in
      let three = and_parts fact (names_no_global t k.cell) two.0 in
      (three.0, three.1, two.1, one.1)

  pub observes : observes_outputs k ≡ true
  observes = allowed.2

  pub keeps_free : keeps_inputs_free k ≡ true
  keeps_free = allowed.3

  pub none : NamesNoGlobal t deepest p.at.cell
  none name e =
      let h = name_among t.design.globals name e in
      let not_named = at_all (λ other. not (names_global t.design t.rules deepest (cell_at t.design p.at.cell) other)) t.design.globals h.0 name allowed.1 h.1 in
      elim (cases_Bool (names_global t.design t.rules deepest (cell_at t.design p.at.cell) name)) [
        | inr f ↦ f
        | inl named ↦ absurd (false≢true (sym (ap not named) ∙ not_named))
      ]

  pub told : (f : CellFacts) × (f.equal ≡ true) × IsTrueFor k f × (f.stateless ≡ true)
  told =
      let h = fact_there (λ (f : CellFacts). f.equal && f.stateless) facts k.cell allowed.0 in
      let parts = and_parts h.0.equal h.0.stateless h.2 in
      (h.0, parts.0, (step.told k.cell h.0 h.1).compared m step.paired, parts.1)

  pub no_holds : k.circuit.holds ≡ []
  no_holds = (told.2.stateless told.3).0

  -- ---- its outputs and the output ports of its cell

  outs_are : outs ≡ map (λ (q : ℕ × WholePin). let one : OutputAt = record { instance = p.number; output = q.0; pin = q.1 } in one) (enumerate_from 0 (driven_pins facts k p.at))
  outs_are =
      ap (λ (x : Paired). elim x [
        | Model j ↦
            map (λ (q : ℕ × WholePin). let one : OutputAt = record { instance = p.number; output = q.0; pin = q.1 } in one)
            (enumerate_from 0 (driven_pins facts (compared_at t blif p j) p.at))
        | _ ↦ []
      ]) step.paired

  -- the pins of the instance are its cell's ports, at the nets above
  pub pins_shifted : pins_of k p.at ≡ map (pin_at (λ n. net_above cut.top p.at n)) (ports_of k)
  pins_shifted = ap (pins_from (ports_of k)) (instances_are_shifted t roles p.at tied).0.ports ∙ pins_are at 0 names (place_alone t p.at).ports roles

  nets_are : map (λ (w : WholePin). w.net.0) (driven_pins facts k p.at) ≡ map (λ (port : CellPort). at port.net) (output_ports k)
  nets_are =
      ap (λ (pins : List Pin). map (λ (w : WholePin). w.net.0) (driven_pins_from facts p.at.cell 0 pins)) pins_shifted
      ∙ driven_nets at facts p.at.cell 0 (ports_of k)

  -- an output stands at the place of its port among the output ports
  pub port_of_output : (j : ℕ) (o : OutputAt) → At outs j o → (port : CellPort) × At (output_ports k) j port × (o.pin.net.0 ≡ at port.net) × (o.output ≡ j)
  port_of_output j o e =
      let pins = driven_pins facts k p.at in
      let make : ℕ × WholePin → OutputAt = λ q. record { instance = p.number; output = q.0; pin = q.1 } in
      let from = at_map make (enumerate_from 0 pins) j o (subst (λ (os : List OutputAt). At os j o) outs_are e) in
      let there = at_enumerated 0 pins j from.0 from.1 in
      let net = map_at (λ (w : WholePin). w.net.0) pins j from.0.1 there.1 in
      let port = at_map (λ (q : CellPort). at q.net) (output_ports k) j from.0.1.net.0 (subst (λ (ns : List ℕ). At ns j from.0.1.net.0) nets_are net) in
      let number = there.0 in
      let is : from.0.0 ≡ j = omega (arith, number) in
      (port.0, port.1, ap (λ (x : OutputAt). x.pin.net.0) (sym from.2) ∙ sym port.2, ap (λ (x : OutputAt). x.output) (sym from.2) ∙ is)

  -- it has the drive that is told of it
  pub output_drive : (j : ℕ) (o : OutputAt) → At outs j o → o.pin.drive ≡ drive_in facts p.at.cell j
  output_drive j o e =
      let pins = driven_pins facts k p.at in
      let make : ℕ × WholePin → OutputAt = λ q. record { instance = p.number; output = q.0; pin = q.1 } in
      let from = at_map make (enumerate_from 0 pins) j o (subst (λ (os : List OutputAt). At os j o) outs_are e) in
      let there = at_enumerated 0 pins j from.0 from.1 in
      let number : 0 + j ≡ j = omega arith in
      ap (λ (x : OutputAt). x.pin.drive) (sym from.2) ∙ driven_drive facts p.at.cell 0 (pins_of k p.at) j from.0.1 there.1 ∙ ap (drive_in facts p.at.cell) number

  pub output_of_port : (j : ℕ) (port : CellPort) → At (output_ports k) j port → (o : OutputAt) × At outs j o × (o.pin.net.0 ≡ at port.net) × (o.output ≡ j)
  output_of_port j port e =
      let pins = driven_pins facts k p.at in
      let make : ℕ × WholePin → OutputAt = λ q. record { instance = p.number; output = q.0; pin = q.1 } in
      let net = map_at (λ (q : CellPort). at q.net) (output_ports k) j port e in
      let pin = at_map (λ (w : WholePin). w.net.0) pins j (at port.net) (subst (λ (ns : List ℕ). At ns j (at port.net)) (sym nets_are) net) in
      let there = map_at make (enumerate_from 0 pins) j (0 + j, pin.0) (enumerated_at 0 pins j pin.0 pin.1) in
      let number : 0 + j ≡ j = omega arith in
      (make (0 + j, pin.0), subst (λ (os : List OutputAt). At os j (make (0 + j, pin.0))) (sym outs_are) there, pin.2, number)

  signals_are : map (λ (w : WholePin). Some w.signal) (driven_pins facts k p.at) ≡ map (λ (port : CellPort). output_signal port.role) (output_ports k)
  signals_are =
      ap (λ (pins : List Pin). map (λ (w : WholePin). Some w.signal) (driven_pins_from facts p.at.cell 0 pins)) pins_shifted
      ∙ driven_signals at facts p.at.cell 0 (ports_of k)

  -- it has the signal of its port
  pub signal_of_output : (j : ℕ) (o : OutputAt) (port : CellPort) → At outs j o → At (output_ports k) j port → output_signal port.role ≡ Some o.pin.signal
  signal_of_output j o port e there =
      let pins = driven_pins facts k p.at in
      let make : ℕ × WholePin → OutputAt = λ q. record { instance = p.number; output = q.0; pin = q.1 } in
      let from = at_map make (enumerate_from 0 pins) j o (subst (λ (os : List OutputAt). At os j o) outs_are e) in
      let here = at_enumerated 0 pins j from.0 from.1 in
      let signal = map_at (λ (w : WholePin). Some w.signal) pins j from.0.1 here.1 in
      let own = map_at (λ (x : CellPort). output_signal x.role) (output_ports k) j port there in
      let signals = map (λ (x : CellPort). output_signal x.role) (output_ports k) in
      one_at signals j (output_signal port.role) (Some from.0.1.signal) own (subst (λ (ss : List (Option ℕ)). At ss j (Some from.0.1.signal)) signals_are signal)
      ∙ ap (λ (x : OutputAt). Some x.pin.signal) from.2

  -- ---- the nets of the ports

  named : NamedNets t.rules names roles
  named j name role a b out = by_case (supply_of t.rules name) refl
    where
      by_case : (o : Option Bool) → supply_of t.rules name ≡ o → supply_of t.rules name ≡ None
      by_case None e = e
      by_case (Some value) e =
          absurd (false≢true (sym (ap is_net_role ((step.roles.supplies j name role value a b).1 e)) ∙ out))

  pub rising : IsRising 2 (output_ports k)
  rising = outputs_rise t.rules names roles 0 2 named

  -- the net of a port that is no supply is below the own ones, with the kind of its role
  pub port_listed : (port : CellPort) → Among (ports_of k) port → is_net_role port.role ≡ true
      → (port.net < base) × (net : FlatNet) × At k.circuit.nets port.net net × (net.kind ≡ kind_by_role port.role)
  unfolding flat_circuit_of
  port_listed port on role =
      let flats = port_nets_of t.rules names roles in
      let globals = map plain_net (globals_of own) in
      let flat = flat_of_port t.rules names roles 0 2 on.0 port named on.1 role in
      let is = flat.1 in
      let within = slice_get_within flats flat.0 flat.2 flat.3 in
      let count = port_count own names roles in
      let number : suc (suc flat.0) ≡ port.net = omega (arith, is) in
      let listed = at_front (flats ++ globals) (flat_map (own_flat_nets own) (all_places own)) flat.0 flat.2 (at_front flats globals flat.0 flat.2 flat.3) in
      (omega (arith, is, within, count), flat.2, subst (λ (n : ℕ). At (flat_nets own) n flat.2) number listed, flat.4)

  -- that of an output port is plain
  pub output_plain : (port : CellPort) → Among (output_ports k) port → (port.net < base) × IsPlain k.circuit port.net
  output_plain port on =
      let out = filter_among (λ (q : CellPort). is_some (output_signal q.role)) (ports_of k) port on in
      let listed = port_listed port out.0 (out_is_net port.role out.1) in
      (listed.0, (listed.1, listed.2, listed.3 ∙ output_kind port.role out.1))
    where
      output_kind : (role : PortRole) → is_some (output_signal role) ≡ true → kind_by_role role ≡ Plain
      output_kind (Supply value) e = absurd (false≢true e)
      output_kind (Clock clock) e = absurd (false≢true e)
      output_kind (Input signal) e = absurd (false≢true e)
      output_kind (Output signal) e = refl

  -- a net that is a port's, with the kind of its role
  abbrev pub IsPortNet : ℕ → Type 0
  IsPortNet n = (port : CellPort) × Among (ports_of k) port × (port.net ≡ n) × (net : FlatNet) × At k.circuit.nets n net × (net.kind ≡ kind_by_role port.role)

  -- each net below the own ones is a supply, or a port's
  pub port_or_supply : (n : ℕ) → n < base → ((value : Bool) × IsSupply k.circuit n value) ⊎ IsPortNet n
  unfolding flat_circuit_of
  port_or_supply zero lt = inl (false, (supply_flat t.rules false, refl, refl))
  port_or_supply (suc zero) lt = inl (true, (supply_flat t.rules true, refl, refl))
  port_or_supply (suc (suc j)) lt =
      let flats = port_nets_of t.rules names roles in
      let globals = map plain_net (globals_of own) in
      let count = port_count own names roles in
      let no_global = ap (λ (ns : List (List ℕ)). length ns) (no_globals t p.at none) in
      let found = at_there flats j (omega (arith, lt, count, no_global)) in
      let port = port_of_flat t.rules names roles 0 2 j found.0 step.roles.each found.1 in
      let is = port.2 in
      inr (
        port.0,
        port.1,
        omega (arith, is),
        found.0,
        at_front (flats ++ globals) (flat_map (own_flat_nets own) (all_places own)) j found.0 (at_front flats globals j found.0 found.1),
        port.3,
      )

  supply_not_plain : (n : ℕ) (value : Bool) → IsSupply k.circuit n value → IsPlain k.circuit n → ⊥
  supply_not_plain n value s plain =
      let same = one_at k.circuit.nets n plain.0 s.0 plain.1 s.1 in
      false≢true (sym (ap is_plain_kind s.2) ∙ ap (λ (net : FlatNet). is_plain_kind net.kind) (sym same) ∙ ap is_plain_kind plain.2)

  -- a plain net below the own ones is that of an output port
  pub plain_port : (n : ℕ) → n < base → IsPlain k.circuit n → (port : CellPort) × Among (output_ports k) port × (port.net ≡ n)
  plain_port n lt plain =
      elim (port_or_supply n lt) [
        | inl s ↦ absurd (supply_not_plain n s.0 s.1 plain)
        | inr q ↦
            let same = one_at k.circuit.nets n q.3 plain.0 q.4 plain.1 in
            let kind = sym q.5 ∙ ap (λ (net : FlatNet). net.kind) same ∙ plain.2 in
            (q.0, among_kept (λ (port : CellPort). is_some (output_signal port.role)) (ports_of k) q.0 q.1 (plain_is_output q.0.role kind), q.2)
      ]

  -- so an output of the instance is there
  pub plain_output : (n : ℕ) → n < base → IsPlain k.circuit n → (port : CellPort) × (o : OutputAt) × At (output_ports k) o.output port × At outs o.output o × (port.net ≡ n) × (o.pin.net.0 ≡ at n)
  plain_output n lt plain =
      let port = plain_port n lt plain in
      let o = output_of_port port.1.0 port.0 port.1.1 in (
        port.0,
        o.0,
        subst (λ (j : ℕ). At (output_ports k) j port.0) (sym o.3) port.1.1,
        subst (λ (j : ℕ). At outs j o.0) (sym o.3) o.1,
        port.2,
        o.2 ∙ ap at port.2,
      )
