-- The arcs of the circuit before one more instance is whole, and those of the circuit after it.
use Rattle.std.proofs.Common.{◌≡◌, ◌⊎◌, ℕ, suc, ◌<◌, ◌≤◌, Bool, true, false, List, [], ◌∷◌, length, Option, Some, None, arith, ap, subst, sym, refl, ◌∙◌, inl, inr}
use Rattle.std.specs.Prelude.{is_some}
use Rattle.std.proofs.lemmas.Bool.{cases_Bool, false≢true}
use Rattle.std.proofs.lemmas.Option.{none-some, slice_get_within}
use Rattle.formed_cells.specs.Formed.{IsFormed}
use Rattle.placed_cells.proofs.AboveLaws.{port_outside}
use Rattle.placed_cells.proofs.CutLaws.{pin_among}
use Rattle.placed_cells.specs.Above.{net_above}
use Rattle.placed_cells.specs.Splits.{IsSplit}
use Rattle.replaced_instances.proofs.ChosenOutputs.{same_port}
use Rattle.replaced_instances.proofs.OutputPorts.{pin_at}
use Rattle.replaced_instances.proofs.PinOutputs.{output_pin}
use Rattle.replaced_instances.proofs.StepHides.{remaining_port, whole_outside}
use Rattle.replaced_instances.proofs.StepInstances.{input_role, port_of_net}
use Rattle.replaced_instances.proofs.StepLeft.{outside_is}
use Rattle.replaced_instances.proofs.StepOutputs.{one_more_place}
use Rattle.replaced_instances.proofs.StepPorts.{none, output_of_port, pins_shifted, plain_port, port_listed, tied}
use Rattle.replaced_instances.specs.Steps.{IsStep, compared_at, fresh_place, is_outside_at}
use Rattle.vrt_model.proofs.Filtered.{among_kept, device_among, filter_among}
use Rattle.vrt_model.proofs.Lists.{at_there, map_among}
use Rattle.vrt_model.proofs.Members.{all_among, among_left, among_map, among_right, flat_map_among}
use Rattle.vrt_model.proofs.Ranked.{together_first}
use Rattle.vrt_model.specs.Checked.{HasArcWith, HasLinkArc, IsCircuitWith, before}
use Rattle.vrt_model.specs.Circuits.{IsDevice}
use Rattle.vrt_model.specs.Comparison.{CellPort, Comparison, input_signal, output_signal, phase_at, ports_of}
use Rattle.vrt_model.specs.Cut.{Cut, NumberedPlace, whole_places}
use Rattle.vrt_model.specs.Facts.{output_ports}
use Rattle.vrt_model.specs.FlatCircuit.{flat_circuit_of}
use Rattle.vrt_model.specs.Known.{HasArc, HasFixedBit, HasGateArc, IsFixed, IsKnown, IsPlain, IsRanking, IsTogether, IsUnknown, IsWalk, fixed, itself}
use Rattle.vrt_model.specs.Lists.{Among, At}
use Rattle.vrt_model.specs.PairedPorts.{Missing, Model, Paired, Skipped, paired_model}
use Rattle.vrt_model.specs.Reading.{bare, clock_bit}
use Rattle.vrt_model.specs.Unrolled.{Place, Top}
use Rattle.vrt_model.specs.Unsupported.{IsAcyclic, IsSupported}
use Rattle.vrt_model.specs.WholeInstances.{IsChain, Links, Pin, all_outputs, outputs_of_place, pins_of}
use Rattle.vrt_model.specs.declared.blif.Blif.{Blif}
use Rattle.vrt_model.specs.declared.circuit.Circuit.{Circuit}
use Rattle.vrt_model.specs.declared.circuit.FlatNet.{FlatNet}
use Rattle.vrt_model.specs.declared.circuit.NetKind.{NetKind}
use Rattle.vrt_model.specs.declared.circuit.NetKind.TheVariants.{Supply as SupplyNet, Clock as ClockNet, Input as InputNet, Plain}
use Rattle.vrt_model.specs.declared.pairing.PortRole.TheVariants.{Clock}
use Rattle.vrt_model.specs.declared.rules.ClockRef.{ClockRef}
use Rattle.vrt_model.specs.declared.rules.Phase.{Phase}
use Rattle.vrt_model.specs.declared.whole.CellFacts.{CellFacts}
use Rattle.vrt_model.specs.declared.whole.Whole.{Whole}
use Rattle.vrt_model.specs.declared.whole.WholePin.{WholePin}
use Rattle.whole_ranks.proofs.RankLaws.{acyclic_nets_have_ranks}
use Rattle.whole_ranks.specs.WholeCells.{IsInputNet}
use Rattle.trial_cycles.proofs.BackLaws.{IsInnerArc, IsOuterArc, opened_is_acyclic}
use Rattle.trial_cycles.proofs.OpenedArcs.{LeadsOut, gate_moves, inner_arc, outer_arc, pin_inside, pin_up, together_up}
use Rattle.trial_cycles.proofs.OpenedNets.{IsOpenedIn, known_stays, plain_up, supply_fixed}
use Rattle.channel_parts.proofs.Labels.{together_further}
use Rattle.channel_parts.proofs.RankLaws.{together_back}
use Rattle.fault_places.proofs.PartRanks.{same_rank}
use Rattle.trial_cycles.proofs.CellPorts.{clock_in, clock_role, is_input, signal_is_net}
use Rattle.trial_cycles.proofs.WithoutLinks.{gate_in, gate_out, together_in, together_out}
use Rattle.vrt_model.specs.State.{OutputPin, output_pins}

module _ (cut : Cut) (blif : Blif) (facts : List CellFacts) (i : ℕ) (p : NumberedPlace) (m : ℕ) (step : IsStep cut blif facts i p m)
    (supported : IsSupported cut.top.design blif cut.top.rules p.at.cell m) (formed : IsFormed (compared_at cut.top blif p m))
    (depth : ℕ) (front back : List Place) (split : IsSplit cut.top (suc i) p.at depth front back)
    (c whole_circuit : Circuit) (circuit : IsCircuitWith (before cut i) blif facts c) (after : IsCircuitWith (before cut (suc i)) blif facts whole_circuit)
    (phase : ℕ) (lt : phase < length cut.top.rules.phases) (compared exposed : ℕ → Bool) (drive : ℕ → ℕ)
    (opened : IsOpenedIn (compared_at cut.top blif p m).circuit c whole_circuit (phase_at cut.top.rules phase) (λ n. net_above cut.top p.at n) (λ j. j)
    (fresh_place (before cut i) blif facts (compared_at cut.top blif p m)) (is_outside_at cut.top depth p.at) compared exposed drive)
    (clocks : (pin : Pin) (clock : ClockRef) → Among (pins_of (compared_at cut.top blif p m) p.at) pin → pin.port.role ≡ Clock clock
    → IsKnown whole_circuit (phase_at cut.top.rules phase) pin.net.0 (clock_bit (phase_at cut.top.rules phase) clock))
    (steps : (o : NumberedPlace) → Among (whole_places (before cut i)) o → (j : ℕ) × (l : ℕ) × IsStep cut blif facts j o l) where
  abbrev t : Top
  t = cut.top

  abbrev q : Comparison
  q = compared_at cut.top blif p m

  abbrev at : ℕ → ℕ
  at n = net_above cut.top p.at n

  abbrev now : Phase
  now = phase_at cut.top.rules phase

  abbrev remaining : ℕ → Bool
  remaining n = is_outside_at cut.top depth p.at n

  abbrev fresh : ℕ → ℕ
  fresh = fresh_place (before cut i) blif facts q

  pin_there : (port : CellPort) → Among (ports_of q) port → Among (pins_of q p.at) (pin_at at port)
  pin_there port on = subst (λ (pins : List Pin). Among pins (pin_at at port)) (sym (pins_shifted cut blif facts i p m step)) (map_among (pin_at at) (ports_of q) port on)

  -- ---- ports of whole instances

  abbrev later : Cut
  later = before cut (suc i)

  itself_whole : Among (whole_places later) p
  itself_whole =
      subst (λ (ps : List NumberedPlace). Among ps p) (sym (one_more_place cut i p step.place step.chosen)) (among_right (whole_places (before cut i)) (p ∷ []) p (0, refl))

  -- their nets remain
  port_remains : (o : NumberedPlace) (n : ℕ) → Among (whole_places later) o → Among o.at.ports n → remaining n ≡ true
  port_remains o n on port = outside_is t depth p.at n (whole_outside cut blif facts i p m step depth front back split o n on port)

  -- so what is known of them after the step was known before it
  known_down : (o : NumberedPlace) (n : ℕ) (v : Bool) → Among (whole_places later) o → Among o.at.ports n → IsKnown whole_circuit now n v → IsKnown c now n v
  known_down o n v on port known =
      known_stays q.circuit c whole_circuit now at (λ j. j) fresh remaining compared exposed drive opened n v (port_remains o n on port) known

  -- supplies and clock ports are at nets that are known, with their bits
  fixed_above : (n : ℕ) (v : Bool) → IsFixed q.circuit now n v → IsKnown c now (at n) v
  unfolding clock_in
  fixed_above n v (net, here, bit) = by_kind net.kind refl bit
    where
      clock_there : (clock : ClockRef) → net.kind ≡ ClockNet clock → IsKnown c now (at n) (clock_bit now clock)
      clock_there clock e =
          let port =
          port_of_net cut blif facts i p m step depth front back split n net here
          (λ plain. none-some clock (sym (ap clock_in plain) ∙ ap clock_in e)) (λ value supply. none-some clock (sym (ap clock_in supply) ∙ ap clock_in e)) in
          let role = clock_role port.0.role clock (port.3 ∙ e) in
          let pin = pin_there port.0 port.1 in
          subst (λ (x : ℕ). IsKnown c now (at x) (clock_bit now clock)) port.2
          (known_down p (at port.0.net) (clock_bit now clock) itself_whole (pin_among (ports_of q) p.at.ports (pin_at at port.0) pin) (clocks (pin_at at port.0) clock pin role))

      by_kind : (kind : NetKind) → net.kind ≡ kind → HasFixedBit now kind v → IsKnown c now (at n) v
      by_kind (SupplyNet value) e b =
          subst (λ (x : Bool). IsKnown c now (at n) x) (sym b) (fixed (supply_fixed c now (at n) value (opened.placed.supplies n value (net, here, e))))
      by_kind (ClockNet clock) e b = subst (λ (x : Bool). IsKnown c now (at n) x) (sym b) (clock_there clock e)
      by_kind InputNet e b = absurd b
      by_kind Plain e b = absurd b

  -- ---- inside

  no_wholes : q.circuit.wholes ≡ []
  unfolding flat_circuit_of
  no_wholes = refl

  no_whole : (w : Whole) → Among q.circuit.wholes w → ⊥
  no_whole w on = none-some w (subst (λ (ws : List Whole). At ws on.0 w) no_wholes on.1)

  ranked : (rank : ℕ → ℕ) × IsRanking q.circuit now rank
  ranked =
      acyclic_nets_have_ranks q.circuit now
      (record { ranges = opened.ranges; outputs = λ w pin on there. absurd (no_whole w on) })
      (supported.acyclic phase lt).0

  abbrev rank : ℕ → ℕ
  rank = ranked.0

  inner_gate : (g n : ℕ) → HasArc q.circuit now g n → HasGateArc q.circuit now g n
  inner_gate g n (inl gate) = gate
  inner_gate g n (inr whole) = absurd (no_whole whole.0 whole.2.0)

  rises : (g n : ℕ) → HasArc q.circuit now g n → rank g < rank n
  rises g n arc = ranked.1.above g n (inl (arc, (inner_gate g n arc).3))

  walk_rises : (n : ℕ) (nets : List ℕ) (last : ℕ) → IsWalk (HasArc q.circuit now) n nets last → rank n ≤ rank last
  walk_rises n [] last e = let same = ap rank e in omega (arith, same)
  walk_rises n (x ∷ nets) last walk = let first = rises n x walk.0 in let more = walk_rises x nets last walk.1 in omega (arith, first, more)

  -- a net is not behind one of its own part
  never_back : (g n : ℕ) → IsChain (HasArc q.circuit now) g n → IsTogether q.circuit now bare g n → ⊥
  never_back g n chain t =
      let first = rises g chain.0 chain.2 in
      let more = walk_rises chain.0 chain.1 n chain.3 in
      let same = same_rank q.circuit now rank ranked.1 g n t in
      omega (arith, first, more, same)

  -- an arc begins at a plain net or at an input
  begins_at : (g n : ℕ) → HasArc q.circuit now g n → IsPlain q.circuit g ⊎ IsInputNet q.circuit g
  begins_at g n arc =
      let gate = inner_gate g n arc in
      let device = (device_among true q.circuit gate.0 gate.1.3.0).0 in
      let range : g < length q.circuit.nets = subst (λ (x : ℕ). x < length q.circuit.nets) gate.2 (all_among (IsDevice q.circuit) q.circuit.devices gate.0 opened.ranges.devices device).gate in
      let net = at_there q.circuit.nets g range in
      by_kind net.0 net.1 gate.3 net.0.kind refl
    where
      by_kind : (net : FlatNet) → At q.circuit.nets g net → IsUnknown q.circuit now g → (kind : NetKind) → net.kind ≡ kind → IsPlain q.circuit g ⊎ IsInputNet q.circuit g
      by_kind net here unknown (SupplyNet value) e = absurd (unknown value (fixed (net, here, subst (λ (k : NetKind). HasFixedBit now k value) (sym e) refl)))
      by_kind net here unknown (ClockNet clock) e =
          absurd (unknown (clock_bit now clock) (fixed (net, here, subst (λ (k : NetKind). HasFixedBit now k (clock_bit now clock)) (sym e) refl)))
      by_kind net here unknown InputNet e = inr (net, here, e)
      by_kind net here unknown Plain e = inl (net, here, e)

  -- ---- ports

  -- the port of an input
  input_port : (n : ℕ) → IsInputNet q.circuit n → (port : CellPort) × Among (ports_of q) port × (port.net ≡ n) × ((s : ℕ) × (input_signal port.role ≡ Some s))
  unfolding is_input
  input_port n (net, here, kind) =
      let port =
      port_of_net cut blif facts i p m step depth front back split n net here
      (λ plain. false≢true (ap is_input (sym plain ∙ kind))) (λ value supply. false≢true (ap is_input (sym supply ∙ kind))) in
      (port.0, port.1, port.2, input_role port.0.role (port.3 ∙ kind))

  input_remains : (n : ℕ) → IsInputNet q.circuit n → remaining (at n) ≡ true
  input_remains n input =
      let port = input_port n input in
      let low = (port_listed cut blif facts i p m step port.0 port.1 (signal_is_net port.0.role port.3.0 port.3.1)).0 in
      subst (λ (x : ℕ). remaining (at x) ≡ true) port.2
      (outside_is t depth p.at (at port.0.net)
      (port_outside t p.at (suc i) depth front back split (tied cut blif facts i p m step) (none cut blif facts i p m step) port.0.net low))

  -- the output of a plain net that remains
  output_port : (n : ℕ) → IsPlain q.circuit n → remaining (at n) ≡ true → (port : CellPort) × Among (ports_of q) port × (port.net ≡ n) × ((s : ℕ) × (output_signal port.role ≡ Some s))
  output_port n plain stays =
      let port = plain_port cut blif facts i p m step n (remaining_port cut blif facts i p m step depth front back split n plain stays) plain in
      let out = filter_among (λ (x : CellPort). is_some (output_signal x.role)) (ports_of q) port.0 port.1 in
      (port.0, out.0, port.2, signal_of (output_signal port.0.role) out.1)
    where
      signal_of : (o : Option ℕ) → is_some o ≡ true → (s : ℕ) × (o ≡ Some s)
      signal_of None e = absurd (false≢true e)
      signal_of (Some s) e = (s, refl)

  own_net : (g n l : ℕ) → HasArc q.circuit now g l → remaining (at g) ≡ false → IsPlain q.circuit n → at g ≡ at n → g ≡ n
  own_net g n l arc gone plain e =
      elim (begins_at g l arc) [
        | inl inside ↦ elim (opened.placed.apart g n inside plain e) [
          | inl same ↦ same
          | inr both ↦ absurd (false≢true (sym gone ∙ opened.whole.compared_remaining (at g) (opened.whole.exposed_compared g both.0)))
        ]
        | inr input ↦ absurd (false≢true (sym gone ∙ input_remains g input))
      ]

  -- ---- links

  -- the net is in the part of what a net of the cell is above, an output
  abbrev Meets : ℕ → ℕ → Type 0
  Meets n k = (remaining (at n) ≡ true) × IsTogether whole_circuit now bare k (at n)

  abbrev LeadsOutOf : ℕ → ℕ → Type 0
  LeadsOutOf n l = LeadsOut q.circuit c whole_circuit now at (λ j. j) fresh remaining compared exposed drive opened fixed_above n l

  leads_to : (n l : ℕ) → LeadsOutOf n l → remaining (at l) ≡ true
  leads_to n l out = opened.whole.compared_remaining (at l) (opened.whole.exposed_compared l out.0)

  link_over : (g n k : ℕ) (from to : CellPort) → Among (ports_of q) from → Among (ports_of q) to → from.net ≡ g → to.net ≡ n → Meets n k → Links q phase from to
      → HasArcWith later blif facts phase (at g) k
  link_over g n k from to on there e f meets link = inr (
    p,
    m,
    pin_at at from,
    pin_at at to,
    itself_whole,
    step.paired,
    (pin_there from on, pin_there to there, link),
    ap at e,
    together_out later blif facts whole_circuit after now k (at to.net) (subst (λ (x : ℕ). IsTogether whole_circuit now bare k (at x)) (sym f) meets.1),
  )

  -- an output is linked to another that is behind a net of its part
  link_outputs : (l g n k : ℕ) → IsPlain q.circuit l → remaining (at l) ≡ true → IsTogether q.circuit now bare l g → IsPlain q.circuit n → IsChain (HasArc q.circuit now) g n → Meets n k
      → HasArcWith later blif facts phase (at l) k
  link_outputs l g n k from_plain from_stays t to_plain chain meets =
      let from = output_port l from_plain from_stays in
      let to = output_port n to_plain meets.0 in
      let apart : from.0.place ≡ to.0.place → ⊥ = λ same.
      (let one : l ≡ n = sym from.2 ∙ (ap (λ (x : CellPort). x.net) (same_port q from.0 to.0 from.1 to.1 same) ∙ to.2) in
      never_back g n chain (together_back q.circuit now bare n g (subst (λ (x : ℕ). IsTogether q.circuit now bare x g) one t))) in
      link_over l n k from.0 to.0 from.1 to.1 from.2 to.2 meets
      (inl (
        from.3.0,
        to.3.0,
        inr (
          from.3.1,
          to.3.1,
          apart,
          (
            g,
            subst (λ (x : ℕ). IsTogether q.circuit now bare x g) (sym from.2) t,
            subst (λ (y : ℕ). IsChain (HasArc q.circuit now) g y) (sym to.2) chain,
          ),
        ),
      ))

  linked : (g n k : ℕ) → IsPlain q.circuit n → IsChain (HasArc q.circuit now) g n → Meets n k → remaining k ≡ true → remaining (at g) ≡ true
      → HasArcWith later blif facts phase (at g) k
  linked g n k plain chain meets stays from_stays =
      elim (begins_at g chain.0 chain.2) [
        | inl inside ↦ link_outputs g g n k inside from_stays (itself inside) plain chain meets
        | inr input ↦
            let from = input_port g input in
            let to = output_port n plain meets.0 in
            link_over g n k from.0 to.0 from.1 to.1 from.2 to.2 meets
            (inl (
              from.3.0,
              to.3.0,
              inl (
                from.3.1,
                to.3.1,
                inl (subst (λ (x : ℕ). IsChain (HasArc q.circuit now) x to.0.net) (sym from.2) (subst (λ (y : ℕ). IsChain (HasArc q.circuit now) g y) (sym to.2) chain)),
              ),
            ))
      ]

  linked_beside : (g n k l : ℕ) → IsPlain q.circuit n → IsChain (HasArc q.circuit now) g n → Meets n k → remaining k ≡ true → LeadsOutOf g l
      → HasArcWith later blif facts phase (at l) k
  linked_beside g n k l plain chain meets stays out =
      link_outputs l g n k (opened.placed.exposed_plain l out.0) (leads_to g l out) (together_back q.circuit now bare g l out.1) plain chain meets

  -- ---- the other whole instances

  -- an output of one is an output pin of the circuit
  other_output : (o : NumberedPlace) (l : ℕ) (out : Pin) (s : ℕ) → Among (whole_places (before cut i)) o → paired_model t.design blif t.rules o.at.cell ≡ Model l
      → Among (pins_of (compared_at t blif o l) o.at) out → output_signal out.port.role ≡ Some s → (pin : OutputPin) × Among (output_pins c) pin × (pin.pin.net.0 ≡ out.net.0)
  other_output o l out s on paired among role =
      let found = steps o on in
      let model : Paired → ℕ = λ x. elim x [ Model j ↦ j | Skipped ↦ 0 | Missing ↦ 0 ] in
      let same : found.1 ≡ l = ap model (sym found.2.paired ∙ paired) in
      by_step found.0 (subst (λ (x : ℕ). IsStep cut blif facts found.0 o x) same found.2)
    where
      by_step : (j : ℕ) → IsStep cut blif facts j o l → (pin : OutputPin) × Among (output_pins c) pin × (pin.pin.net.0 ≡ out.net.0)
      by_step j other =
          let above : ℕ → ℕ = λ x. net_above cut.top o.at x in
          let k = compared_at t blif o l in
          let port = among_map (pin_at above) (ports_of k) out (subst (λ (pins : List Pin). Among pins out) (pins_shifted cut blif facts j o l other) among) in
          let signal : output_signal port.0.role ≡ Some s = ap (λ (x : Pin). output_signal x.port.role) port.2 ∙ role in
          let listed : Among (output_ports k) port.0 = among_kept (λ (x : CellPort). is_some (output_signal x.role)) (ports_of k) port.0 port.1 (ap is_some signal) in
          let one = output_of_port cut blif facts j o l other listed.0 port.0 listed.1 in
          let there : Among (all_outputs (before cut i) blif facts) one.0 = flat_map_among (outputs_of_place t blif facts) (whole_places (before cut i)) o one.0 on (listed.0, one.1) in
          let pin = output_pin (before cut i) blif facts c circuit there.0 one.0 there.1 in
          (pin.0, (there.0, pin.1), ap (λ (x : WholePin). x.net.0) pin.2 ∙ (one.2 ∙ ap (λ (x : Pin). x.net.0) port.2))

  link_output : (k : Comparison) (from to : CellPort) → Links k phase from to → (s : ℕ) × (output_signal to.role ≡ Some s)
  link_output k from to (inl (s, out, inl inside)) = (out, inside.1)
  link_output k from to (inl (s, out, inr inside)) = (out, inside.1)
  link_output k from to (inr named) = named.1

  -- ---- arcs

  abbrev Inside : ℕ → Type 0
  Inside n = IsPlain (compared_at cut.top blif p m).circuit n

  abbrev IsOuter : ℕ → ℕ → Type 0
  IsOuter a b = IsOuterArc (HasArcWith (before cut i) blif facts phase) (HasArcWith later blif facts phase) (HasArc q.circuit now) Meets LeadsOutOf Inside at rank remaining (length c.nets) a b

  abbrev IsInner : ℕ → ℕ → Type 0
  IsInner a b = IsInnerArc (HasArcWith (before cut i) blif facts phase) (HasArcWith later blif facts phase) (HasArc q.circuit now) Meets LeadsOutOf Inside at rank remaining (length c.nets) a b

  -- a net that remains and is not compared is an output that meets gates alone, so its part does not lead out
  stays_in : (b n l : ℕ) → remaining b ≡ true → compared b ≡ false → b ≡ at n → Inside n → LeadsOutOf n l → ⊥
  stays_in b n l stays gone here plain out =
      let same : l ≡ n = opened.alone l n out.0 plain (subst (λ (x : ℕ). remaining x ≡ true) here stays) (together_back q.circuit now bare n l out.1) in
      false≢true (sym gone ∙ subst (λ (x : ℕ). compared x ≡ true) (sym here) (subst (λ (x : ℕ). compared (at x) ≡ true) same (opened.whole.exposed_compared l out.0)))

  outer_gate : (a b : ℕ) → HasGateArc c now a b → remaining b ≡ true → IsOuter a b
  outer_gate a b arc stays =
      elim (cases_Bool (compared b)) [
        | inl kept ↦ elim (outer_arc q.circuit c whole_circuit now at (λ j. j) fresh remaining compared exposed drive opened fixed_above a b arc kept) [
          | inl out ↦ inl (out.0, inl (gate_out later blif facts whole_circuit after now a b out.1))
          | inr (g, n, from, out, inner, above) ↦
              inr (g, n, from, opened.placed.exposed_plain n out, inl inner, (opened.whole.compared_remaining (at n) (opened.whole.exposed_compared n out), above))
        ]
        | inr gone ↦
            let n = opened.hidden b gone in
            elim (inner_arc q.circuit c whole_circuit now at (λ j. j) fresh remaining compared exposed drive opened fixed_above a b arc n.0 n.1 n.2) [
              | inl (g, from, inner) ↦ inr (g, n.0, from, n.2, inl inner, (subst (λ (x : ℕ). remaining x ≡ true) n.1 stays, above b n.0 n.1 n.2))
              | inr (l, out) ↦ absurd (stays_in b n.0 l stays gone n.1 n.2 out)
            ]
      ]
    where
      above : (x n : ℕ) → x ≡ at n → Inside n → IsTogether whole_circuit now bare x (at n)
      above x n e plain =
          subst (λ (y : ℕ). IsTogether whole_circuit now bare y (at n)) (sym e)
          (itself (plain_up q.circuit c whole_circuit now at (λ j. j) fresh remaining compared exposed drive opened (at n) (opened.placed.plain n plain)))

  outer_link : (a b : ℕ) → HasLinkArc (before cut i) blif facts phase a b → remaining b ≡ true → IsOuter a b
  outer_link a b (o, l, pin, out, on, paired, linked_by, net, together) stays =
      let inside = together_in (before cut i) blif facts c circuit now b out.net.0 together in
      let signal = link_output (compared_at t blif o l) pin.port out.port linked_by.2 in
      let there = other_output o l out signal.0 on paired linked_by.1 signal.1 in
      elim (cases_Bool (compared b)) [
        | inr gone ↦
            let n = opened.hidden b gone in
            let exits = pin_inside q.circuit c whole_circuit now at (λ j. j) fresh remaining compared exposed drive opened fixed_above n.0 b out.net.0 there.0 there.1 there.2 inside n.2 n.1 in
            absurd (stays_in b n.0 exits.0 stays gone n.1 n.2 exits.1)
        | inl kept ↦
            let up = pin_up q.circuit c whole_circuit now at (λ j. j) fresh remaining compared exposed drive opened fixed_above b out.net.0 there.0 there.1 there.2
            (together_up q.circuit c whole_circuit now at (λ j. j) fresh remaining compared exposed drive opened fixed_above inside kept) in
            let more : Among (whole_places later) o =
            subst (λ (ps : List NumberedPlace). Among ps o) (sym (one_more_place cut i p step.place step.chosen)) (among_left (whole_places (before cut i)) (p ∷ []) o on) in
            let port = pin_among (ports_of (compared_at t blif o l)) o.at.ports pin linked_by.0 in
            inl (
              subst (λ (x : ℕ). remaining x ≡ true) net (port_remains o pin.net.0 more port),
              inr (o, l, pin, out, more, paired, linked_by, net, together_out later blif facts whole_circuit after now b out.net.0 up.1),
            )
      ]

  outer : (a b : ℕ) → HasArcWith (before cut i) blif facts phase a b → remaining b ≡ true → IsOuter a b
  outer a b (inl gate) stays = outer_gate a b (gate_in (before cut i) blif facts c circuit now a b gate) stays
  outer a b (inr link) stays = outer_link a b link stays

  inner : (a b : ℕ) → HasArcWith (before cut i) blif facts phase a b → remaining b ≡ false → IsInner a b
  inner a b arc gone =
      let n = opened.hidden b (elim (cases_Bool (compared b)) [ inr f ↦ f | inl kept ↦ absurd (false≢true (sym gone ∙ opened.whole.compared_remaining b kept)) ]) in
      (n.0, n.1, n.2, by_kind n.0 n.1 n.2 arc)
    where
      by_kind : (n : ℕ) → b ≡ at n → Inside n → HasArcWith (before cut i) blif facts phase a b → ((g : ℕ) × (a ≡ at g) × HasArc q.circuit now g n) ⊎ ((l : ℕ) × LeadsOutOf n l)
      by_kind n here plain (inl gate) =
          elim (inner_arc q.circuit c whole_circuit now at (λ j. j) fresh remaining compared exposed drive opened fixed_above a b (gate_in (before cut i) blif facts c circuit now a b gate) n here plain) [
            | inl (g, from, arc) ↦ inl (g, from, inl arc)
            | inr out ↦ inr out
          ]
      by_kind n here plain (inr (o, l, pin, out, on, paired, linked_by, net, together)) =
          let signal = link_output (compared_at t blif o l) pin.port out.port linked_by.2 in
          let there = other_output o l out signal.0 on paired linked_by.1 signal.1 in
          inr (pin_inside q.circuit c whole_circuit now at (λ j. j) fresh remaining compared exposed drive opened fixed_above n b out.net.0 there.0 there.1 there.2
          (together_in (before cut i) blif facts c circuit now b out.net.0 together) plain here)

  moves : (n l a : ℕ) → LeadsOutOf n l → HasArcWith (before cut i) blif facts phase a (at n) → HasArcWith (before cut i) blif facts phase a (at l)
  moves n l a out (inl gate) =
      inl (gate_out (before cut i) blif facts c circuit now a (at l)
      (gate_moves q.circuit c whole_circuit now at (λ j. j) fresh remaining compared exposed drive opened fixed_above n l a out (gate_in (before cut i) blif facts c circuit now a (at n) gate)))
  moves n l a exits (inr (o, k, pin, out, on, paired, linked_by, net, together)) = inr (
    o,
    k,
    pin,
    out,
    on,
    paired,
    linked_by,
    net,
    together_out (before cut i) blif facts c circuit now (at l) out.net.0
        (together_further c now bare (at l) (at n) out.net.0 (together_back c now bare (at n) (at l) exits.2) (together_in (before cut i) blif facts c circuit now (at n) out.net.0 together)),
  )

  bounded : (a b : ℕ) → HasArcWith (before cut i) blif facts phase a b → b < length c.nets
  bounded a b arc = let plain = plain_end arc in slice_get_within c.nets b plain.0 plain.1
    where
      plain_end : HasArcWith (before cut i) blif facts phase a b → IsPlain c b
      plain_end (inl gate) = let arc = gate_in (before cut i) blif facts c circuit now a b gate in together_first c now bare b arc.1.0 arc.1.2
      plain_end (inr link) = together_first c now bare b link.3.net.0 (together_in (before cut i) blif facts c circuit now b link.3.net.0 link.8)

  -- what is known of the ports of whole instances goes down, and so does that there is no cycle
  pub step_goes :
      ((o : NumberedPlace) (n : ℕ) (v : Bool) → Among (whole_places (before cut (suc i))) o → Among o.at.ports n → IsKnown whole_circuit (phase_at cut.top.rules phase) n v
      → IsKnown c (phase_at cut.top.rules phase) n v)
      × (IsAcyclic (HasArcWith (before cut (suc i)) blif facts phase) → IsAcyclic (HasArcWith (before cut i) blif facts phase))
  step_goes = (
    known_down,
    λ free.
        opened_is_acyclic (HasArcWith (before cut i) blif facts phase) (HasArcWith (before cut (suc i)) blif facts phase) (HasArc q.circuit now) Meets LeadsOutOf Inside at rank remaining
        (length c.nets)
        (record { bounded = bounded; outer = outer; inner = inner; moves = moves; stays = leads_to; rises = rises; own = own_net; linked = linked; linked_beside = linked_beside }) free,
  )
