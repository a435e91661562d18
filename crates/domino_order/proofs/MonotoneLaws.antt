-- From what the search of the ports finds to what is told of their arrival.
use Rattle.std.proofs.Common.{◌≡◌, ℕ, ◌+◌, ◌*◌, ◌^◌, ◌<◌, ◌≤◌, Bool, List, Option, Some, ap, arith, eqb, length, subst, sym, ◌∙◌}
use Rattle.std.specs.Prelude.{option_map}
use Rattle.std.proofs.lemmas.Bool.{eqb-true}
use Rattle.std.proofs.lemmas.List.{length-map}
use Rattle.std.proofs.lemmas.Option.{same_Some, slice_get-get_or, slice_get_within}
use Rattle.arrival_laws.specs.Orders.{AllOrdersGoWell}
use Rattle.domino_order.proofs.RunWork.{run_passes_work}
use Rattle.domino_order.proofs.SearchLaws.{holds_not_fails}
use Rattle.domino_order.proofs.StepBits.{failing_steps, steps_by_bits}
use Rattle.domino_order.specs.Arrivals.{AreRising, ArrivalTells, IsFirstFailing, arrival_variables, net_of_port, nets_of_ports}
use Rattle.domino_order.specs.Ports.{IsFirstNet, PortsGive, net_at}
use Rattle.domino_order.specs.Runs.{IsAsked, asked_variables, of_asked}
use Rattle.domino_order.specs.StepBits.{FailsAt}
use Rattle.domino_order.specs.StepWords.{AreInputs}
use Rattle.domino_order.specs.declared.arrival.Arrival.{Arrival}
use Rattle.domino_order.specs.declared.arrival.Arrival.TheVariants.{Yes, No, TooMany, Budget}
use Rattle.domino_order.specs.declared.prepared.Asked.{Asked}
use Rattle.phase_ports.proofs.PortLaws.{net_is}
use Rattle.phase_terms.specs.Ready.{IsReady}
use Rattle.vrt_model.proofs.Lists.{filter_map_among, map_at}
use Rattle.vrt_model.proofs.Members.{among_map, any_among}
use Rattle.vrt_model.specs.Assignment.{Tied}
use Rattle.vrt_model.specs.Budget.{work_of}
use Rattle.vrt_model.specs.Comparison.{CellPort, Comparison, cell_at, input_signal, port_nets, ports_of}
use Rattle.vrt_model.specs.Equal.{IsPhaseEqual}
use Rattle.vrt_model.specs.Limits.{most_variables}
use Rattle.vrt_model.specs.Lists.{At}
use Rattle.vrt_model.specs.declared.blif.Blif.{Blif}
use Rattle.vrt_model.specs.declared.circuit.FlatNet.{FlatNet}
use Rattle.vrt_model.specs.declared.circuit.NetKind.TheVariants.{Input}

-- ---- the nets of ports that rise

module _ (k : Comparison) (rising : List ℕ) (ready : IsReady k) (are : AreRising k rising) where
  -- the net of such a port, as the port has it
  pub port_net : (place : ℕ) (port : CellPort) → At (ports_of k) place port → net_of_port k place ≡ port.net
  port_net place port there =
      let names = (cell_at k.design k.cell).ports in
      let nets = port_nets k.rules names in
      let here = net_is 0 names nets k.pairing.ports place port there in
      let lt = slice_get_within nets place port.net here in same_Some (net_of_port k place) port.net (sym (slice_get-get_or nets place 0 lt) ∙ here)

  pub are_inputs : AreInputs k.circuit (nets_of_ports k rising)
  are_inputs n e =
      let nets = nets_of_ports k rising in
      let there = any_among (λ (x : ℕ). eqb x n) nets e in
      let place = among_map (net_of_port k) rising there.0 there.1 in
      let input = are.inputs place.0 place.1 in
      let port : CellPort = input.0 in
      let tie : CellPort → Option Tied = λ (p : CellPort). option_map (λ (signal : ℕ). let tied : Tied = record { net = p.net; signal = signal } in tied) (input_signal p.role) in
      let t : Tied = record { net = port.net; signal = input.2 } in
      let gives : tie port ≡ Some t = ap (λ (o : Option ℕ). option_map (λ (signal : ℕ). let tied : Tied = record { net = port.net; signal = signal } in tied) o) input.3 in
      let net = ready.inputs.nets t (filter_map_among tie (ports_of k) place.0 port t input.1 gives) in
      let same : port.net ≡ n = sym (port_net place.0 port input.1) ∙ place.2 ∙ eqb-true there.0 n there.2 in
      subst (λ (m : ℕ). (x : FlatNet) × At k.circuit.nets m x × (x.kind ≡ Input)) same net

-- ---- what is told

module _ (s : Asked) (is : IsAsked s) (rising : List ℕ) (are : AreRising (of_asked s) rising) (same : s.rising.nets.now ≡ nets_of_ports (of_asked s) rising)
    (equal : IsPhaseEqual (of_asked s) s.rising.phase) (few : arrival_variables (of_asked s) s.rising.phase rising ≤ most_variables) where
  abbrev k : Comparison
  k = of_asked s

  abbrev phase : ℕ
  phase = s.rising.phase

  abbrev nets : List ℕ
  nets = s.rising.nets.now

  len : length nets ≡ length rising
  len = ap (λ (xs : List ℕ). length xs) same ∙ length-map rising (net_of_port k)

  -- the net at a place is that of the port
  net_there : (place port : ℕ) → At rising place port → net_at s place ≡ net_of_port k port
  net_there place port there =
      let at : At nets place (net_of_port k port) = subst (λ (xs : List ℕ). At xs place (net_of_port k port)) (sym same) (map_at (net_of_port k) rising place port there) in
      let lt = slice_get_within nets place (net_of_port k port) at in same_Some (net_at s place) (net_of_port k port) (sym (slice_get-get_or nets place 0 lt) ∙ at)

  to_ports : (m : ℕ) (bits : List Bool) → FailsAt k phase nets m bits → FailsAt k phase (nets_of_ports k rising) m bits
  to_ports m bits fails = subst (λ (xs : List ℕ). FailsAt k phase xs m bits) same fails

  from_ports : (m : ℕ) (bits : List Bool) → FailsAt k phase (nets_of_ports k rising) m bits → FailsAt k phase nets m bits
  from_ports m bits fails = subst (λ (xs : List ℕ). FailsAt k phase xs m bits) (sym same) fails

  first_failing : (port : ℕ) (bits : List Bool) → IsFirstNet s rising port bits → IsFirstFailing k phase rising port bits
  first_failing port bits first =
      let net = net_there first.place port first.there in
      record {
        place = first.place;
        there = first.there;
        fails = to_ports (net_of_port k port) bits (subst (λ (m : ℕ). FailsAt k phase nets m bits) net first.fails.fails);
        least = λ more fails. first.fails.least more (subst (λ (m : ℕ). FailsAt k phase nets m more) (sym net) (from_ports (net_of_port k port) more fails));
        before = λ i other more lt there fails.
            let at = from_ports (net_of_port k other) more fails in
            let here = subst (λ (m : ℕ). FailsAt k phase nets m more) (sym (net_there i other there)) at in
            holds_not_fails k phase nets (net_at s i) more (first.before i lt more here.at) here;
      }

  pub arrival_tells : (blif : Blif) (budget : ℕ) (a : Arrival) → PortsGive s rising budget a → ArrivalTells k blif budget phase rising a
  arrival_tells blif budget Yes all = (few, subst (AllOrdersGoWell k phase) same (steps_by_bits k phase nets equal all).1)
  arrival_tells blif budget (No port valuation) first = (
    few,
    λ orders. failing_steps k phase nets (net_at s first.place) valuation.bits equal first.fails.fails (subst (AllOrdersGoWell k phase) (sym same) orders),
    first_failing port valuation.bits first,
  )
  arrival_tells blif budget (TooMany count) none = absurd none
  arrival_tells blif budget (Budget nodes) gives =
      let some : 1 ≤ length nets = (let some = are.some in let size = len in omega (arith, some, size)) in
      let variables : asked_variables s ≡ arrival_variables k phase rising = (let size = len in omega (arith, size)) in
      let passes = run_passes_work s is blif some (omega (arith, few, variables)) budget gives.1 in (
        few,
        omega (arith, passes.0, variables),
        gives.0,
        subst (λ (r : ℕ). budget < 2 + 2 ^ arrival_variables k phase rising * (4 * (r + 1) * work_of k blif)) len
            (subst (λ (u : ℕ). budget < 2 + 2 ^ u * (4 * (length nets + 1) * work_of k blif)) variables passes.1),
      )
