-- The nets of clock ports and of ports that an `assume` names, in the comparison of a supported cell.
use Rattle.std.proofs.Common.{◌≡◌, ℕ, zero, suc, ◌+◌, ◌&&◌, Bool, true, false, cond, List, [], ◌++◌, get_or, map, Option, Some, None, arith, ap, subst, sym, refl, ◌∙◌, inl, inr}
use Rattle.std.specs.Prelude.{bytes_eq, filter_map, find, flat_map, is_none, is_some, option_map, slice_get, unwrap_or}
use Rattle.std.specs.Option.{option_or}
use Rattle.std.proofs.lemmas.Bool.{and_from, false≢true, or_parts}
use Rattle.std.proofs.lemmas.List.Quantifiers.{position-Some}
use Rattle.std.proofs.lemmas.Option.{none-some, same_Some, slice_get-get_or}
use Rattle.std.proofs.lemmas.Slice.Eq.{bytes_eq-Decides}
use Rattle.vrt_model.proofs.Lists.{among_filter_map, at_either, at_front, at_map}
use Rattle.vrt_model.proofs.Members.{among_any, among_flat_map, among_map, find_none}
use Rattle.vrt_model.proofs.Tests.{neither}
use Rattle.vrt_model.specs.CellRules.{assumed, clock_of_port, is_for, supply_of}
use Rattle.vrt_model.specs.Comparison.{cell_at, port_nets_from}
use Rattle.vrt_model.specs.Elements.{signal_name}
use Rattle.vrt_model.specs.Expressions.{names_in}
use Rattle.vrt_model.specs.FlatBlif.{flat_model_of}
use Rattle.vrt_model.specs.FlatCircuit.{flat_circuit_of, flat_nets, kind_by, own_flat_nets, plain_net, port_nets_of, supply_flat}
use Rattle.vrt_model.specs.Lists.{Among, At, has_name, has_number, path_name, place_of}
use Rattle.vrt_model.specs.PairedPorts.{interface, is_assumed, is_port_in_way, is_signal_in_way, output_is_input, pairing_of, pairs_with_output, ports_fault, role_by, role_of, signal_of_port}
use Rattle.vrt_model.specs.Reading.{is_given}
use Rattle.vrt_model.specs.Unrolled.{Place, Top, all_places, globals_of, own_nets, path_text}
use Rattle.vrt_model.specs.Unsupported.{IsSupported, circuit_limits, comparison_of, device_without_kind, model_limits, supply_tie, too_large, top_before, why_compared, why_of}
use Rattle.vrt_model.specs.declared.blif.Blif.{Blif}
use Rattle.vrt_model.specs.declared.circuit.FlatNet.{FlatNet}
use Rattle.vrt_model.specs.declared.circuit.NetKind.{NetKind}
use Rattle.vrt_model.specs.declared.circuit.NetKind.TheVariants.{Supply as SupplyNet, Clock as ClockNet, Input as InputNet, Plain}
use Rattle.vrt_model.specs.declared.design.Cell.{Cell}
use Rattle.vrt_model.specs.declared.design.Design.{Design}
use Rattle.vrt_model.specs.declared.flat_model.FlatModel.{FlatModel}
use Rattle.vrt_model.specs.declared.pairing.PortRole.{PortRole}
use Rattle.vrt_model.specs.declared.pairing.PortRole.TheVariants.{Supply, Clock, Input, Output}
use Rattle.vrt_model.specs.declared.rules.AssumeRule.{AssumeRule}
use Rattle.vrt_model.specs.declared.rules.ClockRef.{ClockRef}
use Rattle.vrt_model.specs.declared.rules.Expr.{Expr}
use Rattle.vrt_model.specs.declared.rules.Rules.{Rules}
use Rattle.vrt_model.specs.declared.verdict.Why.{Why}
use Rattle.vrt_model.specs.declared.verdict.Why.TheVariants.{DeviceModel, OutputIsInput, Ports, SupplyTie, TooLarge}
use Rattle.whole_solutions.proofs.PortNets.{IsNetOfPort, made_at, made_there, net_at_port, net_of_port}
use Rattle.whole_solutions.specs.PairedPorts.{PairedPortsAreGiven}

-- ---- roles

-- the clock of a net, and of a role
clock_in : NetKind → Option ClockRef
clock_in (SupplyNet value) = None
clock_in (ClockNet clock) = Some clock
clock_in InputNet = None
clock_in Plain = None

pub clock_role : (o : Option PortRole) (clock : ClockRef) → kind_by o ≡ ClockNet clock → o ≡ Some (Clock clock)
unfolding clock_in
clock_role None clock e = absurd (none-some clock (ap clock_in e))
clock_role (Some (Supply value)) clock e = absurd (none-some clock (ap clock_in e))
clock_role (Some (Clock other)) clock e = ap (λ (c : ClockRef). Some (Clock c)) (same_Some other clock (ap clock_in e))
clock_role (Some (Input s)) clock e = absurd (none-some clock (ap clock_in e))
clock_role (Some (Output s)) clock e = absurd (none-some clock (ap clock_in e))

-- the role of a clock port comes from its rule, and that of an output from its signal
pub of_clock : (flat : FlatModel) (supply : Option Bool) (rule : Option ClockRef) (signal : Option ℕ) (clock : ClockRef) → role_by flat supply rule signal ≡ Some (Clock clock) → rule ≡ Some clock
of_clock flat (Some value) rule signal clock e = cc
of_clock flat None (Some other) signal clock e = cc
of_clock flat None None None clock e = cc
of_clock flat None None (Some s) clock e = by_test (has_number flat.outputs s) e
  where
    by_test : (b : Bool) → Some (cond b (Output s) (Input s)) ≡ Some (Clock clock) → None ≡ Some clock
    by_test true f = cc
    by_test false f = cc

of_output : (flat : FlatModel) (supply : Option Bool) (rule : Option ClockRef) (signal : Option ℕ) (s : ℕ) → role_by flat supply rule signal ≡ Some (Output s)
    → unwrap_or (option_map (has_number flat.outputs) (cond (is_some supply) None signal)) false ≡ true
of_output flat (Some value) rule signal s e = cc
of_output flat None (Some other) signal s e = cc
of_output flat None None None s e = cc
of_output flat None None (Some t) s e = by_test (has_number flat.outputs t) e
  where
    by_test : (b : Bool) → Some (cond b (Output t) (Input t)) ≡ Some (Output s) → b ≡ true
    by_test true f = refl
    by_test false f = cc

-- ---- causes

first_none : {X : Type 0} (f : X → Why) (o : Option X) (rest : Option Why) → option_or (why_of f o) rest ≡ None → (o ≡ None) × (rest ≡ None)
first_none f None rest e = (refl, e)
first_none f (Some x) rest e = absurd (none-some (f x) (sym e))

-- where no cause stands in a row of four and more, the fourth does not
fourth_none : {X Y Z U : Type 0} (f : X → Why) (o : Option X) (g : Y → Why) (p : Option Y) (h : Z → Why) (q : Option Z) (k : U → Why) (r : Option U) (rest : Option Why)
    → option_or (why_of f o) (option_or (why_of g p) (option_or (why_of h q) (option_or (why_of k r) rest))) ≡ None → r ≡ None
fourth_none f o g p h q k r rest e =
    let one = first_none f o (option_or (why_of g p) (option_or (why_of h q) (option_or (why_of k r) rest))) e in
    let two = first_none g p (option_or (why_of h q) (option_or (why_of k r) rest)) one.1 in
    let three = first_none h q (option_or (why_of k r) rest) two.1 in
    (first_none k r rest three.1).0

same_name : (a b : List ℕ) → bytes_eq a b ≡ true → a ≡ b
same_name a b e = (bytes_eq-Decides a b).0 e

-- a line of the cell for the phase is one of its lines
line_names : (rules : Rules) (cell : List ℕ) (phase : ℕ) (e : Expr) (name : List ℕ) → Among (assumed rules cell phase) e → Among (names_in e) name → is_assumed rules cell name ≡ true
line_names rules cell phase e name m n =
    let from = among_filter_map (λ (r : AssumeRule). cond (bytes_eq r.cell cell && is_for r.phase phase) (Some r.expression) None) rules.assumes e m in
    let is = asked (bytes_eq from.0.cell cell) (is_for from.0.phase phase) from.0.expression from.2 in
    among_any (λ (r : AssumeRule). bytes_eq r.cell cell && has_name (names_in r.expression) name) rules.assumes from.0 from.1
    (and_from (bytes_eq from.0.cell cell) (has_name (names_in from.0.expression) name) is.0
    (among_any (bytes_eq name) (names_in from.0.expression) name (subst (λ (x : Expr). Among (names_in x) name) (sym is.1) n) ((bytes_eq-Decides name name).1 refl)))
  where
    asked : (b d : Bool) (x : Expr) → cond (b && d) (Some x) None ≡ Some e → (b ≡ true) × (x ≡ e)
    asked true true x f = (refl, same_Some x e f)
    asked true false x f = absurd (none-some e f)
    asked false d x f = absurd (none-some e f)

module _ (design : Design) (blif : Blif) (rules : Rules) (cell_number m : ℕ) (supported : IsSupported design blif rules cell_number m) where
  abbrev cell : Cell
  cell = cell_at design cell_number

  abbrev flat : FlatModel
  flat = flat_model_of blif m

  abbrev role_at : List ℕ → Option PortRole
  role_at name = role_of flat rules cell.name name

  abbrev roles : List PortRole
  roles = filter_map role_at cell.ports

  abbrev top : Top
  top = record { design = design; rules = rules; cell = cell_number; roles = roles }

  nets_are : (comparison_of design blif rules cell_number m).circuit.nets ≡ flat_nets top
  unfolding flat_circuit_of pairing_of
  nets_are = refl

  -- ---- no port is in the way

  no_fault : ports_fault design cell_number flat rules ≡ None
  no_fault =
      fourth_none (λ count. TooLarge count) (too_large (circuit_limits (top_before design rules cell_number) ++ model_limits blif m)) (λ model. DeviceModel model)
      (device_without_kind (top_before design rules cell_number)) (λ path. SupplyTie path) (supply_tie (top_before design rules cell_number)) (λ name. Ports name)
      (ports_fault design cell_number flat rules)
      (option_or (why_of (λ signal. OutputIsInput signal) (output_is_input flat)) (why_compared (comparison_of design blif rules cell_number m))) supported.early

  in_no_way : (name : List ℕ) → Among cell.ports name → is_port_in_way flat rules cell name ≡ false
  unfolding ports_fault
  in_no_way name m =
      find_none (is_port_in_way flat rules cell) cell.ports name
      (neither (find (is_port_in_way flat rules cell) cell.ports) (option_map (signal_name flat) (find (is_signal_in_way flat rules cell) (interface flat))) no_fault).0 m

  has_role : (name : List ℕ) → Among cell.ports name → is_none (role_at name) ≡ false
  has_role name m =
      let last = or_parts _ _ (in_no_way name m) in
      let clock = or_parts _ _ last.0 in
      let rule = or_parts _ _ clock.0 in
      let shares = or_parts _ _ rule.0 in
      (or_parts _ _ shares.0).0

  not_both : (name : List ℕ) → Among cell.ports name → (pairs_with_output flat rules cell.name name && is_assumed rules cell.name name) ≡ false
  not_both name m = (or_parts _ _ (in_no_way name m)).1

  -- ---- flat nets

  abbrev port_flats : List FlatNet
  port_flats = port_nets_of rules cell.ports roles

  abbrev global_flats : List FlatNet
  global_flats = map plain_net (globals_of top)

  abbrev own_flats : List FlatNet
  own_flats = flat_map (own_flat_nets top) (all_places top)

  -- a net that carries a clock is that of a port
  clock_port : (n : ℕ) (net : FlatNet) (clock : ClockRef) → At (flat_nets top) n net → net.kind ≡ ClockNet clock → IsNetOfPort cell.ports (port_nets_from rules 2 cell.ports) roles n net
  unfolding clock_in
  clock_port zero net clock e k = absurd (none-some clock (ap clock_in (ap (λ (x : FlatNet). x.kind) (same_Some (supply_flat rules false) net e) ∙ k)))
  clock_port (suc zero) net clock e k = absurd (none-some clock (ap clock_in (ap (λ (x : FlatNet). x.kind) (same_Some (supply_flat rules true) net e) ∙ k)))
  clock_port (suc (suc j)) net clock e k =
      elim (at_either (port_flats ++ global_flats) own_flats j net e) [
        | inl front ↦ elim (at_either port_flats global_flats j net front) [
          | inl port ↦ (let same : 2 + j ≡ suc (suc j) = omega arith in subst (λ (x : ℕ). IsNetOfPort cell.ports (port_nets_from rules 2 cell.ports) roles x net) same (net_of_port rules cell.ports roles 2 j net port))
          | inr g ↦ absurd (plain_no_clock (let x = at_map plain_net (globals_of top) g.0 net g.2 in ap (λ (y : FlatNet). y.kind) x.2))
        ]
        | inr o ↦
            let from = among_flat_map (own_flat_nets top) (all_places top) net (o.0, o.2) in
            let at : Place = from.0 in
            let x = among_map (λ (name : List ℕ). plain_net (path_name (path_text at.path) name)) (own_nets design rules (cell_at design at.cell)) net from.2 in
            absurd (plain_no_clock (ap (λ (y : FlatNet). y.kind) x.2))
      ]
    where
      plain_no_clock : Plain ≡ net.kind → ⊥
      plain_no_clock is = none-some clock (ap clock_in (is ∙ k))

  -- the number of a port's flat net
  port_flat_at : (n j : ℕ) (x : FlatNet) → n ≡ 2 + j → At port_flats j x → At (flat_nets top) n x
  port_flat_at n j x is e =
      let same : suc (suc j) ≡ n = omega (arith, is) in
      subst (λ (k : ℕ). At (flat_nets top) k x) same (at_front (port_flats ++ global_flats) own_flats j x (at_front port_flats global_flats j x e))

  supply_given : (n : ℕ) (value : Bool) → n ≡ cond value 1 0 → (net : FlatNet) × At (flat_nets top) n net × (is_given net.kind ≡ true)
  supply_given n true is = (supply_flat rules true, subst (λ (k : ℕ). At (flat_nets top) k (supply_flat rules true)) (sym is) refl, refl)
  supply_given n false is = (supply_flat rules false, subst (λ (k : ℕ). At (flat_nets top) k (supply_flat rules false)) (sym is) refl, refl)

  -- the role of a port that an `assume` names gives its net a value
  given_role : (name : List ℕ) → Among cell.ports name → is_assumed rules cell.name name ≡ true → (role : PortRole) → role_at name ≡ Some role → is_given (kind_by (Some role)) ≡ true
  given_role name m named (Supply value) e = refl
  given_role name m named (Clock clock) e = refl
  given_role name m named (Input s) e = refl
  given_role name m named (Output s) e =
      absurd (false≢true (sym (not_both name m) ∙ and_from (pairs_with_output flat rules cell.name name) (is_assumed rules cell.name name)
      (of_output flat (supply_of rules name) (clock_of_port rules cell.name name) (signal_of_port flat rules cell.name name) s e) named))

  port_given : (name : List ℕ) (place : ℕ) → At cell.ports place name → is_assumed rules cell.name name ≡ true
      → (n : ℕ) × At (port_nets_from rules 2 cell.ports) place n × ((net : FlatNet) × At (flat_nets top) n net × (is_given net.kind ≡ true))
  port_given name place here named =
      let port = net_at_port rules cell.ports roles 2 place name here in
      let role = made_there role_at cell.ports has_role place name here in (
        port.0,
        port.1,
        elim port.2 [
          | inl s ↦ supply_given port.0 s.0 s.2
          | inr q ↦ (
            record { name = name; kind = kind_by (slice_get roles place) },
            port_flat_at port.0 q.0 (record { name = name; kind = kind_by (slice_get roles place) }) q.2 q.3,
            ap (λ (o : Option PortRole). is_given (kind_by o)) role.1 ∙ given_role name (place, here) named role.0 role.2,
          )
        ],
      )

  -- the name at its place
  named_there : (name : List ℕ) (place : ℕ) → place_of cell.ports name ≡ Some place → At cell.ports place name
  named_there name place e =
      let h = position-Some (bytes_eq name) cell.ports place [] e in
      slice_get-get_or cell.ports place [] h.0 ∙ ap (λ (x : List ℕ). Some x) (sym (same_name name (get_or cell.ports place []) h.1))

pub paired_ports_are_given : PairedPortsAreGiven
paired_ports_are_given design blif rules cell m phase supported places = record {
  clocks = λ n net clock e k.
      let h = clock_port design blif rules cell m supported n net clock (subst (λ (nets : List FlatNet). At nets n net) (nets_are design blif rules cell m supported) e) k in
      let role = clock_role (slice_get (roles design blif rules cell m supported) h.place) clock (sym h.kind ∙ k) in
      let from = made_at (role_at design blif rules cell m supported) (cell_at design cell).ports (has_role design blif rules cell m supported) h.place (Clock clock) role in
      let name : from.0 ≡ h.name = same_Some from.0 h.name (sym from.1 ∙ h.called) in (
        h.place,
        h.name,
        record { called = h.called; tied = h.tied },
        subst (λ (x : List ℕ). clock_of_port rules (cell_at design cell).name x ≡ Some clock) name
            (of_clock (flat_model_of blif m) (supply_of rules from.0) (clock_of_port rules (cell_at design cell).name from.0) (signal_of_port (flat_model_of blif m) rules (cell_at design cell).name from.0) clock from.2),
      );
  named = λ e name there n.
      let place = places e name there n in
      let here = named_there design blif rules cell m supported name place.0 place.1 in
      let port = port_given design blif rules cell m supported name place.0 here (line_names rules (cell_at design cell).name phase e name there n) in (
        place.0,
        port.0,
        place.1,
        record { called = here; tied = port.1 },
        subst (λ (nets : List FlatNet). (net : FlatNet) × At nets port.0 net × (is_given net.kind ≡ true)) (sym (nets_are design blif rules cell m supported)) port.2,
      );
}
