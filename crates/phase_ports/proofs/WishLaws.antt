-- What output ports ought to have that are observed: in the order of the ports, each once.
use Rattle.std.proofs.Common.{◌≡◌, ℕ, zero, suc, ◌+◌, ◌-◌, ◌<◌, ◌≤◌, Bool, true, false, cond, List, [], ◌∷◌, length, map, Option, Some, None, zero-add, arith, ap, refl, sym, subst, ◌∙◌}
use Rattle.std.specs.Prelude.{All, filter_map, get_or, option_and_then, slice_get}
use Rattle.std.specs.List.{cons_option}
use Rattle.std.proofs.lemmas.Option.{none-some, same_Some}
use Rattle.phase_ports.proofs.PortLaws.{name_is, net_is, place_is, ports_shown}
use Rattle.phase_ports.specs.Comparisons.{AreFew, ArePortsWithin, IsAtPort, IsOfCell}
use Rattle.phase_ports.specs.DontCares.{HaveBitsOf}
use Rattle.phase_ports.specs.Ports.{net_by, next_by, port_at, ports_by, supply_bit, unnamed}
use Rattle.phase_ports.specs.Seen.{output_wish, seen_wish}
use Rattle.phase_ports.specs.declared.port_list.Port.{Port}
use Rattle.phase_wishes.specs.Wishes.{AreOutputWishes, IsSeenOutput}
use Rattle.phase_wishes.specs.declared.wishes.Wanted.TheVariants.{Signal}
use Rattle.phase_wishes.specs.declared.wishes.Wish.{Wish}
use Rattle.vrt_model.proofs.Lists.{among_filter_map, at_map, filter_map_among, map_at}
use Rattle.vrt_model.proofs.Members.{all_among, all_by, among_later}
use Rattle.vrt_model.specs.CellRules.{is_observed_port}
use Rattle.vrt_model.specs.Comparison.{CellPort, Comparison, cell_at, output_signal, port_nets, ports_from, ports_of}
use Rattle.vrt_model.specs.Lists.{At, Among}
use Rattle.vrt_model.specs.PairedPorts.{HasRoles}
use Rattle.vrt_model.specs.declared.circuit.Circuit.{Circuit}
use Rattle.vrt_model.specs.declared.design.Cell.{Cell}
use Rattle.vrt_model.specs.declared.design.Design.{Design}
use Rattle.vrt_model.specs.declared.pairing.Pairing.{Pairing}
use Rattle.vrt_model.specs.declared.pairing.PortRole.{PortRole}
use Rattle.vrt_model.specs.declared.pairing.PortRole.TheVariants.{Supply, Clock, Input, Output}
use Rattle.vrt_model.specs.declared.rules.Rules.{Rules}
use Rattle.vrt_model.specs.declared.verdict.FaultKind.TheVariants.{Differs}

-- ---- one output

same_signal : (s t : ℕ) → Signal s ≡ Signal t → s ≡ t
same_signal s t e = cc

-- a wish of a port that is an output, observed in the phase
pub record IsWishAt (rules : Rules) (cell : Cell) (phase : ℕ) (bits : List (Option ℕ)) (p : Port) (o : Wish) : Type 0 where
  pub name : List ℕ
  pub named : slice_get cell.ports p.place ≡ Some name
  pub signal : ℕ
  pub role : output_signal p.role ≡ Some signal
  pub seen : is_observed_port rules cell.name name phase ≡ true
  pub place : o.place ≡ p.place
  pub net : o.net.0 ≡ p.net
  pub kind : o.kind ≡ Differs
  pub wanted : o.wanted ≡ Signal signal
  pub free : o.free ≡ get_or bits signal None

pub seen_some : (rules : Rules) (cell : Cell) (phase : ℕ) (bits : List (Option ℕ)) (p : Port) (o : Wish) → seen_wish rules cell phase bits p ≡ Some o → IsWishAt rules cell phase bits p o
seen_some rules cell phase bits p o e = by_signal (output_signal p.role) refl e
  where
    by_test : (signal : ℕ) (name : List ℕ) → output_signal p.role ≡ Some signal → slice_get cell.ports p.place ≡ Some name
        → (b : Bool) → is_observed_port rules cell.name name phase ≡ b → cond b (Some (output_wish p signal (get_or bits signal None))) None ≡ Some o → IsWishAt rules cell phase bits p o
    by_test signal name role named false seen e = absurd (none-some o e)
    by_test signal name role named true seen e =
        let same : output_wish p signal (get_or bits signal None) ≡ o = same_Some (output_wish p signal (get_or bits signal None)) o e in
        record {
          name = name;
          named = named;
          signal = signal;
          role = role;
          seen = seen;
          place = sym (ap (λ (x : Wish). x.place) same);
          net = sym (ap (λ (x : Wish). x.net.0) same);
          kind = sym (ap (λ (x : Wish). x.kind) same);
          wanted = sym (ap (λ (x : Wish). x.wanted) same);
          free = sym (ap (λ (x : Wish). x.free) same);
        }

    by_name : (signal : ℕ) → output_signal p.role ≡ Some signal → (n : Option (List ℕ)) → slice_get cell.ports p.place ≡ n
        → option_and_then (λ (name : List ℕ). cond (is_observed_port rules cell.name name phase) (Some (output_wish p signal (get_or bits signal None))) None) n ≡ Some o → IsWishAt rules cell phase bits p o
    by_name signal role None named e = absurd (none-some o e)
    by_name signal role (Some name) named e = by_test signal name role named (is_observed_port rules cell.name name phase) refl e

    by_signal : (s : Option ℕ) → output_signal p.role ≡ s
        → option_and_then (λ (signal : ℕ). option_and_then (λ (name : List ℕ). cond (is_observed_port rules cell.name name phase) (Some (output_wish p signal (get_or bits signal None))) None) (slice_get cell.ports p.place)) s ≡ Some o
        → IsWishAt rules cell phase bits p o
    by_signal None role e = absurd (none-some o e)
    by_signal (Some signal) role e = by_name signal role (slice_get cell.ports p.place) refl e

some_seen : (rules : Rules) (cell : Cell) (phase : ℕ) (bits : List (Option ℕ)) (p : Port) (signal : ℕ) (name : List ℕ) → output_signal p.role ≡ Some signal → slice_get cell.ports p.place ≡ Some name
    → is_observed_port rules cell.name name phase ≡ true → seen_wish rules cell phase bits p ≡ Some (output_wish p signal (get_or bits signal None))
some_seen rules cell phase bits p signal name role named seen =
    let of_test : Bool → Option Wish = λ b. cond b (Some (output_wish p signal (get_or bits signal None))) None in
    let of_name : ℕ → List ℕ → Option Wish = λ s n. cond (is_observed_port rules cell.name n phase) (Some (output_wish p s (get_or bits s None))) None in
    ap (λ (s : Option ℕ). option_and_then (λ (x : ℕ). option_and_then (of_name x) (slice_get cell.ports p.place)) s) role
    ∙ ap (λ (n : Option (List ℕ)). option_and_then (of_name signal) n) named ∙ ap of_test seen

-- ---- the wishes in order

-- the ports of a list have their places
abbrev HasPlaces : ℕ → List Port → Type 0
HasPlaces at xs = (j : ℕ) (p : Port) → At xs j p → p.place ≡ at + j

-- where each wish has the place of its port, the places of the wishes rise
rises : (F : Port → Option Wish) → ((p : Port) (o : Wish) → F p ≡ Some o → o.place ≡ p.place) → (at : ℕ) (xs : List Port) → HasPlaces at xs
    → (i j : ℕ) (a b : Wish) → At (filter_map F xs) i a → At (filter_map F xs) j b → i < j → a.place < b.place
rises F places at [] has i j a b p q lt = absurd (none-some a p)
rises F places at (x ∷ xs) has i j a b p q lt =
    by_first (rises F places (suc at) xs behind) (F x) refl i j a b p q lt
  where
    behind : HasPlaces (suc at) xs
    behind j p e = omega (arith, has (suc j) p e)

    later : (o : Wish) → Among (filter_map F xs) o → at < o.place
    later o m =
        let z = among_filter_map F xs o m in
        let place = places z.0 o z.2 in
        let there = has (suc z.1.0) z.0 z.1.1 in
        omega (arith, place, there)

    by_first : ((i j : ℕ) (a b : Wish) → At (filter_map F xs) i a → At (filter_map F xs) j b → i < j → a.place < b.place) → (o : Option Wish) → F x ≡ o
        → (i j : ℕ) (a b : Wish) → At (cons_option o (filter_map F xs)) i a → At (cons_option o (filter_map F xs)) j b → i < j → a.place < b.place
    by_first rest None e i j a b p q lt = rest i j a b p q lt
    by_first rest (Some y) e zero zero a b p q lt = absurd (omega (arith, lt))
    by_first rest (Some y) e zero (suc j) a b p q lt =
        let first : y.place ≡ a.place = ap (λ (o : Wish). o.place) (same_Some y a p) in
        let here = places x y e in
        let place = has 0 x refl in
        let after = later b (j, q) in
        omega (arith, first, here, place, after)
    by_first rest (Some y) e (suc i) zero a b p q lt = absurd (omega (arith, lt))
    by_first rest (Some y) e (suc i) (suc j) a b p q lt = rest i j a b p q (omega (arith, lt))

module _ (k : Comparison) (phase : ℕ) (bits : List (Option ℕ)) (ports : List Port) (shown : ports ≡ map unnamed (ports_of k)) where
  abbrev own : Cell
  own = cell_at k.design k.cell

  abbrev nets : List ℕ
  nets = port_nets k.rules own.ports

  abbrev F : Port → Option Wish
  F = seen_wish k.rules own phase bits

  -- a port of the list is one of the cell
  port_of : (j : ℕ) (p : Port) → At ports j p → (port : CellPort) × At (ports_of k) j port × (unnamed port ≡ p)
  port_of j p e = at_map unnamed (ports_of k) j p (ap (λ (xs : List Port). slice_get xs j) (sym shown) ∙ e)

  has_places : HasPlaces 0 ports
  has_places j p e =
      let at = port_of j p e in
      sym (ap (λ (x : Port). x.place) at.2) ∙ place_is 0 own.ports nets k.pairing.ports j at.0 at.1

  -- the port of a wish
  each : (o : Wish) → Among (filter_map F ports) o
      → (port : CellPort) × (signal : ℕ) × IsSeenOutput k phase o.place port signal × (o.net.0 ≡ port.net) × (o.wanted ≡ Signal signal)
  each o among =
      let m = among_filter_map F ports o among in
      let j : ℕ = m.1.0 in
      let z : Port = m.0 in
      let at = port_of j z m.1.1 in
      let port : CellPort = at.0 in
      let s : IsWishAt k.rules own phase bits z o = seen_some k.rules own phase bits z o m.2 in
      let place : o.place ≡ j = s.place ∙ has_places j z m.1.1 ∙ zero-add j in
      let name : Some s.name ≡ Some port.name =
      sym s.named ∙ (ap (λ (n : ℕ). slice_get own.ports n) (sym s.place ∙ place) ∙ name_is 0 own.ports nets k.pairing.ports j port at.1) in (
        port,
        s.signal,
        record {
          there = ap (λ (n : ℕ). slice_get (ports_of k) n) place ∙ at.1;
          role = ap (λ (x : Port). output_signal x.role) at.2 ∙ s.role;
          seen = ap (λ (n : List ℕ). is_observed_port k.rules own.name n phase) (sym (same_Some s.name port.name name)) ∙ s.seen;
        },
        s.net ∙ sym (ap (λ (x : Port). x.net) at.2),
        s.wanted,
      )

  -- the wish of a port
  all : (at : ℕ) (port : CellPort) (signal : ℕ) → IsSeenOutput k phase at port signal → (o : Wish) × Among (filter_map F ports) o × (o.place ≡ at)
  all at port signal seen =
      let place : port.place ≡ at = place_is 0 own.ports nets k.pairing.ports at port seen.there ∙ zero-add at in
      let there : At ports at (unnamed port) = ap (λ (xs : List Port). slice_get xs at) shown ∙ map_at unnamed (ports_of k) at port seen.there in
      let named : slice_get own.ports port.place ≡ Some port.name =
      ap (λ (n : ℕ). slice_get own.ports n) place ∙ name_is 0 own.ports nets k.pairing.ports at port seen.there in
      let m = filter_map_among F ports at (unnamed port) (output_wish (unnamed port) signal (get_or bits signal None)) there
      (some_seen k.rules own phase bits (unnamed port) signal port.name seen.role named seen.seen) in
      (output_wish (unnamed port) signal (get_or bits signal None), m, place)

  pub wishes_are : AreOutputWishes k phase (filter_map F ports)
  wishes_are = record {
    kinds = λ o among.
        let m = among_filter_map F ports o among in
        (seen_some k.rules own phase bits m.0 o m.2).kind;
    each = each;
    all = all;
    rising = rises F (λ p o e. (seen_some k.rules own phase bits p o e).place) 0 ports has_places;
  }

-- ---- in each comparison of a cell

module _ (design : Design) (rules : Rules) (cell : ℕ) (pairing : Pairing) (phase : ℕ) (bits : List (Option ℕ)) (roles : HasRoles rules (cell_at design cell) pairing) where
  abbrev of_cell : Cell
  of_cell = cell_at design cell

  abbrev found : List Wish
  found = filter_map (seen_wish rules of_cell phase bits) (ports_by 0 2 pairing.ports)

  abbrev all_ports : Design → Rules → ℕ → Pairing → List CellPort
  all_ports d r c p = (let names = (cell_at d c).ports in ports_from 0 names (port_nets r names) p.ports)

  shown_in : (k : Comparison) → IsOfCell design rules cell pairing k → ports_by 0 2 pairing.ports ≡ map unnamed (ports_of k)
  shown_in k is =
      ports_shown rules of_cell pairing roles
      ∙ ap (λ (d : Design). map unnamed (all_ports d rules cell pairing)) (sym is.design_is)
      ∙ ap (λ (r : Rules). map unnamed (all_ports k.design r cell pairing)) (sym is.rules_are)
      ∙ ap (λ (c : ℕ). map unnamed (all_ports k.design k.rules c pairing)) (sym is.cell_is)
      ∙ ap (λ (p : Pairing). map unnamed (all_ports k.design k.rules k.cell p)) (sym is.pairing_is)

  found_in : (k : Comparison) → IsOfCell design rules cell pairing k → filter_map (seen_wish k.rules (cell_at k.design k.cell) phase bits) (ports_by 0 2 pairing.ports) ≡ found
  found_in k is =
      ap (λ (r : Rules). filter_map (seen_wish r (cell_at k.design k.cell) phase bits) (ports_by 0 2 pairing.ports)) is.rules_are
      ∙ ap (λ (d : Design). filter_map (seen_wish rules (cell_at d k.cell) phase bits) (ports_by 0 2 pairing.ports)) is.design_is
      ∙ ap (λ (c : ℕ). filter_map (seen_wish rules (cell_at design c) phase bits) (ports_by 0 2 pairing.ports)) is.cell_is

  pub found_are : (k : Comparison) → IsOfCell design rules cell pairing k → AreOutputWishes k phase found
  found_are k is =
      subst (λ (ws : List Wish). AreOutputWishes k phase ws) (found_in k is) (wishes_are k phase bits (ports_by 0 2 pairing.ports) (shown_in k is))

  -- each wish is at the net of a port
  pub found_at : All (IsAtPort rules of_cell) found
  found_at = all_by (IsAtPort rules of_cell) found at_port where
    at_port : (o : Wish) → Among found o → IsAtPort rules of_cell o
    at_port o among =
        let m = among_filter_map (seen_wish rules of_cell phase bits) (ports_by 0 2 pairing.ports) o among in
        let names = of_cell.ports in
        let at = at_map unnamed (ports_from 0 names (port_nets rules names) pairing.ports) m.1.0 m.0
        (ap (λ (xs : List Port). slice_get xs m.1.0) (sym (ports_shown rules of_cell pairing roles)) ∙ m.1.1) in
        let net : at.0.net ≡ o.net.0 = ap (λ (x : Port). x.net) at.2 ∙ sym (seen_some rules of_cell phase bits m.0 o m.2).net in
        (m.1.0, net_is 0 names (port_nets rules names) pairing.ports m.1.0 at.0 at.1 ∙ ap (λ (n : ℕ). Some n) net)

  -- each wish has the bit that the table has
  pub found_bits : HaveBitsOf bits found
  found_bits wish signal among wanted =
      let m = among_filter_map (seen_wish rules of_cell phase bits) (ports_by 0 2 pairing.ports) wish among in
      let s = seen_some rules of_cell phase bits m.0 wish m.2 in
      s.free ∙ ap (λ (n : ℕ). get_or bits n None) (same_signal s.signal signal (sym s.wanted ∙ wanted))

  -- the wishes that are collected from what is read
  pub found_is : (cell_read : Cell) (read : List PortRole) (made walked : List Port) (items : List Wish) → cell_read ≡ of_cell → read ≡ pairing.ports
      → made ≡ ports_by 0 2 read → walked ≡ made → items ≡ filter_map (seen_wish rules cell_read phase bits) walked → found ≡ items
  found_is cell_read read made walked items cs rs ms ws is =
      sym (is ∙ ap (λ (c : Cell). filter_map (seen_wish rules c phase bits) walked) cs
      ∙ ap (λ (xs : List Port). filter_map (seen_wish rules of_cell phase bits) xs) (ws ∙ ms ∙ ap (ports_by 0 2) rs))

-- wishes at the nets of ports are at nets of the circuit
pub wishes_within : (rules : Rules) (cell : Cell) (circuit : Circuit) (wishes : List Wish) → All (IsAtPort rules cell) wishes → ArePortsWithin rules cell circuit
    → All (λ (w : Wish). w.net.0 < length circuit.nets) wishes
wishes_within rules cell circuit wishes at within =
    all_by (λ (w : Wish). w.net.0 < length circuit.nets) wishes
    (λ w m. all_among (λ net. net < length circuit.nets) (port_nets rules cell.ports) w.net.0 within (all_among (IsAtPort rules cell) wishes w at m))

-- ---- how many

-- a supply is no output
no_output : (role : PortRole) (value : Bool) (signal : ℕ) → supply_bit role ≡ Some value → output_signal role ≡ Some signal → ⊥
no_output (Supply bit) value signal s o = none-some signal o
no_output (Clock clock) value signal s o = none-some signal o
no_output (Input i) value signal s o = none-some signal o
no_output (Output out) value signal s o = none-some value s

-- each wish takes a net of its own, since it is not that of a supply
module _ (F : Port → Option Wish) (count : ℕ) (net : (p : Port) (o : Wish) → F p ≡ Some o → o.net.0 ≡ p.net)
    (no_supply : (p : Port) (o : Wish) (value : Bool) → F p ≡ Some o → supply_bit p.role ≡ Some value → ⊥) where
  abbrev AreBelow : List Wish → Type 0
  AreBelow xs = (o : Wish) → Among xs o → o.net.0 < count

  few_output : (p : Port) (rest : List Wish) (o : Option Wish) → F p ≡ o → AreBelow (cons_option o rest) → length rest ≤ count - (p.net + 1) → length (cons_option o rest) ≤ count - p.net
  few_output p rest None e below few = omega (arith, few)
  few_output p rest (Some o) e below few =
      let is = net p o e in
      let lt = below o (0, refl) in
      omega (arith, few, is, lt)

  few_supply : (p : Port) (value : Bool) (rest : List Wish) (next : ℕ) (o : Option Wish) → F p ≡ o → supply_bit p.role ≡ Some value → length rest ≤ count - next
      → length (cons_option o rest) ≤ count - next
  few_supply p value rest next None e is few = few
  few_supply p value rest next (Some o) e is few = absurd (no_supply p o value e is)

  below_behind : (o : Option Wish) (rest : List Wish) → AreBelow (cons_option o rest) → AreBelow rest
  below_behind None rest below = below
  below_behind (Some x) rest below = λ o m. below o (among_later x rest o m)

  few_by : (place next : ℕ) (roles : List PortRole) → AreBelow (filter_map F (ports_by place next roles)) → length (filter_map F (ports_by place next roles)) ≤ count - next
  few_by place next [] below = omega arith
  few_by place next (role ∷ roles) below = by_supply (λ n b. few_by (place + 1) n roles b) (supply_bit role) refl below
    where
      by_supply : ((n : ℕ) → AreBelow (filter_map F (ports_by (place + 1) n roles)) → length (filter_map F (ports_by (place + 1) n roles)) ≤ count - n)
          → (s : Option Bool) → supply_bit role ≡ s
          → AreBelow (filter_map F (port_at place (net_by s next) role ∷ ports_by (place + 1) (next_by s next) roles))
          → length (filter_map F (port_at place (net_by s next) role ∷ ports_by (place + 1) (next_by s next) roles)) ≤ count - next
      by_supply few None is below =
          let p : Port = port_at place next role in
          let rest : List Wish = filter_map F (ports_by (place + 1) (next + 1) roles) in
          few_output p rest (F p) refl below (few (next + 1) (below_behind (F p) rest below))
      by_supply few (Some value) is below =
          let p : Port = port_at place (cond value 1 0) role in
          let rest : List Wish = filter_map F (ports_by (place + 1) next roles) in
          few_supply p value rest next (F p) refl is (few next (below_behind (F p) rest below))

module _ (design : Design) (rules : Rules) (cell : ℕ) (pairing : Pairing) (phase : ℕ) (bits : List (Option ℕ)) (roles : HasRoles rules (cell_at design cell) pairing) where
  abbrev own_cell : Cell
  own_cell = cell_at design cell

  abbrev the_wishes : List Wish
  the_wishes = filter_map (seen_wish rules own_cell phase bits) (ports_by 0 2 pairing.ports)

  pub found_few : AreFew rules own_cell the_wishes
  found_few circuit within =
      let at = wishes_within rules own_cell circuit the_wishes (found_at design rules cell pairing phase bits roles) within in
      let few = few_by (seen_wish rules own_cell phase bits) (length circuit.nets) (λ p o e. (seen_some rules own_cell phase bits p o e).net)
      (λ p o value e is. (let s = seen_some rules own_cell phase bits p o e in no_output p.role value s.signal is s.role)) 0 2 pairing.ports
      (λ o m. all_among (λ (w : Wish). w.net.0 < length circuit.nets) the_wishes o at m) in
      omega (arith, few)
