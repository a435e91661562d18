-- What is known of the ports and signals of a cell and a model of which none is in the way of pairing them.
use Rattle.std.proofs.Common.{◌≡◌, ℕ, ◌⊎◌, ◌&&◌, ◌||◌, Bool, true, false, not, cond, List, ◌++◌, Option, Some, None, eqb, nat_lt, ap, ap₂, subst, sym, refl, ◌∙◌, inl, inr}
use Rattle.std.specs.Prelude.{bytes_eq, count_by, filter, find, is_none, is_some, option_map, slice_get, unwrap_or}
use Rattle.std.proofs.lemmas.Bool.{false≢true, or_parts}
use Rattle.std.proofs.lemmas.Option.{none-some}
use Rattle.paired_ports.proofs.GivenLists.{GivesAll, among_number, given_once, is_number, number_among}
use Rattle.vrt_model.proofs.Lists.{filter_map_among}
use Rattle.vrt_model.proofs.Members.{among_either, among_filter, find_among, find_none}
use Rattle.vrt_model.proofs.Tests.{map_none, neither}
use Rattle.vrt_model.specs.CellRules.{clock_of_port, supply_of}
use Rattle.vrt_model.specs.Comparison.{cell_at}
use Rattle.vrt_model.specs.Elements.{signal_name}
use Rattle.vrt_model.specs.Lists.{Among, At, has_number}
use Rattle.vrt_model.specs.PairedPorts.{interface, is_port_in_way, is_signal_in_way, output_is_input, paired_signal, paired_signals, pairs_with_output, port_rule, ports_fault, role_by, role_of, shares_signal, signal_by, signal_of_port}
use Rattle.vrt_model.specs.declared.design.Cell.{Cell}
use Rattle.vrt_model.specs.declared.design.Design.{Design}
use Rattle.vrt_model.specs.declared.flat_model.FlatModel.{FlatModel}
use Rattle.vrt_model.specs.declared.pairing.PortRole.{PortRole}
use Rattle.vrt_model.specs.declared.pairing.PortRole.TheVariants.{Input, Output}
use Rattle.vrt_model.specs.declared.rules.ClockRef.{ClockRef}
use Rattle.vrt_model.specs.declared.rules.PortRule.{PortRule}
use Rattle.vrt_model.specs.declared.rules.Rules.{Rules}

-- ---- nothing in the way

-- no port and no signal is in the way of the pairing, and no input or clock is an output
pub record AreFree (flat : FlatModel) (rules : Rules) (cell : Cell) : Type 0 where
  pub ports : (port : List ℕ) → Among cell.ports port → is_port_in_way flat rules cell port ≡ false
  pub signals : (s : ℕ) → Among (interface flat) s → is_signal_in_way flat rules cell s ≡ false
  pub outputs : (s : ℕ) → Among (flat.inputs ++ flat.clocks) s → has_number flat.outputs s ≡ false

-- what a pairing without faults says
pub are_free : (design : Design) (k : ℕ) (flat : FlatModel) (rules : Rules) → ports_fault design k flat rules ≡ None → output_is_input flat ≡ None → AreFree flat rules (cell_at design k)
unfolding ports_fault
are_free design k flat rules ports outputs =
    let cell : Cell = cell_at design k in
    let both = neither (find (is_port_in_way flat rules cell) cell.ports) (option_map (signal_name flat) (find (is_signal_in_way flat rules cell) (interface flat))) ports in
    let none = map_none (signal_name flat) (find (is_signal_in_way flat rules cell) (interface flat)) both.1 in
    let apart = map_none (signal_name flat) (find (λ (s : ℕ). has_number flat.outputs s) (flat.inputs ++ flat.clocks)) outputs in
    record {
      ports = λ port m. find_none (is_port_in_way flat rules cell) cell.ports port both.0 m;
      signals = λ s m. find_none (is_signal_in_way flat rules cell) (interface flat) s none m;
      outputs = λ s m. find_none (λ (s : ℕ). has_number flat.outputs s) (flat.inputs ++ flat.clocks) s apart m;
    }

-- ---- one port

-- the tests of a port that is not in the way
record IsFreePort (flat : FlatModel) (rules : Rules) (cell : Cell) (port : List ℕ) : Type 0 where
  role : is_none (role_of flat rules cell.name port) ≡ false
  shares : shares_signal flat rules cell port ≡ false
  clock : (is_some (clock_of_port rules cell.name port) && (is_some (supply_of rules port) || pairs_with_output flat rules cell.name port)) ≡ false

-- a port that is not in the way
free_port : (flat : FlatModel) (rules : Rules) (cell : Cell) (port : List ℕ) → is_port_in_way flat rules cell port ≡ false → IsFreePort flat rules cell port
free_port flat rules cell port e =
    let assumed = or_parts _ _ e in
    let clock = or_parts _ _ assumed.0 in
    let rule = or_parts _ _ clock.0 in
    let shares = or_parts _ _ rule.0 in
    let first = or_parts _ _ shares.0 in
    record { role = first.0; shares = shares.1; clock = clock.1 }

-- what is not none is there
not_none : {X : Type 0} (o : Option X) → is_none o ≡ false → (x : X) × (o ≡ Some x)
not_none None e = absurd (false≢true (sym e))
not_none (Some x) e = (x, refl)

-- what a role says of the name, the clock and the signal of its port
record IsInputRole (flat : FlatModel) (supply : Option Bool) (clock : Option ClockRef) (signal : Option ℕ) (s : ℕ) : Type 0 where
  plain : supply ≡ None
  free : clock ≡ None
  is : signal ≡ Some s
  apart : has_number flat.outputs s ≡ false

-- what the role of an input says
input_role : (flat : FlatModel) (supply : Option Bool) (clock : Option ClockRef) (signal : Option ℕ) (s : ℕ) → role_by flat supply clock signal ≡ Some (Input s)
    → IsInputRole flat supply clock signal s
input_role flat (Some value) clock signal s e = cc
input_role flat None (Some clock) signal s e = cc
input_role flat None None None s e = cc
input_role flat None None (Some t) s e = by_test (has_number flat.outputs t) refl e
  where
    by_test : (b : Bool) → has_number flat.outputs t ≡ b → Some (cond b (Output t) (Input t)) ≡ Some (Input s) → IsInputRole flat None None (Some t) s
    by_test true h f = cc
    by_test false h f =
        let same : t ≡ s = cc in
        record { plain = refl; free = refl; is = ap Some same; apart = subst (λ (n : ℕ). has_number flat.outputs n ≡ false) same h }

-- what a role says of an output
record IsOutputRole (flat : FlatModel) (supply : Option Bool) (signal : Option ℕ) (s : ℕ) : Type 0 where
  plain : supply ≡ None
  is : signal ≡ Some s
  there : has_number flat.outputs s ≡ true

-- what the role of an output says
output_role : (flat : FlatModel) (supply : Option Bool) (clock : Option ClockRef) (signal : Option ℕ) (s : ℕ) → role_by flat supply clock signal ≡ Some (Output s)
    → IsOutputRole flat supply signal s
output_role flat (Some value) clock signal s e = cc
output_role flat None (Some clock) signal s e = cc
output_role flat None None None s e = cc
output_role flat None None (Some t) s e = by_test (has_number flat.outputs t) refl e
  where
    by_test : (b : Bool) → has_number flat.outputs t ≡ b → Some (cond b (Output t) (Input t)) ≡ Some (Output s) → IsOutputRole flat None (Some t) s
    by_test true h f =
        let same : t ≡ s = cc in
        record { plain = refl; is = ap Some same; there = subst (λ (n : ℕ). has_number flat.outputs n ≡ true) same h }
    by_test false h f = cc

-- ---- the signals of the interface

-- a signal of the interface is an input or a clock, or an output
interface_sort : (flat : FlatModel) (s : ℕ) → Among (interface flat) s → Among (flat.inputs ++ flat.clocks) s ⊎ (has_number flat.outputs s ≡ true)
interface_sort flat s m =
    let inputs : List ℕ = flat.inputs ++ flat.clocks in
    elim (among_either inputs (filter (λ n. not (has_number inputs n)) flat.outputs) s m) [
      | inl here ↦ inl here
      | inr out ↦ inr (among_number flat.outputs s (among_filter (λ n. not (has_number inputs n)) flat.outputs s out))
    ]

-- the first item stands in the list
first_among : (xs : List ℕ) (s : ℕ) → slice_get xs 0 ≡ Some s → Among xs s
first_among xs s e = (0, e)

-- the signal of a port is one of the interface
pub signal_there : (flat : FlatModel) (rules : Rules) (name port : List ℕ) (s : ℕ) → signal_of_port flat rules name port ≡ Some s → Among (interface flat) s
signal_there flat rules name port s e = by_rule (port_rule rules name port) e
  where
    by_rule : (o : Option PortRule) → signal_by flat port o ≡ Some s → Among (interface flat) s
    by_rule None f = among_filter _ (interface flat) s (first_among _ s f)
    by_rule (Some rule) f = (find_among (λ n. bytes_eq (signal_name flat n) rule.signal) (interface flat) s f).0

-- a port that pairs with a signal is no supply
pub paired_parts : (flat : FlatModel) (rules : Rules) (name port : List ℕ) (s : ℕ) → paired_signal flat rules name port ≡ Some s
    → (supply_of rules port ≡ None) × (signal_of_port flat rules name port ≡ Some s)
paired_parts flat rules name port s e = by_supply (supply_of rules port) e
  where
    by_supply : (o : Option Bool) → cond (is_some o) None (signal_of_port flat rules name port) ≡ Some s → (o ≡ None) × (signal_of_port flat rules name port ≡ Some s)
    by_supply None f = (refl, f)
    by_supply (Some value) f = absurd (none-some s f)

-- a port that is no supply pairs with its signal
paired_from : (flat : FlatModel) (rules : Rules) (name port : List ℕ) (s : ℕ) → supply_of rules port ≡ None → signal_of_port flat rules name port ≡ Some s
    → paired_signal flat rules name port ≡ Some s
paired_from flat rules name port s none e = ap {B = Option ℕ} (λ (o : Option Bool). cond (is_some o) None (signal_of_port flat rules name port)) none ∙ e

-- ---- the ports and the signals

module _ (flat : FlatModel) (rules : Rules) (cell : Cell) (free : AreFree flat rules cell) where
  -- the role and the signal of a port
  abbrev role_at : List ℕ → Option PortRole
  role_at port = role_of flat rules cell.name port

  abbrev signal_at : List ℕ → Option ℕ
  signal_at port = paired_signal flat rules cell.name port

  -- each port has a role
  pub all_roles : GivesAll (role_of flat rules cell.name) cell.ports
  all_roles port m = not_none (role_at port) (free_port flat rules cell port (free.ports port m)).role

  -- a signal that is no output is an input or a clock
  pub no_output : (s : ℕ) → Among (interface flat) s → has_number flat.outputs s ≡ false → Among (flat.inputs ++ flat.clocks) s
  no_output s m e =
      elim (interface_sort flat s m) [
        | inl here ↦ here
        | inr out ↦ absurd (false≢true (sym e ∙ out))
      ]

  -- the signal of an input's port
  pub record IsInputPort (port : List ℕ) (s : ℕ) : Type 0 where
    pub plain : supply_of rules port ≡ None
    pub unclocked : clock_of_port rules cell.name port ≡ None
    pub paired : paired_signal flat rules cell.name port ≡ Some s
    pub there : Among (flat.inputs ++ flat.clocks) s

  -- the port of an input pairs with an input or a clock
  pub input_port : (port : List ℕ) (s : ℕ) → role_of flat rules cell.name port ≡ Some (Input s) → IsInputPort port s
  input_port port s e =
      let r = input_role flat (supply_of rules port) (clock_of_port rules cell.name port) (signal_of_port flat rules cell.name port) s e in
      record {
        plain = r.plain;
        unclocked = r.free;
        paired = paired_from flat rules cell.name port s r.plain r.is;
        there = no_output s (signal_there flat rules cell.name port s r.is) r.apart;
      }

  -- the signal of an output's port
  pub record IsOutputPort (port : List ℕ) (s : ℕ) : Type 0 where
    pub paired : paired_signal flat rules cell.name port ≡ Some s
    pub there : Among flat.outputs s

  -- the port of an output pairs with an output
  pub output_port : (port : List ℕ) (s : ℕ) → role_of flat rules cell.name port ≡ Some (Output s) → IsOutputPort port s
  output_port port s e =
      let r = output_role flat (supply_of rules port) (clock_of_port rules cell.name port) (signal_of_port flat rules cell.name port) s e in
      record { paired = paired_from flat rules cell.name port s r.plain r.is; there = number_among flat.outputs s r.there }

  -- two ports do not pair with one signal
  pub one_port : (i j : ℕ) (p q : List ℕ) (s : ℕ) → At cell.ports i p → At cell.ports j q → signal_at p ≡ Some s → signal_at q ≡ Some s → i ≡ j
  one_port i j p q s a b e g = given_once (paired_signal flat rules cell.name) s cell.ports i j p q few a b e g
    where
      few : nat_lt 1 (count_by (is_number s) (paired_signals flat rules cell)) ≡ false
      few =
          sym (ap {B = Bool} (λ (o : Option ℕ). unwrap_or (option_map (λ (n : ℕ). nat_lt 1 (count_by (λ other. eqb other n) (paired_signals flat rules cell))) o) false) e)
          ∙ (free_port flat rules cell p (free.ports p (i, a))).shares

  -- a port pairs with the signal
  pub paired_there : (at : ℕ) (port : List ℕ) (s : ℕ) → At cell.ports at port → paired_signal flat rules cell.name port ≡ Some s → has_number (paired_signals flat rules cell) s ≡ true
  paired_there at port s a e =
      among_number (paired_signals flat rules cell) s (filter_map_among (paired_signal flat rules cell.name) cell.ports at port s a e)

  -- the signal of a clock port is no output
  pub clock_apart : (at : ℕ) (port : List ℕ) (clock : ClockRef) (s : ℕ) → At cell.ports at port → clock_of_port rules cell.name port ≡ Some clock
      → paired_signal flat rules cell.name port ≡ Some s → has_number flat.outputs s ≡ false
  clock_apart at port clock s here carried paired = by_tests (is_some (supply_of rules port)) (has_number flat.outputs s) tests
    where
      tests : (true && (is_some (supply_of rules port) || has_number flat.outputs s)) ≡ false
      tests =
          sym (ap₂ (λ (o : Option ClockRef) (g : Option ℕ). is_some o && (is_some (supply_of rules port) || unwrap_or (option_map (has_number flat.outputs) g) false)) carried paired)
          ∙ (free_port flat rules cell port (free.ports port (at, here))).clock

      by_tests : (a b : Bool) → (true && (a || b)) ≡ false → b ≡ false
      by_tests true b e = absurd (false≢true (sym e))
      by_tests false b e = e
