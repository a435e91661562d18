-- What is made of the ports of a cell is its pairing.
use Rattle.std.proofs.Common.{◌≡◌, ◌++◌, ◌∷◌, [], ℕ, suc, not, ◌&&◌, ◌||◌, nat_lt, List, Bool, true, false, cond, map, Option, Some, None, option_map, refl, ap, ap₂, sym, ◌∙◌}
use Rattle.std.specs.Prelude.{count_by, filter_map, find, is_some, is_none, option_and_then, slice_get, unwrap_or, ◌==◌}
use Rattle.std.specs.List.{cons_option, position}
use Rattle.std.specs.Option.{option_or}
use Rattle.std.proofs.lemmas.List.Folds.{find-append}
use mathlib.Core.Path.{fun_ext}
use Rattle.vrt_model.specs.CellRules.{clock_of_port, supply_of}
use Rattle.vrt_model.specs.Comparison.{cell_at}
use Rattle.vrt_model.specs.Elements.{signal_name}
use Rattle.vrt_model.specs.Lists.{has_number}
use Rattle.vrt_model.specs.PairedPorts.{clocked_signals, interface, is_port_in_way, is_signal_in_way, output_is_input, paired_signals, pairing_of, ports_fault, role_by, role_of}
use Rattle.vrt_model.specs.declared.design.Cell.{Cell}
use Rattle.vrt_model.specs.declared.design.Design.{Design}
use Rattle.vrt_model.specs.declared.flat_model.FlatModel.{FlatModel}
use Rattle.vrt_model.specs.declared.pairing.ClockedSignal.{ClockedSignal}
use Rattle.vrt_model.specs.declared.pairing.Pairing.{Pairing}
use Rattle.vrt_model.specs.declared.pairing.PortRole.{PortRole}
use Rattle.vrt_model.specs.declared.rules.ClockRef.{ClockRef}
use Rattle.vrt_model.specs.declared.rules.Rules.{Rules}
use Rattle.rule_index.specs.Tables.{AreRuleTables}
use Rattle.rule_index.specs.declared.index.RuleIndex.{RuleIndex}
use Rattle.latch_match.specs.Facts.{all_facts, clock_carried, is_in_way, port_facts, role_from, role_in, signal_paired}
use Rattle.latch_match.specs.Looked.{AreLookups, facts_in}
use Rattle.latch_match.specs.Marked.{AreCounts, has_in}
use Rattle.latch_match.specs.Paired.{ArePaired, IsSetOf, carriers, clocked_without_port, output_in, port_in_way, signal_in_way, way_in}
use Rattle.latch_match.specs.declared.counts.Counts.{Counts}
use Rattle.latch_match.specs.declared.facts.PortFacts.{PortFacts}
use Rattle.latch_match.specs.declared.lookups.Lookups.{Lookups}
use Rattle.latch_match.specs.declared.numbers.NumberSet.{NumberSet}
use Rattle.latch_match.specs.declared.signals.Paired.{Paired}
use Rattle.names.proofs.PlaceLaws.{place_cons}
use Rattle.latch_match.proofs.LookupLaws.{facts_are}

-- ---- what is made of the ports

pub facts_all : (flat : FlatModel) (rules : Rules) (cell : Cell) (index : RuleIndex) (l : Lookups) (name : List ℕ) (ports : List (List ℕ)) (facts : List PortFacts) → name ≡ cell.name → ports ≡ cell.ports
    → AreRuleTables rules index → AreLookups flat rules name l → facts ≡ map (facts_in index.supplies l) ports → facts ≡ all_facts flat rules cell
facts_all flat rules cell index l name ports facts n p tables are e =
    e ∙ ap (λ (f : List ℕ → PortFacts). map f ports) (fun_ext (λ port. facts_are flat rules name index.supplies l port (tables.supplies_are port) are))
    ∙ ap₂ (λ (m : List ℕ) (ps : List (List ℕ)). map (port_facts flat rules m) ps) n p

made : {X Y Z : Type 0} (h : Y → Option Z) (f : X → Y) (xs : List X) → filter_map h (map f xs) ≡ filter_map (λ x. h (f x)) xs
made h f [] = refl
made h f (x ∷ xs) = ap (cons_option (h (f x))) (made h f xs)

signals_are : (flat : FlatModel) (rules : Rules) (cell : Cell) (facts : List PortFacts) → facts ≡ all_facts flat rules cell → filter_map signal_paired facts ≡ paired_signals flat rules cell
signals_are flat rules cell facts e = ap (filter_map signal_paired) e ∙ made signal_paired (port_facts flat rules cell.name) cell.ports

clocks_are : (flat : FlatModel) (rules : Rules) (cell : Cell) (facts : List PortFacts) (test : ℕ → Bool) → facts ≡ all_facts flat rules cell → test ≡ has_number (paired_signals flat rules cell)
    → filter_map clock_carried facts ++ clocked_without_port flat rules test (flat.inputs ++ flat.clocks) ≡ clocked_signals flat rules cell
clocks_are flat rules cell facts test e same =
    ap₂ (λ (xs : List ClockedSignal) (t : ℕ → Bool). xs ++ clocked_without_port flat rules t (flat.inputs ++ flat.clocks)) (ap (filter_map clock_carried) e ∙ made clock_carried (port_facts flat rules cell.name) cell.ports) same

pub paired_are : (flat : FlatModel) (rules : Rules) (cell : Cell) (lookups : Lookups) (facts facts' : List PortFacts) (interface_list outputs_list : List ℕ) (counts : Counts) (clocked clocked' : List ClockedSignal) (carried outputs : NumberSet)
    → interface_list ≡ interface flat → facts ≡ all_facts flat rules cell → facts' ≡ facts → AreCounts (filter_map signal_paired facts') counts
    → clocked ≡ filter_map clock_carried facts' ++ clocked_without_port flat rules (has_in counts.once) (flat.inputs ++ flat.clocks) → clocked' ≡ clocked → IsSetOf (carriers clocked') carried
    → outputs_list ≡ flat.outputs → IsSetOf outputs_list outputs
    → ArePaired flat rules cell (record { lookups = lookups; facts = facts; interface = interface_list; outputs = outputs; counts = counts; clocked = clocked; carriers = carried })
paired_are flat rules cell lookups facts facts' interface_list outputs_list counts clocked clocked' carried outputs i f f' k c c' b o p =
    let paired : filter_map signal_paired facts' ≡ paired_signals flat rules cell = signals_are flat rules cell facts' (f' ∙ f) in
    let once : (n : ℕ) → has_in counts.once n ≡ has_number (paired_signals flat rules cell) n = λ n. k.once n ∙ ap (λ (xs : List ℕ). has_number xs n) paired in
    let clocks : clocked ≡ clocked_signals flat rules cell = c ∙ clocks_are flat rules cell facts' (has_in counts.once) (f' ∙ f) (fun_ext once) in
    record {
      facts = f;
      interface = i;
      outputs = λ n. p n ∙ ap (λ (xs : List ℕ). has_number xs n) o;
      once = once;
      again = λ n. k.again n ∙ ap (λ (xs : List ℕ). nat_lt 1 (count_by (λ other. other == n) xs)) paired;
      clocked = clocks;
      carriers = λ n. b n ∙ ap (λ (xs : List ClockedSignal). has_number (carriers xs) n) (c' ∙ clocks);
    }

-- ---- what stands in the way

role_is : (flat : FlatModel) (s : Option Bool) (c : Option ClockRef) (g : Option ℕ) → role_from (has_number flat.outputs) s c g ≡ role_by flat s c g
role_is flat (Some value) c g = refl
role_is flat None (Some clock) g = refl
role_is flat None None (Some s) = refl
role_is flat None None None = refl

-- whether more than one port pairs with a signal
abbrev is_shared : FlatModel → Rules → Cell → ℕ → Bool
is_shared flat rules cell s = nat_lt 1 (count_by (λ other. other == s) (paired_signals flat rules cell))

way_of_port : (flat : FlatModel) (rules : Rules) (cell : Cell) (port : List ℕ) → is_in_way (has_number flat.outputs) (is_shared flat rules cell) (port_facts flat rules cell.name port) ≡ is_port_in_way flat rules cell port
way_of_port flat rules cell port =
    let f : PortFacts = port_facts flat rules cell.name port in
    ap (λ (role : Option PortRole). is_none role || (not (is_some f.supply) && not f.is_ruled && f.fits_again) || unwrap_or (option_map (is_shared flat rules cell) (signal_paired f)) false || (f.is_ruled && is_none f.signal)
    || (is_some f.clock && (is_some f.supply || unwrap_or (option_map (has_number flat.outputs) (signal_paired f)) false)) || (unwrap_or (option_map (has_number flat.outputs) (signal_paired f)) false && f.is_assumed))
    (role_is flat f.supply f.clock f.signal)

found_at : {X Y : Type 0} (p : X → Bool) (q : Y → Bool) (f : X → Y) (xs : List X) → ((x : X) → q (f x) ≡ p x) → option_and_then (slice_get xs) (position q (map f xs)) ≡ find p xs
found_at p q f [] same = refl
found_at {X} p q f (x ∷ xs) same =
    ap (option_and_then (slice_get (x ∷ xs))) (place_cons q (f x) (map f xs)) ∙ ap (λ (b : Bool). option_and_then (slice_get (x ∷ xs)) (cond b (Some 0) (option_map suc (position q (map f xs))))) (same x)
    ∙ by_test (p x) (position q (map f xs)) (find p xs) (found_at p q f xs same) where
      by_test : (b : Bool) (o : Option ℕ) (r : Option X) → option_and_then (slice_get xs) o ≡ r → option_and_then (slice_get (x ∷ xs)) (cond b (Some 0) (option_map suc o)) ≡ cond b (Some x) r
      by_test true o r e = refl
      by_test false None r e = e
      by_test false (Some i) r e = e

-- the port in the way
port_is : (flat : FlatModel) (rules : Rules) (cell : Cell) (p : Paired) → ArePaired flat rules cell p → option_and_then (slice_get cell.ports) (port_in_way p) ≡ find (is_port_in_way flat rules cell) cell.ports
port_is flat rules cell p are =
    ap₂ (λ (out : ℕ → Bool) (shared : ℕ → Bool). option_and_then (slice_get cell.ports) (position (is_in_way out shared) p.facts)) (fun_ext are.outputs) (fun_ext are.again)
    ∙ ap (λ (facts : List PortFacts). option_and_then (slice_get cell.ports) (position (is_in_way (has_number flat.outputs) (is_shared flat rules cell)) facts)) are.facts
    ∙ found_at (is_port_in_way flat rules cell) (is_in_way (has_number flat.outputs) (is_shared flat rules cell)) (port_facts flat rules cell.name) cell.ports (way_of_port flat rules cell)

-- the signal in the way
signal_is : (flat : FlatModel) (rules : Rules) (cell : Cell) (p : Paired) → ArePaired flat rules cell p → signal_in_way p ≡ find (is_signal_in_way flat rules cell) (interface flat)
signal_is flat rules cell p are =
    ap₂ (λ (once : ℕ → Bool) (carried : ℕ → Bool). find (λ s. not (once s) && not (carried s)) p.interface) (fun_ext are.once) (fun_ext are.carriers)
    ∙ ap (find (λ s. not (has_number (paired_signals flat rules cell) s) && not (has_number (carriers (clocked_signals flat rules cell)) s))) are.interface

-- the way of a cell by its number
pub way_is : (design : Design) (k : ℕ) (flat : FlatModel) (rules : Rules) (cell : Cell) (p : Paired) → cell ≡ cell_at design k → ArePaired flat rules cell p → way_in flat cell.ports p ≡ ports_fault design k flat rules
unfolding ports_fault
way_is design k flat rules cell p same are =
    ap₂ (λ (a : Option (List ℕ)) (b : Option ℕ). option_or a (option_map (signal_name flat) b)) (port_is flat rules cell p are) (signal_is flat rules cell p are)
    ∙ ap (λ (c : Cell). option_or (find (is_port_in_way flat rules c) c.ports) (option_map (signal_name flat) (find (is_signal_in_way flat rules c) (interface flat)))) same

-- the output that is an input
pub output_is : (flat : FlatModel) (rules : Rules) (cell : Cell) (p : Paired) → ArePaired flat rules cell p
    → output_in flat p ≡ output_is_input flat
output_is flat rules cell p are =
    ap (option_map (signal_name flat)) (sym (find-append (has_in p.outputs) flat.inputs flat.clocks) ∙ ap (λ (test : ℕ → Bool). find test (flat.inputs ++ flat.clocks)) (fun_ext are.outputs))

-- ---- the pairing

roles_are : (flat : FlatModel) (rules : Rules) (cell : Cell) (p : Paired) → ArePaired flat rules cell p → filter_map (role_in (has_in p.outputs)) p.facts ≡ filter_map (role_of flat rules cell.name) cell.ports
roles_are flat rules cell p are =
    ap₂ (λ (out : ℕ → Bool) (facts : List PortFacts). filter_map (role_in out) facts) (fun_ext are.outputs) are.facts ∙ made (role_in (has_number flat.outputs)) (port_facts flat rules cell.name) cell.ports
    ∙ ap (λ (f : List ℕ → Option PortRole). filter_map f cell.ports) (fun_ext (λ port. role_is flat (supply_of rules port) (clock_of_port rules cell.name port) (port_facts flat rules cell.name port).signal))

same_pairing : (model : ℕ) (a b : List PortRole) (c d : List ClockedSignal) → a ≡ b → c ≡ d
    → (let one : Pairing = record { model = model; ports = a; clocked = c } in one) ≡ (let one : Pairing = record { model = model; ports = b; clocked = d } in one)
same_pairing model a b c d e f = cc

pub pairing_is : (design : Design) (k model : ℕ) (flat : FlatModel) (rules : Rules) (cell : Cell) (p : Paired) (roles : List PortRole) → cell ≡ cell_at design k → ArePaired flat rules cell p
    → roles ≡ filter_map (role_in (has_in p.outputs)) p.facts → (let one : Pairing = record { model = model; ports = roles; clocked = p.clocked } in one) ≡ pairing_of design k model flat rules
unfolding pairing_of
pairing_is design k model flat rules cell p roles same are e =
    same_pairing model roles (filter_map (role_of flat rules cell.name) cell.ports) p.clocked (clocked_signals flat rules cell) (e ∙ roles_are flat rules cell p are) are.clocked
    ∙ ap (λ (c : Cell). let one : Pairing = record { model = model; ports = filter_map (role_of flat rules c.name) c.ports; clocked = clocked_signals flat rules c } in one) same
