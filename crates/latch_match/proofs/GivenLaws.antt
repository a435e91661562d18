-- What a call on a cell gives: the pairing with its roles, or what stands in the way.
use Rattle.std.proofs.Common.{◌≡◌, ◌<◌, ◌↔◌, ◌∷◌, ◌⊎◌, inl, inr, [], ℕ, zero, suc, List, Bool, true, false, cond, length, Option, Some, None, option_map, refl, ap, sym, subst, ◌∙◌}
use Rattle.std.specs.Prelude.{MatchResult, bytes_eq, ◌&&◌, filter_map, find, is_some, is_none, Result, Ok, Err}
use Rattle.std.specs.List.{cons_option}
use Rattle.std.specs.Option.{option_or}
use Rattle.std.proofs.lemmas.Bool.{or_parts}
use Rattle.vrt_model.proofs.Members.{all_among, find_among}
use Rattle.vrt_model.specs.CellRules.{clock_of_port, supply_of}
use Rattle.vrt_model.specs.Comparison.{cell_at}
use Rattle.vrt_model.specs.Inputs.{AreRules}
use Rattle.vrt_model.specs.Lists.{At, has_number}
use Rattle.vrt_model.specs.PairedPorts.{HasRoles, is_port_in_way, output_is_input, pairing_of, ports_fault, role_by, role_of, signal_of_port}
use Rattle.vrt_model.specs.declared.design.Cell.{Cell}
use Rattle.vrt_model.specs.declared.design.Design.{Design}
use Rattle.vrt_model.specs.declared.flat_model.FlatModel.{FlatModel}
use Rattle.vrt_model.specs.declared.pairing.Pairing.{Pairing}
use Rattle.vrt_model.specs.declared.pairing.PortRole.{PortRole}
use Rattle.vrt_model.specs.declared.pairing.PortRole.TheVariants.{Supply, Clock, Input, Output}
use Rattle.vrt_model.specs.declared.rules.ClockRef.{ClockRef}
use Rattle.vrt_model.specs.declared.rules.ClockportRule.{ClockportRule}
use Rattle.vrt_model.specs.declared.rules.Rules.{Rules}
use Rattle.latch_match.specs.Facts.{role_in}
use Rattle.latch_match.specs.Marked.{has_in}
use Rattle.latch_match.specs.Paired.{ArePaired, PairGives, Tells, output_in, way_in}
use Rattle.latch_match.specs.declared.faults.PairFault.{PairFault}
use Rattle.latch_match.specs.declared.faults.PairFault.TheVariants.{Ports, OutputIsInput, NoMemory}
use Rattle.latch_match.specs.declared.signals.Paired.{Paired}
use Rattle.latch_match.proofs.PairedLaws.{output_is, pairing_is, way_is}

-- ---- faults

pub tells_ports : (way output : Option (List ℕ)) (name : List ℕ) (fault : PairFault) → Some name ≡ way → (fault ≡ NoMemory) ⊎ (fault ≡ Ports name) → Tells way output (Some fault)
tells_ports way output name fault e (inl f) = subst (λ (x : PairFault). Tells way output (Some x)) (sym f) tt
tells_ports way output name fault e (inr f) = subst (λ (x : PairFault). Tells way output (Some x)) (sym f) (sym e)

pub tells_output : (way output : Option (List ℕ)) (name : List ℕ) (fault : PairFault) → way ≡ None → Some name ≡ output → (fault ≡ NoMemory) ⊎ (fault ≡ OutputIsInput name) → Tells way output (Some fault)
tells_output way output name fault n e (inl f) = subst (λ (x : PairFault). Tells way output (Some x)) (sym f) tt
tells_output way output name fault n e (inr f) = subst (λ (x : PairFault). Tells way output (Some x)) (sym f) (n, sym e)

-- what is told of the parts is told of the cell
told : (design : Design) (k : ℕ) (flat : FlatModel) (rules : Rules) (cell : Cell) (p : Paired) (ports : List (List ℕ)) (fault : Option PairFault) → cell ≡ cell_at design k → ports ≡ cell.ports → ArePaired flat rules cell p
    → Tells (way_in flat ports p) (output_in flat p) fault → Tells (ports_fault design k flat rules) (output_is_input flat) fault
told design k flat rules cell p ports fault same e are t =
    subst (λ (out : Option (List ℕ)). Tells (ports_fault design k flat rules) out fault) (output_is flat rules cell p are)
    (subst (λ (way : Option (List ℕ)). Tells way (output_in flat p) fault) (ap (λ (ps : List (List ℕ)). way_in flat ps p) e ∙ way_is design k flat rules cell p same are) t)

pub gives_fault : (design : Design) (k : ℕ) (flat : FlatModel) (rules : Rules) (cell : Cell) (p : Paired) (ports : List (List ℕ)) (fault : PairFault) → cell ≡ cell_at design k → ports ≡ cell.ports → ArePaired flat rules cell p
    → Tells (way_in flat ports p) (output_in flat p) (Some fault) → Tells (ports_fault design k flat rules) (output_is_input flat) (Some fault)
gives_fault design k flat rules cell p ports fault same e are t = told design k flat rules cell p ports (Some fault) same e are t

-- ---- roles

none_here : {X : Type 0} (b : Bool) (x : X) (o : Option X) → cond b (Some x) o ≡ None → (b ≡ false) × (o ≡ None)
none_here true x o e = cc
none_here false x o e = (refl, e)

given_all : {X Y : Type 0} (h : X → Option Y) (bad : X → Bool) (xs : List X) → ((x : X) → bad x ≡ false → is_some (h x) ≡ true) → find bad xs ≡ None → length (filter_map h xs) ≡ length xs
given_all h bad [] good e = refl
given_all {X} {Y} h bad (x ∷ xs) good e =
    let n = none_here (bad x) x (find bad xs) e in by_case (h x) (good x n.0) (filter_map h xs) (given_all h bad xs good n.1) where
      by_case : (o : Option Y) → is_some o ≡ true → (ys : List Y) → length ys ≡ length xs → length (cons_option o ys) ≡ suc (length xs)
      by_case None s ys l = cc
      by_case (Some y) s ys l = ap suc l

given_at : {X Y : Type 0} (h : X → Option Y) (bad : X → Bool) (xs : List X) → ((x : X) → bad x ≡ false → is_some (h x) ≡ true) → find bad xs ≡ None → (i : ℕ) (x : X) (y : Y) → At xs i x → At (filter_map h xs) i y → h x ≡ Some y
given_at h bad [] good e i x y a b = cc
given_at {X} {Y} h bad (z ∷ xs) good e i x y a b =
    let n = none_here (bad z) z (find bad xs) e in by_case (h z) refl (good z n.0) (λ j. given_at h bad xs good n.1 j x y) i a b where
      by_case : (o : Option Y) → h z ≡ o → is_some o ≡ true → ((j : ℕ) → At xs j x → At (filter_map h xs) j y → h x ≡ Some y) → (j : ℕ) → At (z ∷ xs) j x → At (cons_option o (filter_map h xs)) j y → h x ≡ Some y
      by_case None same s below j a b = cc
      by_case (Some w) same s below zero a b = let v : z ≡ x = cc in ap h (sym v) ∙ same ∙ b
      by_case (Some w) same s below (suc j) a b = below j a b

given_by : {X Y : Type 0} (h : X → Option Y) (xs : List X) (i : ℕ) (y : Y) → At (filter_map h xs) i y → (x : X) × (h x ≡ Some y)
given_by h [] i y a = cc
given_by {X} {Y} h (x ∷ xs) i y a = by_case (h x) refl (λ j b. given_by h xs j y b) i a where
  by_case : (o : Option Y) → h x ≡ o → ((j : ℕ) → At (filter_map h xs) j y → (z : X) × (h z ≡ Some y)) → (j : ℕ) → At (cons_option o (filter_map h xs)) j y → (z : X) × (h z ≡ Some y)
  by_case None same below j b = below j b
  by_case (Some w) same below zero b = (x, same ∙ b)
  by_case (Some w) same below (suc j) b = below j b

-- a port that is not in the way has a role
not_none : {X : Type 0} (o : Option X) → is_none o ≡ false → is_some o ≡ true
not_none None e = cc
not_none (Some x) e = refl

has_role : (flat : FlatModel) (rules : Rules) (cell : Cell) (port : List ℕ) → is_port_in_way flat rules cell port ≡ false → is_some (role_of flat rules cell.name port) ≡ true
has_role flat rules cell port e =
    not_none (role_of flat rules cell.name port) (or_parts _ _ (or_parts _ _ (or_parts _ _ (or_parts _ _ (or_parts _ _ e).0).0).0).0).0

supply_role : (flat : FlatModel) (s : Option Bool) (c : Option ClockRef) (g : Option ℕ) (role : PortRole) (value : Bool) → role_by flat s c g ≡ Some role → (role ≡ Supply value) ↔ (s ≡ Some value)
supply_role flat (Some v) c g role value e = ((λ f. cc), (λ f. cc))
supply_role flat None (Some clock) g role value e = ((λ f. cc), (λ f. cc))
supply_role flat None None (Some n) role value e = ((λ f. absurd (no_supply (has_number flat.outputs n) e f)), (λ f. cc)) where
  no_supply : (b : Bool) → Some (cond b (Output n) (Input n)) ≡ Some role → role ≡ Supply value → ⊥
  no_supply true e f = cc
  no_supply false e f = cc
supply_role flat None None None role value e = cc

clock_role : (flat : FlatModel) (s : Option Bool) (c : Option ClockRef) (g : Option ℕ) (clock : ClockRef) → role_by flat s c g ≡ Some (Clock clock) → c ≡ Some clock
clock_role flat (Some v) c g clock e = cc
clock_role flat None (Some k) g clock e = let f : k ≡ clock = cc in ap Some f
clock_role flat None None (Some n) clock e = absurd (no_clock (has_number flat.outputs n) e) where
  no_clock : (b : Bool) → Some (cond b (Output n) (Input n)) ≡ Some (Clock clock) → ⊥
  no_clock true e = cc
  no_clock false e = cc
clock_role flat None None None clock e = cc

-- the clock of a rule is one of those that are declared
clock_there : (rules : Rules) (o : Option ClockportRule) (clock : ClockRef) → ((r : ClockportRule) → o ≡ Some r → r.clock.clock < length rules.clocks) → option_map (λ (r : ClockportRule). r.clock) o ≡ Some clock → clock.clock < length rules.clocks
clock_there rules None clock all e = cc
clock_there rules (Some r) clock all e = let f : r.clock ≡ clock = cc in subst (λ (c : ClockRef). c.clock < length rules.clocks) f (all r refl)

clock_in_range : (rules : Rules) (cell port : List ℕ) (clock : ClockRef) → AreRules rules → clock_of_port rules cell port ≡ Some clock → clock.clock < length rules.clocks
clock_in_range rules cell port clock are e =
    let test : ClockportRule → Bool = λ (r : ClockportRule). bytes_eq r.cell cell && bytes_eq r.port port in
    clock_there rules (find test rules.clockports) clock
    (λ r f. all_among (λ (r : ClockportRule). r.clock.clock < length rules.clocks) rules.clockports r are.clockport_clocks (find_among test rules.clockports r f).0) e

roles_of_cell : (flat : FlatModel) (rules : Rules) (cell : Cell) (pairing : Pairing) → AreRules rules → find (is_port_in_way flat rules cell) cell.ports ≡ None → pairing.ports ≡ filter_map (role_of flat rules cell.name) cell.ports → HasRoles rules cell pairing
roles_of_cell flat rules cell pairing are none e =
    let h : List ℕ → Option PortRole = role_of flat rules cell.name in
    let bad : List ℕ → Bool = is_port_in_way flat rules cell in
    record {
      each = ap length e ∙ given_all h bad cell.ports (has_role flat rules cell) none;
      supplies = λ at name role value a b.
          supply_role flat (supply_of rules name) (clock_of_port rules cell.name name) (signal_of_port flat rules cell.name name) role value
          (given_at h bad cell.ports (has_role flat rules cell) none at name role a (subst (λ (rs : List PortRole). At rs at role) e b));
      clocks = λ at clock b.
          let g = given_by h cell.ports at (Clock clock) (subst (λ (rs : List PortRole). At rs at (Clock clock)) e b) in
          clock_in_range rules cell.name g.0 clock are (clock_role flat (supply_of rules g.0) (clock_of_port rules cell.name g.0) (signal_of_port flat rules cell.name g.0) clock g.1);
    }

none_of_two : {X : Type 0} (o p : Option X) → option_or o p ≡ None → o ≡ None
none_of_two None p e = refl
none_of_two (Some x) p e = cc

-- where nothing is in the way, no port is
no_port : (design : Design) (k : ℕ) (flat : FlatModel) (rules : Rules) → ports_fault design k flat rules ≡ None → find (is_port_in_way flat rules (cell_at design k)) (cell_at design k).ports ≡ None
unfolding ports_fault
no_port design k flat rules e = none_of_two (find (is_port_in_way flat rules (cell_at design k)) (cell_at design k).ports) _ e

ports_are : (design : Design) (k model : ℕ) (flat : FlatModel) (rules : Rules) → (pairing_of design k model flat rules).ports ≡ filter_map (role_of flat rules (cell_at design k).name) (cell_at design k).ports
unfolding pairing_of
ports_are design k model flat rules = refl

pub gives_pairing : (design : Design) (k model : ℕ) (flat : FlatModel) (rules : Rules) (cell : Cell) (p : Paired) (ports : List (List ℕ)) (result : Result Pairing PairFault) → cell ≡ cell_at design k → ports ≡ cell.ports
    → ArePaired flat rules cell p → Tells (way_in flat ports p) (output_in flat p) None
    → MatchResult result (λ (q : Pairing). q ≡ record { model = model; ports = filter_map (role_in (has_in p.outputs)) p.facts; clocked = p.clocked }) (λ (f : PairFault). f ≡ NoMemory)
    → PairGives design k model flat rules result
gives_pairing design k model flat rules cell p ports (Err fault) same e are t m =
    subst (λ (x : PairFault). Tells (ports_fault design k flat rules) (output_is_input flat) (Some x)) (sym m) tt
gives_pairing design k model flat rules cell p ports (Ok pairing) same e are t m =
    let none = told design k flat rules cell p ports None same e are t in
    let is : pairing ≡ pairing_of design k model flat rules = m ∙ pairing_is design k model flat rules cell p (filter_map (role_in (has_in p.outputs)) p.facts) same are refl in
    record {
      ports = none.0;
      outputs = none.1;
      is = is;
      roles = λ rs. roles_of_cell flat rules (cell_at design k) pairing rs (no_port design k flat rules none.0) (ap (λ (q : Pairing). q.ports) is ∙ ports_are design k model flat rules);
    }
