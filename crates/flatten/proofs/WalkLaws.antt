-- What is told of the unrolled cells of a cell, without numbers of nets.
use Rattle.std.proofs.Common.{◌≡◌, ◌<◌, ◌≤◌, ◌+◌, ◌∷◌, ◌&&◌, [], ℕ, zero, suc, List, Bool, true, false, not, cond, length, get_or, drop, map, Option, Some, None, option_map, refl, ap, ap₂, sym, subst, ◌∙◌, arith}
use Rattle.std.specs.Prelude.{bytes_eq, find, flat_map, is_none, is_some, slice_get, unwrap_or, ◌==◌}
use Rattle.std.specs.Option.{option_or}
use Rattle.std.proofs.lemmas.Bool.{eqb-true}
use Rattle.std.proofs.lemmas.Bool.Decides.{nat_tests}
use Rattle.std.proofs.lemmas.Grind.{flat_map-append}
use Rattle.std.proofs.lemmas.List.{append-nil, drop_all, drop_more}
use Rattle.std.proofs.lemmas.List.Folds.{find-append}
use Rattle.std.proofs.lemmas.Option.{slice_get_within}
use Rattle.names.proofs.ApartLaws.{apart_named}
use Rattle.flatten.proofs.CellTests.{cell_there}
use Rattle.flatten.specs.NetTables.{Supplies}
use Rattle.flat_devices.specs.DeviceTables.{first_some}
use Rattle.flatten.specs.Walks.{AreNumbered, are_apart, card_without_kind, first_card, first_tie, has_no_kind, is_apart, own_tie, port_supply, spot_by, spot_in, supply_at, tie_from, tied_supply, top_spot}
use Rattle.rule_index.specs.Firsts.{value_in}
use Rattle.name_tables.specs.declared.firsts.FirstValues.{FirstValues}
use Rattle.rule_index.specs.declared.models.ModelTable.{ModelTable}
use Rattle.flatten.specs.declared.ties.Spot.{Spot}
use Rattle.names.specs.Names.{with_names}
use Rattle.vrt_model.specs.CellRules.{supply_of}
use Rattle.vrt_model.specs.Comparison.{cell_at, port_nets_from}
use Rattle.vrt_model.specs.Inputs.{AllApart, IsDesign}
use Rattle.vrt_model.specs.Lists.{differ, path_name, place_of}
use Rattle.vrt_model.specs.Unrolled.{Place, Top, all_places, cell_named, first_global, global_net, globals_of, instances_at, instances_from, net_at, own_count, own_net, own_nets, path_text, places_in, port_net, supply_net, top_cell, top_place}
use Rattle.vrt_model.specs.Unsupported.{is_tied_apart, supply_tie}
use Rattle.vrt_model.specs.declared.design.Cell.{Cell}
use Rattle.vrt_model.specs.declared.design.Design.{Design}
use Rattle.vrt_model.specs.declared.design.DeviceCard.{DeviceCard}
use Rattle.vrt_model.specs.declared.design.InstanceCard.{InstanceCard}
use Rattle.vrt_model.proofs.Tests.{map_or}
use Rattle.rule_index.proofs.FirstNotes.{or_none}

-- ---- cells

-- the ports of a cell do not repeat
cell_apart : (design : Design) (k : ℕ) (found : Cell) → IsDesign design → Some found ≡ slice_get design.cells k → AllApart bytes_eq (cell_at design k).ports
cell_apart design k found read e = (cell_there design.cells k (record { line = 0; name = []; ports = []; devices = []; instances = [] }) read.cells (slice_get_within design.cells k found (sym e))).ports

-- ---- the first that is found of instances

module _ {Y : Type 0} (F : InstanceCard → Option Y) (cards : List InstanceCard) where
  -- those that are left decide
  abbrev pub Left : ℕ → Type 0
  Left i = first_some F (drop i cards) ≡ first_some F cards

  split : (i : ℕ) (card : InstanceCard) → i < length cards → card ≡ get_or cards i card → first_some F (drop i cards) ≡ option_or (F card) (first_some F (drop (i + 1) cards))
  split i card lt is =
      ap (first_some F) (drop_more cards i card lt) ∙ ap (λ (c : InstanceCard). option_or (F c) (first_some F (drop (i + 1) cards))) (sym is)

  pub none_here : (i : ℕ) (card : InstanceCard) → i < length cards → card ≡ get_or cards i card → F card ≡ None → Left i → Left (i + 1)
  none_here i card lt is none left =
      sym (split i card lt is ∙ ap (λ (o : Option Y). option_or o (first_some F (drop (i + 1) cards))) none) ∙ left

  pub found_here : (i : ℕ) (card : InstanceCard) (y : Y) → i < length cards → card ≡ get_or cards i card → F card ≡ Some y → Left i → Some y ≡ first_some F cards
  found_here i card y lt is some left =
      sym (split i card lt is ∙ ap (λ (o : Option Y). option_or o (first_some F (drop (i + 1) cards))) some) ∙ left

  pub none_left : (i : ℕ) → length cards ≤ i → Left i → None ≡ first_some F cards
  none_left i end left = sym (ap (first_some F) (drop_all i cards end)) ∙ left

-- where no card is
pub no_cards : {Y : Type 0} (F : InstanceCard → Option Y) (cards : List InstanceCard) → (length cards == 0) ≡ true → None ≡ first_some F cards
no_cards F [] e = refl
no_cards F (card ∷ cards) e = absurd (omega (arith, eqb-true (length (card ∷ cards)) 0 e))

cell_found : (design : Design) (k : ℕ) (found : Cell) → Some found ≡ slice_get design.cells k → found ≡ cell_at design k
cell_found design k found e =
    ap (λ (o : Option Cell). unwrap_or o (record { line = 0; name = []; ports = []; devices = []; instances = [] })) e

-- an option that is found there, or is none
pub some_here : {Y : Type 0} (F : InstanceCard → Option Y) (cards : List InstanceCard) (i : ℕ) (card : InstanceCard) (found : Option Y) (b : Bool) → i < length cards → card ≡ get_or cards i card → found ≡ F card
    → b ≡ is_some found → b ≡ true → Left F cards i → found ≡ first_some F cards
some_here F cards i card None b lt is e there t left = cc
some_here F cards i card (Some y) b lt is e there t left = found_here F cards i card y lt is (sym e) left

pub not_here : {Y : Type 0} (F : InstanceCard → Option Y) (cards : List InstanceCard) (i : ℕ) (card : InstanceCard) (found : Option Y) (b : Bool) → i < length cards → card ≡ get_or cards i card → found ≡ F card
    → b ≡ is_some found → b ≡ false → Left F cards i → Left F cards (i + 1)
not_here F cards i card None b lt is e there t left = none_here F cards i card lt is (sym e) left
not_here F cards i card (Some y) b lt is e there t left = cc

pub number_named : (design : Design) (cells : FirstValues ℕ) (n : ℕ) (bytes name : List ℕ) → n ≡ unwrap_or (value_in cells bytes) 0 → bytes ≡ name → AreNumbered design cells → n ≡ cell_named design name
number_named design cells n bytes name e same named =
    e ∙ ap (λ (b : List ℕ). unwrap_or (value_in cells b) 0) same ∙ ap (λ (o : Option ℕ). unwrap_or o 0) (named name)

-- ---- devices

pub found_own : (test : DeviceCard → Bool) (design : Design) (k : ℕ) (found : Cell) (depth : ℕ) (cards : List DeviceCard) (card : DeviceCard) → Some found ≡ slice_get design.cells k
    → cards ≡ found.devices → Some card ≡ find test cards → Some card ≡ first_card test design depth k
found_own test design k found depth cards card e same is = by_depth depth where
  here : find test (cell_at design k).devices ≡ Some card
  here = ap (λ (c : Cell). find test c.devices) (sym (cell_found design k found e)) ∙ ap (find test) (sym same) ∙ sym is

  by_depth : (d : ℕ) → Some card ≡ first_card test design d k
  by_depth zero = sym here
  by_depth (suc d) =
      sym (ap (λ (o : Option DeviceCard). option_or o (first_some (λ (i : InstanceCard). first_card test design d (cell_named design i.cell)) (cell_at design k).instances)) here)

pub none_own : (test : DeviceCard → Bool) (design : Design) (k : ℕ) (found : Cell) (cards : List DeviceCard) → Some found ≡ slice_get design.cells k → cards ≡ found.devices → None ≡ find test cards
    → None ≡ first_card test design 0 k
none_own test design k found cards e same none =
    none ∙ ap (find test) same ∙ ap (λ (c : Cell). find test c.devices) (cell_found design k found e)

-- none of its own: what is in it decides
pub inner_cards : (test : DeviceCard → Bool) (design : Design) (k : ℕ) (found : Cell) (depth below : ℕ) (cards : List DeviceCard) (inner : List InstanceCard) → Some found ≡ slice_get design.cells k
    → cards ≡ found.devices → None ≡ find test cards → inner ≡ found.instances → suc below ≡ depth
    → first_some (λ (i : InstanceCard). first_card test design below (cell_named design i.cell)) inner ≡ first_card test design depth k
inner_cards test design k found depth below cards inner e same none listed deep =
    let F : InstanceCard → Option DeviceCard = λ i. first_card test design below (cell_named design i.cell) in
    let is = cell_found design k found e in
    ap (first_some F) (listed ∙ ap (λ (c : Cell). c.instances) is)
    ∙ ap (λ (o : Option DeviceCard). option_or o (first_some F (cell_at design k).instances)) (none_own test design k found cards e same none)
    ∙ ap (λ (d : ℕ). first_card test design d k) deep

abbrev devices_at : Top → Place → List DeviceCard
devices_at t at = (cell_at t.design at.cell).devices

cards_of_instances : (t : Top) (test : DeviceCard → Bool) (depth : ℕ) (at : Place) → ((p : Place) → find test (flat_map (devices_at t) (places_in t depth p)) ≡ first_card test t.design depth p.cell)
    → (base : ℕ) (cards : List InstanceCard)
    → find test (flat_map (devices_at t) (flat_map (places_in t depth) (instances_from t at depth base cards))) ≡ first_some (λ (i : InstanceCard). first_card test t.design depth (cell_named t.design i.cell)) cards
cards_of_instances t test depth at inner base [] = refl
cards_of_instances t test depth at inner base (i ∷ cards) =
    let m = cell_named t.design i.cell in
    let place : Place = record {
      cell = m;
      path = record { instance = i.name; within = (cell_at t.design at.cell).name } ∷ at.path;
      ports = map (net_at t at) i.nets;
      base = base;
    } in
    let next : ℕ = base + own_count t.design t.rules depth (cell_at t.design m) in
    let rest = flat_map (places_in t depth) (instances_from t at depth next cards) in
    ap (find test) (flat_map-append (devices_at t) (places_in t depth place) rest)
    ∙ find-append test (flat_map (devices_at t) (places_in t depth place)) (flat_map (devices_at t) rest)
    ∙ ap₂ (λ (a b : Option DeviceCard). option_or a b) (inner place) (cards_of_instances t test depth at inner next cards)

cards_of_places : (t : Top) (test : DeviceCard → Bool) (depth : ℕ) (at : Place) → find test (flat_map (devices_at t) (places_in t depth at)) ≡ first_card test t.design depth at.cell
cards_of_places t test zero at = ap (find test) (append-nil (devices_at t at))
cards_of_places t test (suc depth) at =
    find-append test (devices_at t at) (flat_map (devices_at t) (flat_map (places_in t depth) (instances_at t depth at)))
    ∙ ap (option_or (find test (devices_at t at)))
    (cards_of_instances t test depth at (λ p. cards_of_places t test depth p) (at.base + length (own_nets t.design t.rules (cell_at t.design at.cell))) (cell_at t.design at.cell).instances)

pub cards_unrolled : (t : Top) (models : ModelTable) → find (has_no_kind models) (flat_map (λ (at : Place). (cell_at t.design at.cell).devices) (all_places t)) ≡ card_without_kind models t.design t.cell
unfolding all_places card_without_kind
cards_unrolled t models = cards_of_places t (has_no_kind models) 32 (top_place t)

-- ---- which supply a net is

supply_is : (b : Bool) → supply_at (cond b 1 0) ≡ Some b
supply_is true = refl
supply_is false = refl

not_none : (n : ℕ) → 2 ≤ n → (n == 0) ≡ false
not_none n large = grind (arith, nat_tests, large)

not_one : (n : ℕ) → 2 ≤ n → (n == 1) ≡ false
not_one n large = grind (arith, nat_tests, large)

no_supply : (n : ℕ) → 2 ≤ n → supply_at n ≡ None
no_supply n large = ap₂ (λ (x y : Bool). cond x (Some false) (cond y (Some true) None)) (not_none n large) (not_one n large)

at_port : (nets : List ℕ) (k : ℕ) → supply_at (unwrap_or (slice_get nets k) 0) ≡ unwrap_or (slice_get (map supply_at nets) k) (Some false)
at_port [] k = refl
at_port (n ∷ nets) zero = refl
at_port (n ∷ nets) (suc k) = at_port nets k

pub net_supply : (t : Top) (at : Place) (name : List ℕ) → 2 ≤ at.base
    → supply_at (net_at t at name) ≡ tied_supply (supply_of t.rules) (cell_at t.design at.cell).ports (map supply_at at.ports) name
unfolding net_at
net_supply t at name large = by_supply (supply_of t.rules name) where
  cell : Cell
  cell = cell_at t.design at.cell

  by_global : (o : Option ℕ) → supply_at (unwrap_or (option_map (λ (k : ℕ). first_global t + k) o) (own_net t cell at name)) ≡ None
  by_global None = no_supply (own_net t cell at name) (omega (arith, large))
  by_global (Some k) = no_supply (first_global t + k) (omega arith)

  by_port : (o : Option ℕ)
      → supply_at (unwrap_or (option_or (option_map (λ (k : ℕ). unwrap_or (slice_get at.ports k) 0) o) (global_net t name)) (own_net t cell at name)) ≡ port_supply (map supply_at at.ports) o
  by_port None = by_global (place_of (globals_of t) name)
  by_port (Some k) = at_port at.ports k

  by_supply : (o : Option Bool)
      → supply_at (unwrap_or (option_or (option_map supply_net o) (option_or (port_net cell at name) (global_net t name))) (own_net t cell at name))
      ≡ option_or o (port_supply (map supply_at at.ports) (place_of cell.ports name))
  by_supply None = by_port (place_of cell.ports name)
  by_supply (Some value) = supply_is value

-- ---- ties

one_apart : (net : ℕ) (o : Option Bool) → unwrap_or (option_map (λ (value : Bool). not (net == cond value 1 0)) o) false ≡ is_apart o (supply_at net)
one_apart net None = refl
one_apart zero (Some true) = refl
one_apart zero (Some false) = refl
one_apart (suc zero) (Some true) = refl
one_apart (suc zero) (Some false) = refl
one_apart (suc (suc n)) (Some value) =
    by_value value ∙ ap (is_apart (Some value)) (sym (no_supply (suc (suc n)) (omega arith))) where
      by_value : (v : Bool) → not (suc (suc n) == cond v 1 0) ≡ true
      by_value true = ap not (not_one (suc (suc n)) (omega arith))
      by_value false = ap not (not_none (suc (suc n)) (omega arith))

apart_is : (t : Top) (ports : List (List ℕ)) (nets : List ℕ) → is_tied_apart t.rules ports nets ≡ are_apart (supply_of t.rules) ports (map supply_at nets)
apart_is t [] nets = refl
apart_is t (port ∷ ports) [] = refl
apart_is t (port ∷ ports) (net ∷ nets) =
    ap₂ (λ (b c : Bool). cond b true c) (one_apart net (supply_of t.rules port)) (apart_is t ports nets)

-- the checked cell ties none
top_values : (t : Top) (next : ℕ) (ports : List (List ℕ)) → 2 ≤ next → map supply_at (port_nets_from t.rules next ports) ≡ map (supply_of t.rules) ports
top_values t next [] large = refl
top_values t next (port ∷ ports) large = by_supply (supply_of t.rules port) (top_values t (suc next) ports (omega (arith, large))) (top_values t next ports large) where
  by_supply : (o : Option Bool) → map supply_at (port_nets_from t.rules (suc next) ports) ≡ map (supply_of t.rules) ports → map supply_at (port_nets_from t.rules next ports) ≡ map (supply_of t.rules) ports
      → map supply_at (elim o [ None ↦ next ∷ port_nets_from t.rules (suc next) ports | Some value ↦ cond value 1 0 ∷ port_nets_from t.rules next ports ]) ≡ o ∷ map (supply_of t.rules) ports
  by_supply None first second = ap₂ (λ (x : Option Bool) (xs : List (Option Bool)). x ∷ xs) (no_supply next large) first
  by_supply (Some value) first second = ap₂ (λ (x : Option Bool) (xs : List (Option Bool)). x ∷ xs) (supply_is value) second

same_bits : (b : Bool) → differ b b ≡ false
same_bits true = refl
same_bits false = refl

top_apart : (supply : Supplies) (ports : List (List ℕ)) → are_apart supply ports (map supply ports) ≡ false
top_apart supply [] = refl
top_apart supply (port ∷ ports) = ap₂ (λ (b c : Bool). cond b true c) (by_supply (supply port)) (top_apart supply ports) where
  by_supply : (o : Option Bool) → is_apart o o ≡ false
  by_supply None = refl
  by_supply (Some value) = same_bits value

abbrev ties : Top → Place → Bool
ties t at = not (is_none (slice_get at.path 0)) && is_tied_apart t.rules (cell_at t.design at.cell).ports at.ports

abbrev spot_of : Place → Spot
spot_of at = record { cell = at.cell; path = path_text at.path; values = map supply_at at.ports }

abbrev path_of : Place → List ℕ
path_of at = path_text at.path

abbrev own_apart : Top → Place → Bool
own_apart t at = are_apart (supply_of t.rules) (cell_at t.design at.cell).ports (map supply_at at.ports)

net_values : (t : Top) (at : Place) (nets : List (List ℕ)) → 2 ≤ at.base
    → map supply_at (map (net_at t at) nets) ≡ map (tied_supply (supply_of t.rules) (cell_at t.design at.cell).ports (map supply_at at.ports)) nets
net_values t at [] large = refl
net_values t at (net ∷ nets) large =
    ap₂ (λ (x : Option Bool) (xs : List (Option Bool)). x ∷ xs) (net_supply t at net large) (net_values t at nets large)

abbrev Finds : Top → ℕ → Type 0
Finds t depth =
    (p : Place) → 2 ≤ p.base → ties t p ≡ own_apart t p → option_map path_of (find (ties t) (places_in t depth p)) ≡ first_tie t.design (supply_of t.rules) depth (spot_of p)

ties_of_cards : (t : Top) (depth : ℕ) (at : Place) → 2 ≤ at.base → Finds t depth → (base : ℕ) → 2 ≤ base → (cards : List InstanceCard)
    → option_map path_of (find (ties t) (flat_map (places_in t depth) (instances_from t at depth base cards)))
    ≡ first_some (λ (i : InstanceCard). first_tie t.design (supply_of t.rules) depth (spot_in t.design (supply_of t.rules) (spot_of at) i)) cards
ties_of_cards t depth at large inner base high [] = refl
ties_of_cards t depth at large inner base high (i ∷ cards) =
    let m = cell_named t.design i.cell in
    let place : Place = record {
      cell = m;
      path = record { instance = i.name; within = (cell_at t.design at.cell).name } ∷ at.path;
      ports = map (net_at t at) i.nets;
      base = base;
    } in
    let next : ℕ = base + own_count t.design t.rules depth (cell_at t.design m) in
    let rest = flat_map (places_in t depth) (instances_from t at depth next cards) in
    let spot : spot_of place ≡ spot_in t.design (supply_of t.rules) (spot_of at) i =
    ap (λ (vs : List (Option Bool)). let s : Spot = record { cell = m; path = path_name (path_text at.path) i.name; values = vs } in s) (net_values t at i.nets large) in
    ap (option_map path_of) (find-append (ties t) (places_in t depth place) rest)
    ∙ map_or path_of (find (ties t) (places_in t depth place)) (find (ties t) rest)
    ∙ ap₂ (λ (a b : Option (List ℕ)). option_or a b)
    (inner place high (apart_is t (cell_at t.design m).ports place.ports) ∙ ap (first_tie t.design (supply_of t.rules) depth) spot)
    (ties_of_cards t depth at large inner next (omega (arith, high)) cards)

one_found : (b c : Bool) (at : Place) (rest : Option Place) → b ≡ c → option_map path_of (cond b (Some at) rest) ≡ option_or (cond c (Some (path_of at)) None) (option_map path_of rest)
one_found true true at rest e = refl
one_found false false at rest e = refl
one_found true false at rest e = cc
one_found false true at rest e = cc

ties_of_places : (t : Top) (depth : ℕ) → Finds t depth
ties_of_places t zero at large same =
    one_found (ties t at) (own_apart t at) at None same ∙ or_none (own_tie t.design (supply_of t.rules) (spot_of at))
ties_of_places t (suc depth) at large same =
    let cell = cell_at t.design at.cell in
    let base : ℕ = at.base + length (own_nets t.design t.rules cell) in
    one_found (ties t at) (own_apart t at) at (find (ties t) (flat_map (places_in t depth) (instances_at t depth at))) same
    ∙ ap (option_or (own_tie t.design (supply_of t.rules) (spot_of at))) (ties_of_cards t depth at large (ties_of_places t depth) base (omega (arith, large)) cell.instances)

pub ties_unrolled : (t : Top) → tie_from t.design (supply_of t.rules) (top_spot t.design (supply_of t.rules) t.cell) ≡ supply_tie t
unfolding all_places tie_from
ties_unrolled t =
    let ports = (top_cell t).ports in
    let values = top_values t 2 ports (omega arith) in
    let none : own_apart t (top_place t) ≡ false = ap (are_apart (supply_of t.rules) ports) values ∙ top_apart (supply_of t.rules) ports in
    sym (ties_of_places t 32 (top_place t) (omega arith) (sym none)
    ∙ ap (λ (vs : List (Option Bool)). first_tie t.design (supply_of t.rules) 32 (let s : Spot = record { cell = t.cell; path = []; values = vs } in s)) values)

-- ---- the walk over ties

-- an instance by tables is that of the definition
pub spot_is : (design : Design) (cells : FirstValues ℕ) (supply : Supplies) (k : ℕ) (found : Cell) (ports : List (List ℕ)) (at : Spot) (card : InstanceCard) → IsDesign design → AreNumbered design cells
    → Some found ≡ slice_get design.cells at.cell → ports ≡ with_names [] found.ports → spot_by cells supply ports at card ≡ spot_in design supply at card
spot_is design cells supply k found ports at card read named e same =
    let is = cell_found design at.cell found e in
    let once : ports ≡ (cell_at design at.cell).ports =
    same ∙ apart_named found.ports (subst (λ (c : Cell). AllApart bytes_eq c.ports) (sym is) (cell_apart design at.cell found read e)) ∙ ap (λ (c : Cell). c.ports) is in
    ap₂ (λ (m : ℕ) (ps : List (List ℕ)). let s : Spot = record { cell = m; path = path_name at.path card.name; values = map (tied_supply supply ps at.values) card.nets } in s) (ap (λ (o : Option ℕ). unwrap_or o 0) (named card.cell)) once

pub tied_here : (design : Design) (supply : Supplies) (depth : ℕ) (at : Spot) (found : Cell) (ports : List (List ℕ)) (values : List (Option Bool)) (b : Bool) → Some found ≡ slice_get design.cells at.cell
    → ports ≡ found.ports → values ≡ at.values → b ≡ are_apart supply ports values → own_tie design supply at ≡ cond b (Some at.path) None
tied_here design supply depth at found ports values b e same held is =
    ap (λ (x : Bool). cond x (Some at.path) None)
    (sym (is ∙ ap₂ (λ (ps : List (List ℕ)) (vs : List (Option Bool)). are_apart supply ps vs) (same ∙ ap (λ (c : Cell). c.ports) (cell_found design at.cell found e)) held))

pub inner_ties : (design : Design) (supply : Supplies) (depth below : ℕ) (at : Spot) (found : Cell) (inner : List InstanceCard) → Some found ≡ slice_get design.cells at.cell
    → own_tie design supply at ≡ None → inner ≡ found.instances → suc below ≡ depth
    → first_some (λ (i : InstanceCard). first_tie design supply below (spot_in design supply at i)) inner ≡ first_tie design supply depth at
inner_ties design supply depth below at found inner e none listed deep =
    let F : InstanceCard → Option (List ℕ) = λ i. first_tie design supply below (spot_in design supply at i) in
    ap (first_some F) (listed ∙ ap (λ (c : Cell). c.instances) (cell_found design at.cell found e))
    ∙ ap (λ (o : Option (List ℕ)). option_or o (first_some F (cell_at design at.cell).instances)) (sym none)
    ∙ ap (λ (d : ℕ). first_tie design supply d at) deep

pub from_top : (design : Design) (supply : Supplies) (k : ℕ) (path : List ℕ) (ports : List (List ℕ)) (values : List (Option Bool)) (found : Cell) → path ≡ [] → values ≡ map supply ports → ports ≡ found.ports → found ≡ cell_at design k
    → first_tie design supply 32 (record { cell = k; path = path; values = values }) ≡ tie_from design supply (top_spot design supply k)
unfolding tie_from
from_top design supply k path ports values found none e same is =
    ap₂ (λ (p : List ℕ) (vs : List (Option Bool)). first_tie design supply 32 (let s : Spot = record { cell = k; path = p; values = vs } in s)) none
    (e ∙ ap (map supply) (same ∙ ap (λ (c : Cell). c.ports) is))
