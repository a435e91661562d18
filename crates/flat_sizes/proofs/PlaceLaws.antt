-- What is counted over all places of an unrolled cell.
use Rattle.std.proofs.Common.{◌≡◌, ◌+◌, ◌++◌, ◌∷◌, [], ℕ, zero, suc, List, Bool, Option, Some, None, cond, length, map, drop, flat_map, filter, refl, ap, ap₂, sym, ◌∙◌, arith, length-append}
use Rattle.std.specs.Prelude.{is_none, slice_get, unwrap_or}
use Rattle.std.specs.List.{sum_by}
use Rattle.std.proofs.lemmas.List.{length-map}
use Rattle.std.proofs.lemmas.List.Concat.{length-flat_map}
use Rattle.std.proofs.lemmas.List.Sums.{sum_by-cons}
use Rattle.flat_sizes.specs.Totals.{inside, over, within}
use Rattle.vrt_model.specs.CellRules.{supply_of}
use Rattle.vrt_model.specs.Comparison.{cell_at}
use Rattle.vrt_model.specs.FlatCircuit.{flat_device, flat_devices, flat_instance, flat_instances, flat_nets, kind_by, own_flat_nets, plain_net, port_nets_of}
use Rattle.vrt_model.specs.Lists.{path_name}
use Rattle.vrt_model.specs.Unrolled.{Place, Top, all_places, cell_named, globals_of, instances_from, instances_at, net_at, own_count, own_nets, path_text, places_in, top_cell, top_place}
use Rattle.vrt_model.specs.Unsupported.{carried}
use Rattle.vrt_model.specs.declared.circuit.FlatNet.{FlatNet}
use Rattle.vrt_model.specs.declared.design.Cell.{Cell}
use Rattle.vrt_model.specs.declared.design.Design.{Design}
use Rattle.vrt_model.specs.declared.design.InstanceCard.{InstanceCard}
use Rattle.vrt_model.specs.declared.pairing.PortRole.{PortRole}
use Rattle.vrt_model.specs.declared.rules.Rules.{Rules}
use Rattle.vrt_model.proofs.Sums.{sum_flat, sum_same}

-- ---- places

abbrev by_cell : (ℕ → ℕ) → Place → ℕ
by_cell weight at = weight at.cell

in_cards : (t : Top) (weight : ℕ → ℕ) (depth : ℕ) (at : Place)
    → ((p : Place) → sum_by (by_cell weight) (places_in t depth p) ≡ weight p.cell + within t.design weight depth p.cell)
    → (base : ℕ) (cards : List InstanceCard)
    → sum_by (λ (p : Place). sum_by (by_cell weight) (places_in t depth p)) (instances_from t at depth base cards) ≡ over t.design (λ m. weight m + within t.design weight depth m) cards
in_cards t weight depth at inner base [] = refl
in_cards t weight depth at inner base (i ∷ cards) =
    let m = cell_named t.design i.cell in
    let place : Place = record {
      cell = m;
      path = record { instance = i.name; within = (cell_at t.design at.cell).name } ∷ at.path;
      ports = map (net_at t at) i.nets;
      base = base;
    } in
    let next : ℕ = base + own_count t.design t.rules depth (cell_at t.design m) in
    sum_by-cons (λ (p : Place). sum_by (by_cell weight) (places_in t depth p)) place (instances_from t at depth next cards)
    ∙ ap₂ ◌+◌ (inner place) (in_cards t weight depth at inner next cards)
    ∙ sym (sum_by-cons (λ (c : InstanceCard). weight (cell_named t.design c.cell) + within t.design weight depth (cell_named t.design c.cell)) i cards)

in_places : (t : Top) (weight : ℕ → ℕ) (depth : ℕ) (at : Place) → sum_by (by_cell weight) (places_in t depth at) ≡ weight at.cell + within t.design weight depth at.cell
in_places t weight zero at = sum_by-cons (by_cell weight) at []
in_places t weight (suc depth) at =
    let cell = cell_at t.design at.cell in
    sum_by-cons (by_cell weight) at (flat_map (places_in t depth) (instances_at t depth at))
    ∙ ap (λ n. weight at.cell + n)
    (sum_flat (places_in t depth) (by_cell weight) (instances_at t depth at)
    ∙ in_cards t weight depth at (λ p. in_places t weight depth p) (at.base + length (own_nets t.design t.rules cell)) cell.instances)

-- what the cells of all places count
over_all : (t : Top) (weight : ℕ → ℕ) → sum_by (by_cell weight) (all_places t) ≡ weight t.cell + inside t.design weight t.cell
unfolding all_places inside
over_all t weight = in_places t weight 32 (top_place t)

-- ---- instances, devices, nets

count_all : {X : Type 0} (xs : List X) → length xs ≡ sum_by (λ x. 1) xs
count_all [] = refl
count_all (x ∷ xs) = let rest = count_all xs in let more = sum_by-cons (λ x. 1) x xs in omega (arith, rest, more)

length_behind : {X : Type 0} (xs : List X) (n : ℕ) → length xs ≡ 1 + n → length (drop 1 xs) ≡ n
length_behind [] n e = absurd (omega (arith, e))
length_behind (x ∷ xs) n e = omega (arith, e)

pub instances_counted : (t : Top) → length (flat_instances t) ≡ inside t.design (λ k. 1) t.cell
instances_counted t =
    length-map (drop 1 (all_places t)) flat_instance
    ∙ length_behind (all_places t) (inside t.design (λ k. 1) t.cell) (count_all (all_places t) ∙ over_all t (λ k. 1))

pub devices_counted : (t : Top) → length (flat_devices t) ≡ length (top_cell t).devices + inside t.design (λ k. length (cell_at t.design k).devices) t.cell
devices_counted t =
    length-flat_map (λ (at : Place). map (flat_device t at) (cell_at t.design at.cell).devices) (all_places t)
    ∙ sum_same (λ (at : Place). length (map (flat_device t at) (cell_at t.design at.cell).devices)) (by_cell (λ k. length (cell_at t.design k).devices))
    (λ at. length-map (cell_at t.design at.cell).devices (flat_device t at)) (all_places t)
    ∙ over_all t (λ k. length (cell_at t.design k).devices)

owns_counted : (t : Top) → length (flat_map (own_flat_nets t) (all_places t))
    ≡ length (own_nets t.design t.rules (top_cell t)) + inside t.design (λ k. length (own_nets t.design t.rules (cell_at t.design k))) t.cell
owns_counted t =
    length-flat_map (own_flat_nets t) (all_places t)
    ∙ sum_same (λ (at : Place). length (own_flat_nets t at)) (by_cell (λ k. length (own_nets t.design t.rules (cell_at t.design k))))
    (λ at. length-map (own_nets t.design t.rules (cell_at t.design at.cell)) (λ (name : List ℕ). plain_net (path_name (path_text at.path) name))) (all_places t)
    ∙ over_all t (λ k. length (own_nets t.design t.rules (cell_at t.design k)))

ports_counted : (rules : Rules) (names : List (List ℕ)) (roles : List PortRole) → length (port_nets_of rules names roles) ≡ length (filter (λ name. is_none (supply_of rules name)) names)
ports_counted rules [] roles = refl
ports_counted rules (name ∷ names) roles = by_supply (supply_of rules name) (ports_counted rules names (drop 1 roles)) where
  by_supply : (o : Option Bool) → length (port_nets_of rules names (drop 1 roles)) ≡ length (filter (λ name. is_none (supply_of rules name)) names)
      → length {A = FlatNet} (elim o [ None ↦ record { name = name; kind = kind_by (slice_get roles 0) } ∷ port_nets_of rules names (drop 1 roles) | Some value ↦ port_nets_of rules names (drop 1 roles) ])
      ≡ length (cond (is_none o) (name ∷ filter (λ name. is_none (supply_of rules name)) names) (filter (λ name. is_none (supply_of rules name)) names))
  by_supply None e = ap suc e
  by_supply (Some value) e = e

pub nets_counted : (t : Top) → length (flat_nets t)
    ≡ length (filter (λ name. is_none (supply_of t.rules name)) (top_cell t).ports) + length (globals_of t)
    + length (own_nets t.design t.rules (top_cell t)) + inside t.design (λ k. length (own_nets t.design t.rules (cell_at t.design k))) t.cell + 2
nets_counted t =
    let ports = port_nets_of t.rules (top_cell t).ports t.roles in
    let globals = map plain_net (globals_of t) in
    let own = flat_map (own_flat_nets t) (all_places t) in
    let a = length-append (ports ++ globals) own in
    let b = length-append ports globals in
    let p = ports_counted t.rules (top_cell t).ports t.roles in
    let g = length-map (globals_of t) plain_net in
    let o = owns_counted t in
    omega (arith, a, b, p, g, o)

-- a cell that is not there has none
pub no_nets : (design : Design) (rules : Rules) (k : ℕ) → slice_get design.cells k ≡ None → 0 ≡ carried (length (own_nets design rules (cell_at design k)))
unfolding own_nets
no_nets design rules k e =
    let f : Option Cell → ℕ = λ o. carried (length (own_nets design rules (unwrap_or o (record { line = 0; name = []; ports = []; devices = []; instances = [] })))) in ap f (sym e)
