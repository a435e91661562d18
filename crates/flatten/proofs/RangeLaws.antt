-- The flat nets of an unrolled cell are in range.
use Rattle.std.proofs.Common.{◌≡◌, ◌<◌, ◌≤◌, ◌+◌, ◌∷◌, ◌&&◌, ◌||◌, [], ℕ, zero, suc, not, cond, List, Bool, true, false, map, flat_map, length, Option, Some, None, refl, ap, ap₂, sym, subst, ◌∙◌, arith}
use Rattle.std.specs.Prelude.{bytes_eq, filter, is_none, is_some, option_map, slice_get, unwrap_or}
use Rattle.std.specs.Option.{option_or}
use Rattle.std.proofs.lemmas.Bool.{or_right}
use Rattle.std.proofs.lemmas.Option.{none-some, same_Some}
use Rattle.std.proofs.lemmas.Slice.Eq.{bytes_eq-Decides}
use Rattle.names.proofs.FilterLaws.{has_name_filter}
use Rattle.names.proofs.NameLaws.{once_has_same}
use Rattle.names.proofs.PlaceLaws.{any_placed, placed_within}
use Rattle.net_places.proofs.WholeLaws.{nets_total, room_of}
use Rattle.net_tables.proofs.PlaceNetLaws.{global_among}
use Rattle.net_tables.specs.Places.{is_net_of}
use Rattle.vrt_model.proofs.Members.{among_any, among_flat_map, among_later, among_left, among_map, among_right, flat_map_among}
use Rattle.vrt_model.specs.CellRules.{supply_of}
use Rattle.vrt_model.specs.Comparison.{cell_at, port_nets_from}
use Rattle.vrt_model.specs.FlatCircuit.{flat_nets}
use Rattle.vrt_model.specs.Lists.{Among, has_name, place_of}
use Rattle.vrt_model.specs.Unrolled.{Place, Top, all_places, cell_named, deepest, first_global, globals_of, instances_at, instances_from, is_global_in, is_own, mentions, net_at, own_count, own_net, own_nets, places_in, supply_net, top_cell, top_place}
use Rattle.vrt_model.specs.declared.design.Cell.{Cell}
use Rattle.vrt_model.specs.declared.design.DeviceCard.{DeviceCard}
use Rattle.vrt_model.specs.declared.design.InstanceCard.{InstanceCard}
use Rattle.vrt_model.specs.declared.rules.Rules.{Rules}

-- ---- names on cards

named : (cell : Cell) (name : List ℕ) → Among (mentions cell) name → is_net_of cell name ≡ true
named cell name m = or_right (has_name cell.ports name) (has_name (mentions cell) name) (among_any (bytes_eq name) (mentions cell) name m ((bytes_eq-Decides name name).1 refl))

-- a net of a device, and one of an instance, is a net of the cell
pub device_named : (cell : Cell) (card : DeviceCard) (name : List ℕ) → Among cell.devices card → Among (card.drain ∷ card.gate ∷ card.source ∷ []) name → is_net_of cell name ≡ true
device_named cell card name m on =
    named cell name
    (among_left (flat_map (λ (d : DeviceCard). d.drain ∷ d.gate ∷ d.source ∷ []) cell.devices) (flat_map (λ (i : InstanceCard). i.nets) cell.instances) name
    (flat_map_among (λ (d : DeviceCard). d.drain ∷ d.gate ∷ d.source ∷ []) cell.devices card name m on))

instance_named : (cell : Cell) (card : InstanceCard) (name : List ℕ) → Among cell.instances card → Among card.nets name → is_net_of cell name ≡ true
instance_named cell card name m on =
    named cell name
    (among_right (flat_map (λ (d : DeviceCard). d.drain ∷ d.gate ∷ d.source ∷ []) cell.devices) (flat_map (λ (i : InstanceCard). i.nets) cell.instances) name
    (flat_map_among (λ (i : InstanceCard). i.nets) cell.instances card name m on))

module _ (t : Top) where
  abbrev count : ℕ
  count = length (flat_nets t)

  abbrev AreIn : List ℕ → Type 0
  AreIn nets = (n : ℕ) → Among nets n → n < count

  -- ---- the net of a name

  module _ (at : Place) (name : List ℕ) where
    abbrev cell : Cell
    cell = cell_at t.design at.cell

    -- a name that is no supply, no port and no global net of the checked cell is an own net
    own_placed : Among (all_places t) at → is_net_of cell name ≡ true → supply_of t.rules name ≡ None → place_of cell.ports name ≡ None → place_of (globals_of t) name ≡ None
        → is_some (place_of (own_nets t.design t.rules cell) name) ≡ true
    unfolding all_places own_nets
    own_placed m is s p g = by_global (has_name t.design.globals name) refl where
      no_port : has_name cell.ports name ≡ false
      no_port = any_placed (bytes_eq name) cell.ports ∙ ap is_some p

      on_card : has_name (mentions cell) name ≡ true
      on_card = ap (λ (b : Bool). b || has_name (mentions cell) name) (sym no_port) ∙ is

      by_global : (b : Bool) → has_name t.design.globals name ≡ b → is_some (place_of (own_nets t.design t.rules cell) name) ≡ true
      by_global true e =
          let global : is_global_in t.design t.rules cell name ≡ true =
          ap (λ (b : Bool). (b && not (is_some (supply_of t.rules name))) && not (has_name cell.ports name)) e
          ∙ ap₂ (λ (o : Option Bool) (b : Bool). not (is_some o) && not b) s no_port in
          let there = global_among t at name deepest (omega arith) m (global, on_card) in
          let no : false ≡ true = sym (any_placed (bytes_eq name) (globals_of t) ∙ ap is_some g) ∙ there in cc
      by_global false e =
          let own : is_own t.design t.rules cell name ≡ true =
          ap₂ (λ (o : Option Bool) (b : Bool). (not (is_some o) && not b) && not (has_name t.design.globals name)) s no_port ∙ ap not e in
          sym (any_placed (bytes_eq name) (own_nets t.design t.rules cell))
          ∙ once_has_same (filter (is_own t.design t.rules cell) (mentions cell)) name
          ∙ has_name_filter (is_own t.design t.rules cell) (mentions cell) name
          ∙ ap₂ (λ (b c : Bool). b && c) own on_card

    supply_in_range : (value : Bool) → supply_net value < count
    supply_in_range true = omega arith
    supply_in_range false = omega arith

    at_port : (k : ℕ) → AreIn at.ports → unwrap_or (slice_get at.ports k) 0 < count
    at_port k ports = by_place (slice_get at.ports k) refl where
      by_place : (o : Option ℕ) → slice_get at.ports k ≡ o → unwrap_or o 0 < count
      by_place None e = omega arith
      by_place (Some n) e = ports n (k, e)

    at_global : (k : ℕ) → place_of (globals_of t) name ≡ Some k → first_global t + k < count
    at_global k e =
        let lt = placed_within (bytes_eq name) (globals_of t) k e in
        let total = nets_total t in
        omega (arith, lt, total)

    at_own : Among (all_places t) at → is_some (place_of (own_nets t.design t.rules cell) name) ≡ true → own_net t cell at name < count
    at_own m some = by_place (place_of (own_nets t.design t.rules cell) name) refl some where
      by_place : (o : Option ℕ) → place_of (own_nets t.design t.rules cell) name ≡ o → is_some o ≡ true → at.base + unwrap_or o 0 < count
      by_place None e some = cc
      by_place (Some k) e some =
          let lt = placed_within (bytes_eq name) (own_nets t.design t.rules cell) k e in
          let room = room_of t at m in
          omega (arith, lt, room)

    pub net_below : Among (all_places t) at → AreIn at.ports → is_net_of cell name ≡ true → net_at t at name < count
    unfolding net_at
    net_below m ports is = by_test (supply_of t.rules name) (place_of cell.ports name) (place_of (globals_of t) name) refl refl refl where
      by_test : (s : Option Bool) (p g : Option ℕ) → supply_of t.rules name ≡ s → place_of cell.ports name ≡ p → place_of (globals_of t) name ≡ g
          → unwrap_or (option_or (option_map supply_net s) (option_or (option_map (λ (k : ℕ). unwrap_or (slice_get at.ports k) 0) p) (option_map (λ (k : ℕ). first_global t + k) g))) (own_net t cell at name) < count
      by_test (Some value) p g es ep eg = supply_in_range value
      by_test None (Some k) g es ep eg = at_port k ports
      by_test None None (Some k) es ep eg = at_global k eg
      by_test None None None es ep eg = at_own m (own_placed m is es ep eg)

  -- ---- the nets of ports

  -- those of the checked cell
  module _ (rules : Rules) where
    from_next : (next : ℕ) (names : List (List ℕ)) (n : ℕ) → 2 ≤ next → Among (port_nets_from rules next names) n → n < next + length (filter (λ (name : List ℕ). is_none (supply_of rules name)) names)
    from_next next [] n le m = absurd (none-some n m.1)
    from_next next (x ∷ xs) n le m = by_test (supply_of rules x) (λ k more on. from_next k xs n more on) m where
      low : (value : Bool) → cond value 1 0 < 2
      low true = omega arith
      low false = omega arith

      by_test : (o : Option Bool) → ((k : ℕ) → 2 ≤ k → Among (port_nets_from rules k xs) n → n < k + length (filter (λ (name : List ℕ). is_none (supply_of rules name)) xs))
          → Among (elim o [ None ↦ next ∷ port_nets_from rules (suc next) xs | Some value ↦ cond value 1 0 ∷ port_nets_from rules next xs ]) n → n < next + length (cond (is_none o) (x ∷ filter (λ (name : List ℕ). is_none (supply_of rules name)) xs) (filter (λ (name : List ℕ). is_none (supply_of rules name)) xs))
      by_test None rest (zero, e) = let same = same_Some next n e in omega (arith, same)
      by_test None rest (suc i, e) = let lt = rest (suc next) (omega (arith, le)) (i, e) in omega (arith, lt)
      by_test (Some value) rest (zero, e) = let same = same_Some (cond value 1 0) n e in let less = low value in omega (arith, same, less, le)
      by_test (Some value) rest (suc i, e) = rest next le (i, e)

  top_in : AreIn (top_place t).ports
  top_in n m =
      let lt = from_next t.rules 2 (top_cell t).ports n (omega arith) m in
      let total = nets_total t in
      omega (arith, lt, total)

  -- those of instances
  abbrev IsCardOf : Place → List InstanceCard → Place → Type 0
  IsCardOf at cards p = (i : InstanceCard) × Among cards i × (map (net_at t at) i.nets ≡ p.ports)

  card_of : (at : Place) (depth base : ℕ) (cards : List InstanceCard) (p : Place) → Among (instances_from t at depth base cards) p → IsCardOf at cards p
  card_of at depth base [] p m = absurd (none-some p m.1)
  card_of at depth base (card ∷ cards) p (zero, e) = (card, (zero, refl), ap (λ (x : Place). x.ports) (same_Some _ p e))
  card_of at depth base (card ∷ cards) p (suc i, e) =
      let rest = card_of at depth (base + own_count t.design t.rules depth (cell_at t.design (cell_named t.design card.cell))) cards p (i, e) in
      (rest.0, among_later card cards rest.0 rest.1, rest.2)

  inner_in : (depth : ℕ) (at p : Place) → Among (all_places t) at → AreIn at.ports → Among (instances_at t depth at) p → AreIn p.ports
  inner_in depth at p there ports m n on =
      let card = card_of at depth (at.base + length (own_nets t.design t.rules (cell_at t.design at.cell))) (cell_at t.design at.cell).instances p m in
      let name = among_map (net_at t at) card.0.nets n (subst (λ (ns : List ℕ). Among ns n) (sym card.2) on) in
      subst (λ (k : ℕ). k < count) name.2 (net_below at name.0 there ports (instance_named (cell_at t.design at.cell) card.0 name.0 card.1 name.1))

  ports_below : (depth : ℕ) (at q : Place) → ((p : Place) → Among (places_in t depth at) p → Among (all_places t) p) → AreIn at.ports → Among (places_in t depth at) q → AreIn q.ports
  ports_below zero at q all ports (zero, e) = subst (λ (p : Place). AreIn p.ports) (same_Some at q e) ports
  ports_below zero at q all ports (suc i, e) = absurd (none-some q e)
  ports_below (suc depth) at q all ports (zero, e) = subst (λ (p : Place). AreIn p.ports) (same_Some at q e) ports
  ports_below (suc depth) at q all ports (suc i, e) =
      let found = among_flat_map (places_in t depth) (instances_at t depth at) q (i, e) in
      ports_below depth found.0 q
      (λ p m. all p (among_later at (flat_map (places_in t depth) (instances_at t depth at)) p (flat_map_among (places_in t depth) (instances_at t depth at) found.0 p found.1 m)))
      (inner_in depth at found.0 (all at (zero, refl)) ports found.1) found.2

  -- the nets of the ports of each place
  pub ports_in : (at : Place) → Among (all_places t) at → AreIn at.ports
  unfolding all_places
  ports_in at m = ports_below deepest (top_place t) at (λ p on. on) top_in m
