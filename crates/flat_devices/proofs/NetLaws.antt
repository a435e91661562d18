-- The flat nets of the cards of a place.
use Rattle.std.proofs.Common.{◌≡◌, ◌≤◌, ◌+◌, ◌∷◌, ◌++◌, ◌||◌, [], ℕ, zero, suc, List, Bool, true, false, map, flat_map, length, Option, Some, None, refl, ap, sym, subst, ◌∙◌, arith}
use Rattle.std.specs.Prelude.{bytes_eq, option_map, slice_get, unwrap_or}
use Rattle.std.specs.Option.{option_or}
use Rattle.std.proofs.lemmas.Bool.{or_left, or_right}
use Rattle.std.proofs.lemmas.List.Quantifiers.{position-Some}
use Rattle.std.proofs.lemmas.Option.{none-some, same_Some, slice_get-map}
use Rattle.std.proofs.lemmas.Slice.Eq.{bytes_eq-Decides}
use Rattle.flat_devices.specs.Devices.{HaveRoom, IsOfCell}
use Rattle.net_places.specs.Globals.{nets_on}
use Rattle.net_places.specs.Links.{Bare, IsUnrolled, bare, shown}
use Rattle.net_places.specs.Places.{HasRoomFor, net_of, nets_at}
use Rattle.net_places.specs.declared.places.Place.{Place}
use Rattle.net_places.specs.declared.whole.Unrolled.{Unrolled}
use Rattle.net_tables.proofs.PlaceNetLaws.{global_is, global_there, net_is, port_is}
use Rattle.net_tables.specs.Nets.{device_in, net_in, nets_in}
use Rattle.net_tables.specs.Places.{ArePlaceNets, IsNamedAt, is_net_of, number_by, place_net}
use Rattle.net_tables.specs.Tables.{AreNetTables}
use Rattle.net_tables.specs.declared.tables.NetTables.{NetTables}
use Rattle.net_tables.specs.declared.types.CellNet.{CellNet}
use Rattle.net_tables.specs.declared.types.CellNet.TheVariants.{Supply, Port, Global, Own}
use Rattle.net_tables.specs.declared.types.CellNets.{CellNets}
use Rattle.net_tables.specs.declared.types.DeviceNets.{DeviceNets}
use Rattle.vrt_model.proofs.Lists.{at_map, map_at}
use Rattle.vrt_model.proofs.Members.{among_flat_map, among_left, among_map, among_right}
use Rattle.vrt_model.specs.CellRules.{supply_of}
use Rattle.vrt_model.specs.Comparison.{cell_at}
use Rattle.vrt_model.specs.FlatCircuit.{net_id}
use Rattle.vrt_model.specs.Lists.{Among, At, has_name, place_of}
use Rattle.vrt_model.specs.Unrolled.{Place as FlatPlace, Top, all_places, deepest, mentions, net_at, own_nets}
use Rattle.vrt_model.specs.Unsupported.{top_before}
use Rattle.vrt_model.specs.declared.design.Cell.{Cell}
use Rattle.vrt_model.specs.declared.design.Design.{Design}
use Rattle.vrt_model.specs.declared.design.DeviceCard.{DeviceCard}
use Rattle.vrt_model.specs.declared.design.InstanceCard.{InstanceCard}
use Rattle.vrt_model.specs.declared.ids.Net.{Net}
use Rattle.vrt_model.specs.declared.rules.Rules.{Rules}

-- ---- the nets in tables

abbrev empty_cell : Cell
empty_cell = record { line = 0; name = []; ports = []; devices = []; instances = [] }

abbrev empty_nets : CellNets
empty_nets = record { names = record { ports = []; own = [] }; devices = []; instances = [] }

-- the nets at the transistors of a cell
pub nets_are : (design : Design) (rules : Rules) (tables : NetTables) → AreNetTables design rules tables → (k : ℕ)
    → (nets_at tables k).devices ≡ map (device_in design rules (cell_at design k)) (cell_at design k).devices
nets_are design rules tables are k =
    ap (λ (o : Option CellNets). (unwrap_or o empty_nets).devices) (ap (λ (all : List CellNets). slice_get all k) are.cells_are ∙ slice_get-map (nets_in design rules) design.cells k)
    ∙ by_cell (slice_get design.cells k) where
      by_cell : (o : Option Cell) → (unwrap_or (option_map (nets_in design rules) o) empty_nets).devices ≡ map (device_in design rules (unwrap_or o empty_cell)) (unwrap_or o empty_cell).devices
      by_cell None = refl
      by_cell (Some cell) = refl

-- ---- places

-- what is unrolled at a place is the place of the definition
pub shown_at : (t : Top) (unrolled : Unrolled) → IsUnrolled t unrolled → (i : ℕ) (p : Place) → At unrolled.places i p
    → (at : FlatPlace) × At (all_places t) i at × (bare at ≡ shown p)
shown_at t unrolled is i p here = at_map bare (all_places t) i (shown p) (subst (λ (bs : List Bare). At bs i (shown p)) is.places_are (map_at shown unrolled.places i p here))

-- ---- room

module _ (design : Design) (rules : Rules) where
  own_bound : (cell : Cell) (name : List ℕ) (j : ℕ) → net_in design rules cell name ≡ Own j → j ≤ length (own_nets design rules cell)
  unfolding net_in
  own_bound cell name j is = by_test (supply_of rules name) (place_of cell.ports name) (place_of design.globals name) is where
    by_place : (o : Option ℕ) → place_of (own_nets design rules cell) name ≡ o → (let one : CellNet = Own (unwrap_or o 0) in one) ≡ Own j → j ≤ length (own_nets design rules cell)
    by_place None e h = let same : 0 ≡ j = cc in omega (arith, same)
    by_place (Some k) e h = let same : k ≡ j = cc in let lt = (position-Some (bytes_eq name) (own_nets design rules cell) k [] e).0 in omega (arith, same, lt)

    by_test : (s : Option Bool) (p g : Option ℕ)
        → unwrap_or (option_or (option_map (λ (value : Bool). Supply value) s) (option_or (option_map (λ (k : ℕ). Port k) p) (option_map (λ (j : ℕ). Global j) g)))
        (Own (unwrap_or (place_of (own_nets design rules cell) name) 0)) ≡ Own j → j ≤ length (own_nets design rules cell)
    by_test (Some value) p g h = cc
    by_test None (Some k) g h = cc
    by_test None None (Some i) h = cc
    by_test None None None h = by_place (place_of (own_nets design rules cell) name) refl h

  -- a net on a card is that of a name
  named_on : (cell : Cell) (card : DeviceCard) (n : CellNet) → Among (nets_on (device_in design rules cell card)) n → (name : List ℕ) × (net_in design rules cell name ≡ n)
  named_on cell card n (zero, e) = (card.drain, same_Some _ n e)
  named_on cell card n (suc zero, e) = (card.gate, same_Some _ n e)
  named_on cell card n (suc (suc zero), e) = (card.source, same_Some _ n e)
  named_on cell card n (suc (suc (suc i)), e) = absurd (none-some n e)

  -- the own nets on the cards of a cell are few
  cards_bound : (cell : Cell) (n : CellNet) → Among (flat_map nets_on (map (device_in design rules cell) cell.devices)) n → (j : ℕ) → n ≡ Own j → j ≤ length (own_nets design rules cell)
  cards_bound cell n m j is =
      let nets = among_flat_map nets_on (map (device_in design rules cell) cell.devices) n m in
      let card = among_map (device_in design rules cell) cell.devices nets.0 nets.1 in
      let name = named_on cell card.0 n (subst (λ (d : DeviceNets). Among (nets_on d) n) (sym card.2) nets.2) in
      own_bound cell name.0 j (name.1 ∙ is)

  pub room_for : (tables : NetTables) → AreNetTables design rules tables → (unrolled : Unrolled) → IsOfCell design rules unrolled → HaveRoom tables unrolled.places
  room_for tables are unrolled of p m n on j is =
      let t : Top = top_before design rules of.cell in
      let there = shown_at t unrolled of.unrolled_is m.0 p m.1 in
      let cell : there.0.cell ≡ p.cell = ap (λ (b : Bare). b.cell) there.2 in
      let base : there.0.base ≡ p.base = ap (λ (b : Bare). b.base) there.2 in
      let le = cards_bound (cell_at design p.cell) n (subst (λ (ds : List DeviceNets). Among (flat_map nets_on ds) n) (nets_are design rules tables are p.cell) on) j is in
      let own = ap (λ (k : ℕ). length (own_nets design rules (cell_at design k))) cell in
      let room = of.unrolled_is.room there.0 (m.0, there.1) in
      let small = of.small in
      omega (arith, base, le, own, room, small)

-- the nets of the first of some transistors, and those of the others
pub first_room : (base : ℕ) (nets later : List DeviceNets) (first : DeviceNets) → nets ≡ first ∷ later → HasRoomFor base (flat_map nets_on nets) → HasRoomFor base (nets_on first)
first_room base nets later first e room n m =
    room n (subst (λ (ds : List DeviceNets). Among (flat_map nets_on ds) n) (sym e) (among_left (nets_on first) (flat_map nets_on later) n m))

pub rest_room : (base : ℕ) (nets later : List DeviceNets) (first : DeviceNets) → nets ≡ first ∷ later → HasRoomFor base (flat_map nets_on nets) → HasRoomFor base (flat_map nets_on later)
rest_room base nets later first e room n m =
    room n (subst (λ (ds : List DeviceNets). Among (flat_map nets_on ds) n) (sym e) (among_right (nets_on first) (flat_map nets_on later) n m))

-- ---- the flat net of a name

-- where its place is one of the definition, the number of a net of a name is that of the definition
number_is : (t : Top) (at : FlatPlace) (ports : List Net) (base : ℕ) (globals : List Net) (name : List ℕ) → ArePlaceNets t at ports base globals → IsNamedAt t at name → (net : CellNet)
    → net ≡ net_in t.design t.rules (cell_at t.design at.cell) name → number_by ports base globals net ≡ net_at t at name
number_is t at ports base globals name are named (Supply value) is = ap (place_net t at) is ∙ net_is t at name
number_is t at ports base globals name are named (Port k) is = port_is t at ports base globals are k ∙ ap (place_net t at) is ∙ net_is t at name
number_is t at ports base globals name are named (Global j) is =
    let k = global_there t at name j named is in
    global_is t at ports base globals are j k.1 k.0 k.2 ∙ ap (place_net t at) is ∙ net_is t at name
number_is t at ports base globals name are named (Own i) is = ap (λ (b : ℕ). b + i) are.base_is ∙ ap (place_net t at) is ∙ net_is t at name

module _ (t : Top) (unrolled : Unrolled) (is : IsUnrolled t unrolled) (i : ℕ) (p : Place) (at : FlatPlace) (there : At (all_places t) i at) (same : shown p ≡ bare at) where
  place_nets : ArePlaceNets t at p.ports p.base unrolled.globals
  place_nets = record { ports_are = ap (λ (b : Bare). b.ports) same; base_is = ap (λ (b : Bare). b.base) same; globals_are = is.globals_are }

  named_by : (name : List ℕ) → is_net_of (cell_at t.design at.cell) name ≡ true → IsNamedAt t at name
  unfolding all_places
  named_by name named = (deepest, omega arith, (i, there), named)

  pub flat_net_is : (name : List ℕ) → is_net_of (cell_at t.design at.cell) name ≡ true
      → net_of p unrolled.globals (net_in t.design t.rules (cell_at t.design at.cell) name) ≡ net_id (net_at t at name)
  flat_net_is name named = ap net_id (number_is t at p.ports p.base unrolled.globals name place_nets (named_by name named) _ refl)

-- ---- the names on a card are nets of the cell

same_bytes : (y : List ℕ) → bytes_eq y y ≡ true
same_bytes y = (bytes_eq-Decides y y).1 refl

-- the nets on a card are nets of its cell
pub record AreNets (cell : Cell) (card : DeviceCard) : Type 0 where
  pub drain : is_net_of cell card.drain ≡ true
  pub gate : is_net_of cell card.gate ≡ true
  pub source : is_net_of cell card.source ≡ true

abbrev names_on : DeviceCard → List (List ℕ)
names_on card = card.drain ∷ card.gate ∷ card.source ∷ []

-- a name among those of a card is among those of all cards, and of what stands behind them
on_card : (cards : List DeviceCard) (behind : List (List ℕ)) (name : List ℕ) (i : ℕ) (card : DeviceCard) → At cards i card → has_name (names_on card) name ≡ true
    → has_name (flat_map names_on cards ++ behind) name ≡ true
on_card [] behind name i card e has = absurd (none-some card e)
on_card (c ∷ cards) behind name zero card e has = among_front (bytes_eq name c.drain) (bytes_eq name c.gate) (bytes_eq name c.source) (has_name (flat_map names_on cards ++ behind) name)
    (subst (λ (d : DeviceCard). has_name (names_on d) name ≡ true) (sym (same_Some c card e)) has) where
      among_front : (a b s rest : Bool) → (a || (b || (s || false))) ≡ true → (a || (b || (s || rest))) ≡ true
      among_front true b s rest h = refl
      among_front false true s rest h = refl
      among_front false false true rest h = refl
      among_front false false false rest h = cc
on_card (c ∷ cards) behind name (suc i) card e has =
    or_right (bytes_eq name c.drain) (bytes_eq name c.gate || (bytes_eq name c.source || has_name (flat_map names_on cards ++ behind) name))
    (or_right (bytes_eq name c.gate) (bytes_eq name c.source || has_name (flat_map names_on cards ++ behind) name)
    (or_right (bytes_eq name c.source) (has_name (flat_map names_on cards ++ behind) name) (on_card cards behind name i card e has)))

pub are_nets : (cell : Cell) (i : ℕ) (card : DeviceCard) → At cell.devices i card → AreNets cell card
are_nets cell i card e = record {
  drain = of_card card.drain (or_left (bytes_eq card.drain card.drain) _ (same_bytes card.drain));
  gate = of_card card.gate (or_right (bytes_eq card.gate card.drain) _ (or_left (bytes_eq card.gate card.gate) _ (same_bytes card.gate)));
  source = of_card card.source (or_right (bytes_eq card.source card.drain) _ (or_right (bytes_eq card.source card.gate) _ (or_left (bytes_eq card.source card.source) _ (same_bytes card.source))));
} where
  of_card : (name : List ℕ) → has_name (names_on card) name ≡ true → is_net_of cell name ≡ true
  of_card name has = or_right (has_name cell.ports name) (has_name (mentions cell) name) (on_card cell.devices (flat_map (λ (i : InstanceCard). i.nets) cell.instances) name i card e has)
