-- A whole: how many nets it has, and its places.
use Rattle.std.proofs.Common.{◌≡◌, ◌<◌, ◌≤◌, ◌+◌, ◌++◌, ◌^◌, ◌∷◌, [], ℕ, zero, suc, Bool, true, false, get_or, List, map, length, Option, Some, None, refl, ap, ap₂, sym, subst, ◌∙◌, arith}
use Rattle.std.specs.Prelude.{bytes_eq, filter, is_none, Result, Ok, Err, IfOk, position, sum_by, unwrap_or}
use Rattle.std.specs.List.{list_any}
use Rattle.std.proofs.lemmas.List.Sums.{sum_by-cons}
use Rattle.std.proofs.lemmas.Option.{none-some, same_Some}
use Rattle.flat_sizes.proofs.PlaceLaws.{nets_counted}
use Rattle.flat_sizes.specs.Totals.{inside, within}
use Rattle.names.proofs.PlaceLaws.{placed_within}
use Rattle.net_places.proofs.CellLaws.{all_own_is}
use Rattle.net_places.proofs.GlobalLaws.{count_is, globals_are, others_are}
use Rattle.net_places.proofs.LinkLaws.{all_nested, all_same}
use Rattle.net_places.specs.Globals.{all_nets, global_nets_from, is_global, marked_count}
use Rattle.net_places.specs.Links.{AreGlobalNets, AreNoOthers, AreNested, Bare, IsUnrolled, bare, shown}
use Rattle.net_places.specs.Places.{all_below, all_own, places_below}
use Rattle.net_places.specs.Ports.{IsNumbered}
use Rattle.net_places.specs.Whole.{AreNumbered, all_own_of, whole_by, whole_of}
use Rattle.net_places.specs.declared.places.Place.{Place}
use Rattle.net_places.specs.declared.whole.Unrolled.{Unrolled}
use Rattle.net_tables.specs.Places.{ArePlaceNets, IsNamedAt, is_net_of}
use Rattle.net_tables.specs.Tables.{AreNetTables}
use Rattle.net_tables.specs.declared.tables.NetTables.{NetTables}
use Rattle.vrt_model.proofs.Lists.{at_there, map_at, one_at}
use Rattle.vrt_model.proofs.Members.{all_among, among_flat_map}
use Rattle.vrt_model.proofs.Sums.{sum_same}
use Rattle.vrt_model.specs.CellRules.{supply_of}
use Rattle.vrt_model.specs.Comparison.{cell_at}
use Rattle.vrt_model.specs.FlatCircuit.{flat_nets}
use Rattle.vrt_model.specs.Inputs.{IsCell, IsDesign}
use Rattle.vrt_model.specs.Lists.{Among, At}
use Rattle.vrt_model.specs.Unrolled.{Place as FlatPlace, Top, all_places, cell_named, deepest, first_global, globals_of, instances_at, instances_from, own_count, own_nets, places_in, top_cell, top_place}
use Rattle.vrt_model.specs.Unsupported.{top_before}
use Rattle.vrt_model.specs.declared.design.Cell.{Cell}
use Rattle.vrt_model.specs.declared.design.Design.{Design}
use Rattle.vrt_model.specs.declared.design.InstanceCard.{InstanceCard}
use Rattle.vrt_model.specs.declared.ids.Net.{Net}
use Rattle.vrt_model.specs.declared.pairing.PortRole.{PortRole}
use Rattle.vrt_model.specs.declared.rules.Rules.{Rules}

-- two clauses of one answer
pub both_ok : {X E : Type 0} (r : Result X E) (P Q S : X → Type 0) → ((x : X) → P x → Q x → S x) → IfOk r P → IfOk r Q → IfOk r S
both_ok (Ok x) P Q S both p q = both x p q
both_ok (Err e) P Q S both p q = tt

-- the ports of a cell are few
pub few_ports : (design : Design) (k : ℕ) → IsDesign design → k < length design.cells → length (cell_at design k).ports ≤ 4096
few_ports design k is lt =
    let found = at_there design.cells k lt in
    let one = ap (λ (o : Option Cell). let c : Cell = unwrap_or o (record { line = 0; name = []; ports = []; devices = []; instances = [] }) in length c.ports) found.1 in
    let few = (all_among IsCell design.cells found.0 is.cells (k, found.1)).port_limit in
    omega (arith, one, few)

-- ---- how many nets there are

module _ (t : Top) where
  abbrev own_of : ℕ → ℕ
  own_of k = length (own_nets t.design t.rules (cell_at t.design k))

  abbrev count_of : ℕ → ℕ → ℕ
  count_of depth k = own_count t.design t.rules depth (cell_at t.design k)

  own_total : (depth k : ℕ) → count_of depth k ≡ own_of k + within t.design own_of depth k
  own_total zero k = omega arith
  own_total (suc depth) k =
      ap (λ (n : ℕ). own_of k + n)
      (sum_same (λ (i : InstanceCard). count_of depth (cell_named t.design i.cell)) (λ (i : InstanceCard). own_of (cell_named t.design i.cell) + within t.design own_of depth (cell_named t.design i.cell))
      (λ i. own_total depth (cell_named t.design i.cell)) (cell_at t.design k).instances)

  summed : (p g o i c n : ℕ) → c ≡ o + i → n ≡ p + g + o + i + 2 → 2 + p + g + c ≡ n
  summed p g o i c n e f = omega (arith, e, f)

  pub nets_total : first_global t + length (globals_of t) + all_own_of t ≡ length (flat_nets t)
  unfolding inside all_own_of
  nets_total =
      summed (length (filter (λ name. is_none (supply_of t.rules name)) (top_cell t).ports)) (length (globals_of t)) (own_of t.cell) (inside t.design own_of t.cell)
      (own_count t.design t.rules deepest (top_cell t)) (length (flat_nets t)) (own_total deepest t.cell) (nets_counted t)

  -- ---- the own nets of each place

  abbrev IsRoomIn : ℕ → FlatPlace → FlatPlace → Type 0
  IsRoomIn depth at q = q.base + own_of q.cell ≤ at.base + count_of depth at.cell

  cards_room : (depth : ℕ) (at q : FlatPlace) → ((p : FlatPlace) → Among (places_in t depth p) q → IsRoomIn depth p q) → (cards : List InstanceCard) (base : ℕ) (p : FlatPlace)
      → Among (instances_from t at depth base cards) p → Among (places_in t depth p) q
      → q.base + own_of q.cell ≤ base + sum_by (λ (i : InstanceCard). count_of depth (cell_named t.design i.cell)) cards
  cards_room depth at q each [] base p m n = absurd (none-some p m.1)
  cards_room depth at q each (card ∷ cards) base p (zero, e) n =
      let inner = each p n in
      let same = same_Some _ p e in
      let start : base ≡ p.base = ap (λ (x : FlatPlace). x.base) same in
      let cell : count_of depth (cell_named t.design card.cell) ≡ count_of depth p.cell = ap (λ (x : FlatPlace). count_of depth x.cell) same in
      let sum = sum_by-cons (λ (i : InstanceCard). count_of depth (cell_named t.design i.cell)) card cards in
      omega (arith, inner, start, cell, sum)
  cards_room depth at q each (card ∷ cards) base p (suc i, e) n =
      let rest = cards_room depth at q each cards (base + count_of depth (cell_named t.design card.cell)) p (i, e) n in
      let sum = sum_by-cons (λ (i : InstanceCard). count_of depth (cell_named t.design i.cell)) card cards in
      omega (arith, rest, sum)

  in_room : (depth : ℕ) (at q : FlatPlace) → Among (places_in t depth at) q → IsRoomIn depth at q
  in_room zero at q (zero, e) = subst (IsRoomIn zero at) (same_Some at q e) (omega arith)
  in_room zero at q (suc i, e) = absurd (none-some q e)
  in_room (suc depth) at q (zero, e) = subst (IsRoomIn (suc depth) at) (same_Some at q e) (omega arith)
  in_room (suc depth) at q (suc i, e) =
      let found = among_flat_map (places_in t depth) (instances_at t depth at) q (i, e) in
      let room = cards_room depth at q (λ p m. in_room depth p q m) (cell_at t.design at.cell).instances (at.base + own_of at.cell) found.0 found.1 found.2 in
      omega (arith, room)

  pub room_of : (at : FlatPlace) → Among (all_places t) at → at.base + own_of at.cell ≤ length (flat_nets t)
  unfolding all_places all_own_of
  room_of at m = within_total _ (top_place t).base (own_count t.design t.rules deepest (top_cell t)) (length (flat_nets t)) (in_room deepest (top_place t) at m) nets_total where
    within_total : (x base own n : ℕ) → x ≤ base + own → base + own ≡ n → x ≤ n
    within_total x base own n le e = omega (arith, le, e)

  -- ---- the cells of places

  abbrev IsThere : ℕ → Type 0
  IsThere k = k < length t.design.cells

  named_there : IsThere t.cell → (name : List ℕ) → IsThere (cell_named t.design name)
  named_there some name = by_place (position (λ (c : Cell). bytes_eq c.name name) t.design.cells) refl where
    by_place : (o : Option ℕ) → position (λ (c : Cell). bytes_eq c.name name) t.design.cells ≡ o → IsThere (unwrap_or o 0)
    by_place None e = omega (arith, some)
    by_place (Some k) e = placed_within (λ (c : Cell). bytes_eq c.name name) t.design.cells k e

  cards_there : IsThere t.cell → (depth : ℕ) (at : FlatPlace) (cards : List InstanceCard) (base : ℕ) (p : FlatPlace) → Among (instances_from t at depth base cards) p → IsThere p.cell
  cards_there some depth at [] base p m = absurd (none-some p m.1)
  cards_there some depth at (card ∷ cards) base p (zero, e) = subst (λ (x : FlatPlace). IsThere x.cell) (same_Some _ p e) (named_there some card.cell)
  cards_there some depth at (card ∷ cards) base p (suc i, e) = cards_there some depth at cards (base + count_of depth (cell_named t.design card.cell)) p (i, e)

  in_cells : IsThere t.cell → (depth : ℕ) (at q : FlatPlace) → IsThere at.cell → Among (places_in t depth at) q → IsThere q.cell
  in_cells some zero at q here (zero, e) = subst (λ (x : FlatPlace). IsThere x.cell) (same_Some at q e) here
  in_cells some zero at q here (suc i, e) = absurd (none-some q e)
  in_cells some (suc depth) at q here (zero, e) = subst (λ (x : FlatPlace). IsThere x.cell) (same_Some at q e) here
  in_cells some (suc depth) at q here (suc i, e) =
      let found = among_flat_map (places_in t depth) (instances_at t depth at) q (i, e) in
      in_cells some depth found.0 q (cards_there some depth at (cell_at t.design at.cell).instances (at.base + own_of at.cell) found.0 found.1) found.2

  pub cells_of : IsThere t.cell → (at : FlatPlace) → Among (all_places t) at → IsThere at.cell
  unfolding all_places
  cells_of some at m = in_cells some deepest (top_place t) at some m

-- ---- the whole

-- the places of the whole, from none
pub from_none : (design : Design) (tables : NetTables) (globals : List Net) (depth : ℕ) (whole : Place) (old new : List Place) → old ≡ []
    → new ≡ old ++ places_below design tables globals depth (length old) whole → new ≡ places_below design tables globals depth 0 whole
from_none design tables globals depth whole old new none e = e ∙ ap (λ (ps : List Place). ps ++ places_below design tables globals depth (length ps) whole) none

module _ (design : Design) (rules : Rules) (tables : NetTables) (are : AreNetTables design rules tables) (cell : ℕ) where
  -- there is room for the nets of ports and globals, and for all
  pub room_first : length (flat_nets (top_before design rules cell)) ≤ 20000 → first_global (top_before design rules cell) + length (globals_of (top_before design rules cell)) < 2 ^ 32
  room_first small = let total = nets_total (top_before design rules cell) in omega (arith, total, small)

  module _ (netlist : IsDesign design) (first : ℕ) (marks shown_marks : List Bool) (same : shown_marks ≡ marks) (start : first ≡ first_global (top_before design rules cell)) where
    pub numbered_room : length (flat_nets (top_before design rules cell)) ≤ 20000 → length marks ≡ length design.globals
        → ((j : ℕ) → j < length design.globals → get_or marks j false ≡ list_any (is_global j) (all_nets tables cell)) → first + marked_count shown_marks < 2 ^ 32
    numbered_room small len marked =
        let count = ap marked_count same ∙ count_is (top_before design rules cell) tables are netlist.globals marks len marked in
        let room = room_first small in
        omega (arith, count, room, start)

    pub numbered_is : length marks ≡ length design.globals → ((j : ℕ) → j < length design.globals → get_or marks j false ≡ list_any (is_global j) (all_nets tables cell))
        → (nets : List Net) (next : ℕ) → nets ≡ global_nets_from first shown_marks → next ≡ first + marked_count shown_marks → AreNumbered (top_before design rules cell) nets next
    numbered_is len marked nets next e n =
        let t : Top = top_before design rules cell in
        let is : nets ≡ global_nets_from (first_global t) marks = e ∙ ap₂ global_nets_from start same in
        record {
          globals_are = subst (AreGlobalNets t) (sym is) (globals_are t tables are netlist.globals marks len marked);
          others_are = subst (AreNoOthers t) (sym is) (others_are t tables are netlist.globals marks len marked);
          next_is = n ∙ ap₂ (λ (a : ℕ) (ms : List Bool). a + marked_count ms) start same ∙ ap (λ (m : ℕ). first_global t + m) (count_is t tables are netlist.globals marks len marked);
        }

  pub room_all : (globals : List Net) (base : ℕ) → length (flat_nets (top_before design rules cell)) ≤ 20000 → AreNumbered (top_before design rules cell) globals base → base + all_own tables cell < 2 ^ 32
  room_all globals base small numbered =
      let total = nets_total (top_before design rules cell) in
      let own = all_own_is design rules tables are (top_before design rules cell) refl refl in
      let start = numbered.next_is in
      omega (arith, total, own, start, small)

  pub room_by : (ports globals : List Net) (base : ℕ) (whole : Place) → whole ≡ whole_by cell ports base → length (flat_nets (top_before design rules cell)) ≤ 20000
      → AreNumbered (top_before design rules cell) globals base → whole.base + all_own tables whole.cell < 2 ^ 32
  room_by ports globals base whole is small numbered = subst (λ (p : Place). p.base + all_own tables p.cell < 2 ^ 32) (sym is) (room_all globals base small numbered)

  pub is_unrolled : cell < length design.cells → (ports globals : List Net) (next base : ℕ) (whole : Place) (unrolled : Unrolled) (roles : List PortRole)
      → IsNumbered rules (cell_at design cell).ports ports next → AreNumbered (top_before design rules cell) globals base → whole ≡ whole_by cell ports base
      → unrolled.places ≡ all_below design tables globals whole → unrolled.globals ≡ globals → IsUnrolled (whole_of design rules cell roles) unrolled
  is_unrolled there ports globals next base whole unrolled roles numbered named is are_places are_globals =
      let t : Top = whole_of design rules cell roles in
      let first : Place = whole_by cell ports base in
      let like : shown first ≡ bare (top_place t) =
      ap₂ (λ (ns : List ℕ) (b : ℕ). let one : Bare = record { cell = cell; depth = 0; path = []; ports = ns; base = b } in one) numbered.nets_are named.next_is in
      let all : unrolled.places ≡ all_below design tables globals first = are_places ∙ ap (all_below design tables globals) is in
      record {
        places_are = ap (map shown) all ∙ all_same t tables are globals named.globals_are first like;
        nested = subst (λ (ps : List Place). AreNested t (all_places t) 0 ps (all_places t)) (sym all) (all_nested t tables are globals named.globals_are first like);
        globals_are = subst (AreGlobalNets t) (sym are_globals) named.globals_are;
        others_are = subst (AreNoOthers t) (sym are_globals) named.others_are;
        cells = cells_of t there;
        room = room_of t;
      }

-- ---- the nets of a place

pub nets_by : (t : Top) (unrolled : Unrolled) → IsUnrolled t unrolled → (n : ℕ) (place : Place) (at : FlatPlace) → At unrolled.places n place → At (all_places t) n at
    → (ports globals : List Net) → ports ≡ place.ports → globals ≡ unrolled.globals → ArePlaceNets t at ports place.base globals
nets_by t unrolled is n place at here there ports globals p g =
    let same : shown place ≡ bare at =
    one_at (map bare (all_places t)) n (shown place) (bare at) (subst (λ (bs : List Bare). At bs n (shown place)) is.places_are (map_at shown unrolled.places n place here)) (map_at bare (all_places t) n at there) in
    record {
      ports_are = ap (map (λ (m : Net). m.0)) p ∙ ap (λ (b : Bare). b.ports) same;
      base_is = ap (λ (b : Bare). b.base) same;
      globals_are = subst (AreGlobalNets t) (sym g) is.globals_are;
    }

pub named_by : (t : Top) (n : ℕ) (at : FlatPlace) (name : List ℕ) → At (all_places t) n at → is_net_of (cell_at t.design at.cell) name ≡ true → IsNamedAt t at name
unfolding all_places
named_by t n at name there named = (deepest, omega arith, (n, there), named)
