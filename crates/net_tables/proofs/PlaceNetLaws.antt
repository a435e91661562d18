-- The nets of a place by what the names in its cell are.
use Rattle.std.proofs.Common.{◌≡◌, ◌≤◌, ◌<◌, ◌+◌, ◌-◌, ◌∷◌, ◌&&◌, ◌||◌, [], ℕ, zero, suc, not, length, List, Bool, true, false, Option, Some, None, refl, ap, ap₂, sym, subst, ◌∙◌, arith, inl, inr}
use Rattle.std.specs.Prelude.{bytes_eq, is_some, option_map, slice_get, unwrap_or}
use Rattle.std.specs.List.{list_any}
use Rattle.std.specs.Option.{option_or}
use Rattle.std.proofs.lemmas.Bool.{and_parts, or_cases, or_left, or_right}
use Rattle.std.proofs.lemmas.List.Quantifiers.{position-Some}
use Rattle.std.proofs.lemmas.Option.{none-some, same_Some, slice_get-map, unwrap_or-slice_get}
use Rattle.std.proofs.lemmas.Slice.Eq.{bytes_eq-Decides}
use Rattle.names.proofs.FilterLaws.{has_name_filter}
use Rattle.net_tables.proofs.NetLaws.{own_alone}
use Rattle.names.proofs.PlaceLaws.{any_placed, place_none}
use Rattle.net_tables.specs.Nets.{net_in}
use Rattle.net_tables.specs.Places.{ArePlaceNets, IsNamedAt, global_place, net_or_first, place_net}
use Rattle.net_tables.specs.declared.types.CellNet.{CellNet}
use Rattle.net_tables.specs.declared.types.CellNet.TheVariants.{Supply, Port, Global, Own}
use Rattle.vrt_model.proofs.Members.{among_any, among_flat_map, among_later, any_among}
use Rattle.vrt_model.specs.CellRules.{supply_of}
use Rattle.vrt_model.specs.Comparison.{cell_at}
use Rattle.vrt_model.specs.FlatCircuit.{net_id}
use Rattle.vrt_model.specs.Lists.{Among, has_name, place_of}
use Rattle.vrt_model.specs.Unrolled.{Place, Top, cell_named, deepest, first_global, global_nets, globals_of, instances_at, instances_from, is_global_in, mentions, names_global, net_at, own_count, own_net, own_nets, places_in, supply_net, top_cell, top_place}
use Rattle.vrt_model.specs.declared.design.Cell.{Cell}
use Rattle.vrt_model.specs.declared.design.Design.{Design}
use Rattle.vrt_model.specs.declared.design.InstanceCard.{InstanceCard}
use Rattle.vrt_model.specs.declared.ids.Net.{Net}
use Rattle.vrt_model.specs.declared.rules.Rules.{Rules}

-- ---- places of names

-- the name at the place of a name is that name
place_found : (xs : List (List ℕ)) (name : List ℕ) (j : ℕ) → place_of xs name ≡ Some j → unwrap_or (slice_get xs j) [] ≡ name
place_found xs name j e =
    unwrap_or-slice_get xs j [] ∙ sym ((bytes_eq-Decides name _).0 (position-Some (bytes_eq name) xs j [] e).1)

-- a name that is there has a place, and one that has a place is there
placed : (xs : List (List ℕ)) (name : List ℕ) → has_name xs name ≡ true → (k : ℕ) × (place_of xs name ≡ Some k)
placed xs name e = by_place (place_of xs name) refl (sym (any_placed (bytes_eq name) xs) ∙ e) where
  by_place : (o : Option ℕ) → place_of xs name ≡ o → is_some o ≡ true → (k : ℕ) × (place_of xs name ≡ Some k)
  by_place None e some = cc
  by_place (Some k) e some = (k, e)

-- ---- global nets that are named somewhere below

module _ (design : Design) (rules : Rules) (name : List ℕ) where
  -- what is named so deep is named when one looks deeper
  deeper : (depth : ℕ) (cell : Cell) → names_global design rules depth cell name ≡ true → names_global design rules (suc depth) cell name ≡ true
  deeper zero cell e =
      or_left (is_global_in design rules cell name && has_name (mentions cell) name)
      (list_any (λ (i : InstanceCard). names_global design rules 0 (cell_at design (cell_named design i.cell)) name) cell.instances) e
  deeper (suc depth) cell e =
      elim (or_cases (is_global_in design rules cell name && has_name (mentions cell) name)
      (list_any (λ (i : InstanceCard). names_global design rules depth (cell_at design (cell_named design i.cell)) name) cell.instances) e) [
        | inl here ↦ or_left (is_global_in design rules cell name && has_name (mentions cell) name)
            (list_any (λ (i : InstanceCard). names_global design rules (suc depth) (cell_at design (cell_named design i.cell)) name) cell.instances) here
        | inr below ↦ let i = any_among (λ (i : InstanceCard). names_global design rules depth (cell_at design (cell_named design i.cell)) name) cell.instances below in
            or_right (is_global_in design rules cell name && has_name (mentions cell) name)
            (list_any (λ (i : InstanceCard). names_global design rules (suc depth) (cell_at design (cell_named design i.cell)) name) cell.instances)
            (among_any (λ (i : InstanceCard). names_global design rules (suc depth) (cell_at design (cell_named design i.cell)) name) cell.instances i.0 i.1
            (deeper depth (cell_at design (cell_named design i.0.cell)) i.2))
      ]

  deepened : (room depth limit : ℕ) (cell : Cell) → limit ≡ depth + room → names_global design rules depth cell name ≡ true → names_global design rules limit cell name ≡ true
  deepened zero depth limit cell e h = let same : depth ≡ limit = omega (arith, e) in subst (λ (n : ℕ). names_global design rules n cell name ≡ true) same h
  deepened (suc room) depth limit cell e h = deepened room (suc depth) limit cell (omega (arith, e)) (deeper depth cell h)

-- an instance's place is of a card
instance_from : (t : Top) (at : Place) (depth base : ℕ) (cards : List InstanceCard) (inner : Place) → Among (instances_from t at depth base cards) inner
    → (i : InstanceCard) × Among cards i × (cell_named t.design i.cell ≡ inner.cell)
instance_from t at depth base [] inner m = absurd (none-some inner m.1)
instance_from t at depth base (card ∷ cards) inner (zero, e) = (card, (zero, refl), ap (λ (p : Place). p.cell) (same_Some _ inner e))
instance_from t at depth base (card ∷ cards) inner (suc i, e) =
    let rest = instance_from t at depth (base + own_count t.design t.rules depth (cell_at t.design (cell_named t.design card.cell))) cards inner (i, e) in
    (rest.0, among_later card cards rest.0 rest.1, rest.2)

both : (a b : Bool) → a ≡ true → b ≡ true → (a && b) ≡ true
both true b e f = f
both false b e f = e

module _ (t : Top) (inner : Place) (name : List ℕ) where
  abbrev cell : Cell
  cell = cell_at t.design inner.cell

  abbrev HasGlobal : Type 0
  HasGlobal = (is_global_in t.design t.rules cell name ≡ true) × (has_name (mentions cell) name ≡ true)

  -- a global net that a card of a place names is named below each place around it
  named_below : (depth : ℕ) (at : Place) → Among (places_in t depth at) inner → HasGlobal → names_global t.design t.rules depth (cell_at t.design at.cell) name ≡ true
  named_below zero at (zero, e) has =
      subst (λ (p : Place). (is_global_in t.design t.rules (cell_at t.design p.cell) name && has_name (mentions (cell_at t.design p.cell)) name) ≡ true) (sym (same_Some at inner e))
      (both (is_global_in t.design t.rules cell name) (has_name (mentions cell) name) has.0 has.1)
  named_below zero at (suc i, e) has = absurd (none-some inner e)
  named_below (suc depth) at (zero, e) has =
      or_left (is_global_in t.design t.rules (cell_at t.design at.cell) name && has_name (mentions (cell_at t.design at.cell)) name)
      (list_any (λ (i : InstanceCard). names_global t.design t.rules depth (cell_at t.design (cell_named t.design i.cell)) name) (cell_at t.design at.cell).instances)
      (subst (λ (p : Place). (is_global_in t.design t.rules (cell_at t.design p.cell) name && has_name (mentions (cell_at t.design p.cell)) name) ≡ true) (sym (same_Some at inner e))
      (both (is_global_in t.design t.rules cell name) (has_name (mentions cell) name) has.0 has.1))
  named_below (suc depth) at (suc i, e) has =
      let found = among_flat_map (places_in t depth) (instances_at t depth at) inner (i, e) in
      let card = instance_from t at depth _ (cell_at t.design at.cell).instances found.0 found.1 in
      or_right (is_global_in t.design t.rules (cell_at t.design at.cell) name && has_name (mentions (cell_at t.design at.cell)) name)
      (list_any (λ (i : InstanceCard). names_global t.design t.rules depth (cell_at t.design (cell_named t.design i.cell)) name) (cell_at t.design at.cell).instances)
      (among_any (λ (i : InstanceCard). names_global t.design t.rules depth (cell_at t.design (cell_named t.design i.cell)) name) (cell_at t.design at.cell).instances card.0 card.1
      (subst (λ (n : ℕ). names_global t.design t.rules depth (cell_at t.design n) name ≡ true) (sym card.2) (named_below depth found.0 found.2 has)))

  -- so it is among those that the checked cell has when one looks deep enough
  named_in_top : (limit depth : ℕ) → depth ≤ limit → Among (places_in t depth (top_place t)) inner → HasGlobal → names_global t.design t.rules limit (top_cell t) name ≡ true
  named_in_top limit depth le m has =
      deepened t.design t.rules name (limit - depth) depth limit (top_cell t) (omega (arith, le)) (named_below depth (top_place t) m has)

  pub global_among : (depth : ℕ) → depth ≤ deepest → Among (places_in t depth (top_place t)) inner → HasGlobal → has_name (globals_of t) name ≡ true
  unfolding global_nets
  global_among depth le m has =
      has_name_filter (names_global t.design t.rules deepest (top_cell t)) t.design.globals name
      ∙ both (names_global t.design t.rules deepest (top_cell t) name) (has_name t.design.globals name) (named_in_top deepest depth le m has)
      (and_parts (has_name t.design.globals name) (not (is_some (supply_of t.rules name)))
      (and_parts (has_name t.design.globals name && not (is_some (supply_of t.rules name))) (not (has_name cell.ports name)) has.0).0).0

-- ---- the net of a name

module _ (t : Top) (at : Place) (name : List ℕ) where
  abbrev here : Cell
  here = cell_at t.design at.cell

  abbrev by_kind : Option Bool → Option ℕ → Option ℕ → Option CellNet
  by_kind s p g = option_or (option_map (λ (value : Bool). Supply value) s) (option_or (option_map (λ (k : ℕ). Port k) p) (option_map (λ (j : ℕ). Global j) g))

  abbrev flat_by : Option Bool → Option ℕ → Option ℕ → ℕ
  flat_by s p g =
      unwrap_or (option_or (option_map supply_net s) (option_or (option_map (λ (k : ℕ). unwrap_or (slice_get at.ports k) 0) p) (option_map (λ (k : ℕ). first_global t + k) g)))
      (own_net t here at name)

  -- a global net that is not among those of the checked cell
  no_own : (j : ℕ) → supply_of t.rules name ≡ None → place_of here.ports name ≡ None → place_of t.design.globals name ≡ Some j → own_net t here at name ≡ at.base
  no_own j s p g = by_place (place_of (own_nets t.design t.rules here) name) refl where
    by_place : (o : Option ℕ) → place_of (own_nets t.design t.rules here) name ≡ o → at.base + unwrap_or o 0 ≡ at.base
    by_place None e = omega arith
    by_place (Some k) e =
        let alone = own_alone t.design t.rules here name k e in
        let other : by_kind (supply_of t.rules name) (place_of here.ports name) (place_of t.design.globals name) ≡ Some (Global j) =
        ap (λ (o : Option Bool). by_kind o (place_of here.ports name) (place_of t.design.globals name)) s
        ∙ ap₂ (λ (o q : Option ℕ). by_kind None o q) p g in absurd (none-some (Global j) (sym alone ∙ other))

  -- a name that is on no `.global` card
  no_global : place_of t.design.globals name ≡ None → place_of (globals_of t) name ≡ None
  unfolding global_nets
  no_global e =
      place_none (globals_of t) name
      (has_name_filter (names_global t.design t.rules deepest (top_cell t)) t.design.globals name
      ∙ ap (λ (b : Bool). names_global t.design t.rules deepest (top_cell t) name && b) (any_placed (bytes_eq name) t.design.globals ∙ ap is_some e)
      ∙ none (names_global t.design t.rules deepest (top_cell t) name)) where
        none : (b : Bool) → (b && false) ≡ false
        none true = refl
        none false = refl

  -- the net of a name at a place is a case of four
  pub net_is : place_net t at (net_in t.design t.rules here name) ≡ net_at t at name
  unfolding net_in net_at
  net_is = by_test (supply_of t.rules name) (place_of here.ports name) (place_of t.design.globals name) refl refl refl where
    by_test : (s : Option Bool) (p g : Option ℕ) → supply_of t.rules name ≡ s → place_of here.ports name ≡ p → place_of t.design.globals name ≡ g
        → place_net t at (unwrap_or (by_kind s p g) (Own (unwrap_or (place_of (own_nets t.design t.rules here) name) 0))) ≡ flat_by s p (place_of (globals_of t) name)
    by_test (Some value) p g es ep eg = refl
    by_test None (Some k) g es ep eg = refl
    by_test None None (Some j) es ep eg =
        ap (λ (other : List ℕ). unwrap_or (option_map (λ (k : ℕ). first_global t + k) (place_of (globals_of t) other)) at.base) (place_found t.design.globals name j eg)
        ∙ ap (unwrap_or (option_map (λ (k : ℕ). first_global t + k) (place_of (globals_of t) name))) (sym (no_own j es ep eg))
    by_test None None None es ep eg =
        sym (ap (λ (o : Option ℕ). unwrap_or (option_map (λ (k : ℕ). first_global t + k) o) (own_net t here at name)) (no_global eg))

  -- where it is a global net, it is one of those of the checked cell
  pub global_there : (j : ℕ) → IsNamedAt t at name → Global j ≡ net_in t.design t.rules here name → (j < length t.design.globals) × (k : ℕ) × (global_place t j ≡ Some k)
  unfolding net_in
  global_there j named is = by_test (supply_of t.rules name) (place_of here.ports name) (place_of t.design.globals name) refl refl refl is where
    by_test : (s : Option Bool) (p g : Option ℕ) → supply_of t.rules name ≡ s → place_of here.ports name ≡ p → place_of t.design.globals name ≡ g
        → Global j ≡ unwrap_or (by_kind s p g) (Own (unwrap_or (place_of (own_nets t.design t.rules here) name) 0)) → (j < length t.design.globals) × (k : ℕ) × (global_place t j ≡ Some k)
    by_test (Some value) p g es ep eg h = cc
    by_test None (Some k) g es ep eg h = cc
    by_test None None None es ep eg h = cc
    by_test None None (Some i) es ep eg h =
        let same : i ≡ j = cc in
        let no_port : has_name here.ports name ≡ false = any_placed (bytes_eq name) here.ports ∙ ap is_some ep in
        let there : is_global_in t.design t.rules here name ≡ true =
        ap (λ (b : Bool). (b && not (is_some (supply_of t.rules name))) && not (has_name here.ports name)) (any_placed (bytes_eq name) t.design.globals ∙ ap is_some eg)
        ∙ ap₂ (λ (s : Option Bool) (b : Bool). not (is_some s) && not b) es no_port in
        let on_card : has_name (mentions here) name ≡ true = ap (λ (b : Bool). b || has_name (mentions here) name) (sym no_port) ∙ named.3 in
        let k = placed (globals_of t) name (global_among t at name named.0 named.1 named.2 (there, on_card)) in
        let found : place_of t.design.globals name ≡ Some j = eg ∙ ap Some same in (
          (position-Some (bytes_eq name) t.design.globals j [] found).0,
          k.0,
          ap (place_of (globals_of t)) (place_found t.design.globals name j found) ∙ k.1,
        )

-- ---- the net of a net of the cell

module _ (t : Top) (at : Place) (ports : List Net) (base : ℕ) (globals : List Net) (are : ArePlaceNets t at ports base globals) where
  pub port_is : (k : ℕ) → (net_or_first ports k).0 ≡ place_net t at (Port k)
  port_is k = by_port (slice_get ports k) ∙ ap (λ (o : Option ℕ). unwrap_or o 0) (sym (slice_get-map (λ (n : Net). n.0) ports k) ∙ ap (λ (ns : List ℕ). slice_get ns k) are.ports_are) where
    by_port : (o : Option Net) → (unwrap_or o (net_id 0)).0 ≡ unwrap_or (option_map (λ (n : Net). n.0) o) 0
    by_port None = refl
    by_port (Some n) = refl

  pub global_is : (j k : ℕ) → j < length t.design.globals → global_place t j ≡ Some k → (net_or_first globals j).0 ≡ place_net t at (Global j)
  global_is j k lt e =
      ap (λ (o : Option Net). (unwrap_or o (net_id 0)).0) (are.globals_are j k lt e)
      ∙ sym (ap (λ (o : Option ℕ). unwrap_or (option_map (λ (n : ℕ). first_global t + n) o) at.base) e)
