-- Where the ports and the own nets of a place have a property, so has the net of each name in it and in all places in it.
use Rattle.std.proofs.Common.{◌≡◌, ◌<◌, ◌≤◌, ◌+◌, ◌∷◌, ◌&&◌, ◌||◌, ◌⊎◌, [], ℕ, zero, suc, not, List, Bool, true, false, map, flat_map, length, Option, Some, None, refl, ap, ap₂, sym, ◌∙◌, subst, arith, inl, inr}
use Rattle.std.specs.Prelude.{bytes_eq, filter, is_some, option_map, slice_get, unwrap_or}
use Rattle.std.specs.List.{list_any}
use Rattle.std.specs.Option.{option_or}
use Rattle.std.proofs.lemmas.Bool.{and_from, cases_Bool, or_left, or_right}
use Rattle.std.proofs.lemmas.List.Quantifiers.{position-Some}
use Rattle.std.proofs.lemmas.List.Sums.{sum_by-cons}
use Rattle.std.proofs.lemmas.Option.{none-some, same_Some}
use Rattle.std.proofs.lemmas.Slice.Eq.{bytes_eq-Decides}
use Rattle.cell_inside.proofs.ShiftedPlaces.{among_name, name_placed}
use Rattle.placed_cells.proofs.RowLaws.{cards_size}
use Rattle.placed_cells.specs.Rows.{own_size, size_inside}
use Rattle.placed_cells.specs.Splits.{is_net_in}
use Rattle.vrt_model.proofs.Filtered.{among_kept}
use Rattle.vrt_model.proofs.Members.{among_any, among_either, among_later, among_map, among_right, any_among, flat_map_among}
use Rattle.vrt_model.specs.CellRules.{supply_of}
use Rattle.vrt_model.specs.Comparison.{cell_at}
use Rattle.vrt_model.specs.Lists.{Among, distinct, has_name, place_of}
use Rattle.vrt_model.specs.Unrolled.{Place, Top, cell_named, first_global, globals_of, instances_from, is_global_in, is_own, mentions, names_global, net_at, own_net, own_nets, places_in, supply_net, top_place}
use Rattle.vrt_model.specs.declared.design.Cell.{Cell}
use Rattle.vrt_model.specs.declared.design.DeviceCard.{DeviceCard}
use Rattle.vrt_model.specs.declared.design.InstanceCard.{InstanceCard}

-- ---- names in lists

pub name_among : (names : List (List ℕ)) (name : List ℕ) → has_name names name ≡ true → Among names name
name_among names name h =
    let found = any_among (bytes_eq name) names h in
    subst (λ (x : List ℕ). Among names x) (sym ((bytes_eq-Decides name found.0).0 found.2)) found.1

-- what stands in a list of names stands in it where each stands once
distinct_among : (names : List (List ℕ)) (name : List ℕ) → Among names name → Among (distinct names) name
distinct_among [] name m = absurd (none-some name m.1)
distinct_among (x ∷ names) name (zero, e) = (zero, e)
distinct_among (x ∷ names) name (suc i, e) = by_test (cases_Bool (bytes_eq x name)) (distinct_among names name (i, e))
  where
    by_test : (bytes_eq x name ≡ true) ⊎ (bytes_eq x name ≡ false) → Among (distinct names) name → Among (distinct (x ∷ names)) name
    by_test (inl same) m = (0, ap (λ (y : List ℕ). Some y) ((bytes_eq-Decides x name).0 same))
    by_test (inr other) m = among_later x (filter (λ y. not (bytes_eq x y)) (distinct names)) name (among_kept (λ y. not (bytes_eq x y)) (distinct names) name m (ap not other))

placed_below : (names : List (List ℕ)) (name : List ℕ) (k : ℕ) → place_of names name ≡ Some k → k < length names
placed_below names name k e = (position-Some (bytes_eq name) names k [] e).0

-- the nets of an instance card are mentioned
pub card_named : (cell : Cell) (card : InstanceCard) (name : List ℕ) → Among cell.instances card → Among card.nets name → is_net_in cell name ≡ true
card_named cell card name m on =
    or_right (has_name cell.ports name) (has_name (mentions cell) name)
    (among_name (mentions cell) name
    (among_right (flat_map (λ (d : DeviceCard). d.drain ∷ d.gate ∷ d.source ∷ []) cell.devices) (flat_map (λ (j : InstanceCard). j.nets) cell.instances) name
    (flat_map_among (λ (j : InstanceCard). j.nets) cell.instances card name m on)))

module _ (t : Top) where
  -- the global nets that the cards of a cell name, and of the cells in it at most so deep, are those of the checked cell
  pub record HasGlobals (depth cell : ℕ) : Type 0 where
    pub listed : (name : List ℕ) → has_name t.design.globals name ≡ true → names_global t.design t.rules depth (cell_at t.design cell) name ≡ true → has_name (globals_of t) name ≡ true

  -- so it is with the cell of each instance
  pub inner_globals : (depth k : ℕ) → HasGlobals (suc depth) k → (i : InstanceCard) → Among (cell_at t.design k).instances i → HasGlobals depth (cell_named t.design i.cell)
  inner_globals depth k h i m = record {
    listed = λ name global named.
        h.listed name global
        (or_right (is_global_in t.design t.rules (cell_at t.design k) name && has_name (mentions (cell_at t.design k)) name)
        (list_any (λ (j : InstanceCard). names_global t.design t.rules depth (cell_at t.design (cell_named t.design j.cell)) name) (cell_at t.design k).instances)
        (among_any (λ (j : InstanceCard). names_global t.design t.rules depth (cell_at t.design (cell_named t.design j.cell)) name) (cell_at t.design k).instances i m named));
  }

  pub own_inside : (depth k : ℕ) → own_size t k ≤ size_inside t depth k
  own_inside zero k = omega arith
  own_inside (suc depth) k = omega arith

  -- ---- a property that the nets have that all places share

  module _ (P : ℕ → Type 0) (shared : (n : ℕ) → n < (top_place t).base → P n) where
    -- the net of each name in the place has it
    abbrev pub NamesHave : Place → Type 0
    NamesHave r = (name : List ℕ) → is_net_in (cell_at t.design r.cell) name ≡ true → P (net_at t r name)

    -- so have the place's ports and its own nets, with those of places in it at most so deep
    pub record NetsHave (depth : ℕ) (r : Place) : Type 0 where
      pub ports : (n : ℕ) → Among r.ports n → P n
      pub own : (n : ℕ) → r.base ≤ n → n < r.base + size_inside t depth r.cell → P n
      pub globals : HasGlobals depth r.cell

    -- ---- one name

    module _ (depth : ℕ) (r : Place) (name : List ℕ) (globals : HasGlobals depth r.cell) where
      abbrev cell : Cell
      cell = cell_at t.design r.cell

      -- a global name on a card is a global net of the checked cell
      global_listed : is_global_in t.design t.rules cell name ≡ true → has_name (mentions cell) name ≡ true → has_name t.design.globals name ≡ true → has_name (globals_of t) name ≡ true
      global_listed is on global = globals.listed name global (named depth)
        where
          here : (is_global_in t.design t.rules cell name && has_name (mentions cell) name) ≡ true
          here = and_from (is_global_in t.design t.rules cell name) (has_name (mentions cell) name) is on

          named : (d : ℕ) → names_global t.design t.rules d cell name ≡ true
          named zero = here
          named (suc d) = or_left _ _ here

      -- a net that is no supply, no port and no global net has a place among the own nets
      own_placed : is_net_in cell name ≡ true → supply_of t.rules name ≡ None → place_of cell.ports name ≡ None → place_of (globals_of t) name ≡ None
          → (k : ℕ) × (place_of (own_nets t.design t.rules cell) name ≡ Some k)
      unfolding own_nets
      own_placed is s p g = by_global (cases_Bool (has_name t.design.globals name))
        where
          no_port : has_name cell.ports name ≡ false
          no_port =
              elim (cases_Bool (has_name cell.ports name)) [
                | inr f ↦ f
                | inl h ↦ absurd (let k = name_placed cell.ports name h in none-some k.0 (sym p ∙ k.1))
              ]

          on_card : has_name (mentions cell) name ≡ true
          on_card = ap (λ (b : Bool). b || has_name (mentions cell) name) (sym no_port) ∙ is

          by_global : (has_name t.design.globals name ≡ true) ⊎ (has_name t.design.globals name ≡ false) → (k : ℕ) × (place_of (distinct (filter (is_own t.design t.rules cell) (mentions cell))) name ≡ Some k)
          by_global (inl e) =
              let global : is_global_in t.design t.rules cell name ≡ true =
              ap (λ (b : Bool). (b && not (is_some (supply_of t.rules name))) && not (has_name cell.ports name)) e
              ∙ ap₂ (λ (o : Option Bool) (b : Bool). not (is_some o) && not b) s no_port in
              absurd (let k = name_placed (globals_of t) name (global_listed global on_card e) in none-some k.0 (sym g ∙ k.1))
          by_global (inr e) =
              let own : is_own t.design t.rules cell name ≡ true =
              ap₂ (λ (o : Option Bool) (b : Bool). (not (is_some o) && not b) && not (has_name t.design.globals name)) s no_port ∙ ap not e in
              name_placed (distinct (filter (is_own t.design t.rules cell) (mentions cell))) name
              (among_name (distinct (filter (is_own t.design t.rules cell) (mentions cell))) name
              (distinct_among (filter (is_own t.design t.rules cell) (mentions cell)) name (among_kept (is_own t.design t.rules cell) (mentions cell) name (name_among (mentions cell) name on_card) own)))

      pub net_has : ((n : ℕ) → Among r.ports n → P n) → ((n : ℕ) → r.base ≤ n → n < r.base + own_size t r.cell → P n) → is_net_in cell name ≡ true → P (net_at t r name)
      unfolding net_at
      net_has ports own is = by_tests (supply_of t.rules name) (place_of cell.ports name) (place_of (globals_of t) name) refl refl refl
        where
          at_supply : (value : Bool) → P (supply_net value)
          at_supply true = shared 1 (omega arith)
          at_supply false = shared 0 (omega arith)

          at_port : (o : Option ℕ) (k : ℕ) → slice_get r.ports k ≡ o → P (unwrap_or o 0)
          at_port None k e = shared 0 (omega arith)
          at_port (Some n) k e = ports n (k, e)

          by_own : (k : ℕ) → place_of (own_nets t.design t.rules cell) name ≡ Some k → P (own_net t cell r name)
          by_own k e =
              let lt = placed_below (own_nets t.design t.rules cell) name k e in
              subst (λ (o : Option ℕ). P (r.base + unwrap_or o 0)) (sym e) (own (r.base + k) (omega arith) (omega (arith, lt)))

          by_tests : (s : Option Bool) (p g : Option ℕ) → supply_of t.rules name ≡ s → place_of cell.ports name ≡ p → place_of (globals_of t) name ≡ g
              → P (unwrap_or (option_or (option_map supply_net s) (option_or (option_map (λ (k : ℕ). unwrap_or (slice_get r.ports k) 0) p) (option_map (λ (k : ℕ). first_global t + k) g))) (own_net t cell r name))
          by_tests (Some value) p g es ep eg = at_supply value
          by_tests None (Some k) g es ep eg = at_port (slice_get r.ports k) k refl
          by_tests None None (Some k) es ep eg = let lt = placed_below (globals_of t) name k eg in shared (first_global t + k) (omega (arith, lt))
          by_tests None None None es ep eg = let k = own_placed is es ep eg in by_own k.0 k.1

    -- ---- all places in a place

    -- each port of a place and each name in it has it
    abbrev pub PlaceHas : Place → Type 0
    PlaceHas r = ((n : ℕ) → Among r.ports n → P n) × NamesHave r

    place_has : (depth : ℕ) (r : Place) → NetsHave depth r → PlaceHas r
    place_has depth r nets = (
      nets.ports,
      λ name is.
          let size = own_inside depth r.cell in
          net_has depth r name nets.globals nets.ports (λ n low high. nets.own n low (omega (arith, high, size))) is,
    )

    -- the ports of an instance are names of the place around it
    pub tied_have : (q : Place) (card : InstanceCard) → Among (cell_at t.design q.cell).instances card → NamesHave q → (n : ℕ) → Among (map (net_at t q) card.nets) n → P n
    tied_have q card there names n on =
        let name = among_map (net_at t q) card.nets n on in
        subst P name.2 (names name.0 (card_named (cell_at t.design q.cell) card name.0 there name.1))

    pub cards_have : (depth : ℕ) → ((p r : Place) → NetsHave depth p → Among (places_in t depth p) r → PlaceHas r)
        → (q : Place) → NamesHave q → HasGlobals (suc depth) q.cell → (base : ℕ) (cards : List InstanceCard) → ((i : InstanceCard) → Among cards i → Among (cell_at t.design q.cell).instances i)
        → ((n : ℕ) → base ≤ n → n < base + cards_size t depth cards → P n) → (r : Place) → Among (flat_map (places_in t depth) (instances_from t q depth base cards)) r → PlaceHas r
    cards_have depth inner q names globals base [] all range r m = absurd (none-some r m.1)
    cards_have depth inner q names globals base (i ∷ cards) all range r m =
        let k = cell_named t.design i.cell in
        let place : Place = record { cell = k; path = record { instance = i.name; within = (cell_at t.design q.cell).name } ∷ q.path; ports = map (net_at t q) i.nets; base = base } in
        let next : ℕ = base + size_inside t depth k in
        let sum = sum_by-cons (λ (j : InstanceCard). size_inside t depth (cell_named t.design j.cell)) i cards in
        let nets : NetsHave depth place = record {
          ports = tied_have q i (all i (0, refl)) names;
          own = λ n low high. range n low (omega (arith, high, sum));
          globals = inner_globals depth q.cell globals i (all i (0, refl));
        } in
        elim (among_either (places_in t depth place) (flat_map (places_in t depth) (instances_from t q depth next cards)) r m) [
          | inl here ↦ inner place r nets here
          | inr rest ↦
              cards_have depth inner q names globals next cards (λ j on. all j (among_later i cards j on)) (λ n low high. range n (omega (arith, low)) (omega (arith, high, sum))) r rest
        ]

    pub all_have : (depth : ℕ) (p r : Place) → NetsHave depth p → Among (places_in t depth p) r → PlaceHas r
    all_have zero p r nets (zero, e) = subst PlaceHas (same_Some p r e) (place_has zero p nets)
    all_have zero p r nets (suc i, e) = absurd (none-some r e)
    all_have (suc depth) p r nets (zero, e) = subst PlaceHas (same_Some p r e) (place_has (suc depth) p nets)
    all_have (suc depth) p r nets (suc i, e) =
        cards_have depth (λ q s a m. all_have depth q s a m) p (place_has (suc depth) p nets).1 nets.globals (p.base + own_size t p.cell) (cell_at t.design p.cell).instances (λ j on. on)
        (λ n low high. nets.own n (omega (arith, low)) (omega (arith, high))) r (i, e)
