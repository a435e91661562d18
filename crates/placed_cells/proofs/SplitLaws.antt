-- The places in a place stand together among all places, and no other place names their own nets.
use Rattle.std.proofs.Common.{◌≡◌, ◌<◌, ◌≤◌, ◌+◌, ◌++◌, ◌∷◌, ◌⊎◌, [], ℕ, zero, suc, cond, List, Bool, true, false, map, flat_map, length, Option, Some, None, refl, ap, sym, ◌∙◌, subst, arith, inl, inr, length-append, append-nil, append_assoc}
use Rattle.std.specs.Prelude.{filter, is_none}
use Rattle.std.proofs.lemmas.Option.{none-some, same_Some}
use Rattle.cell_inside.proofs.ShiftedPlaces.{among_name}
use Rattle.cell_inside.specs.Shifted.{IsWithinDepth}
use Rattle.placed_cells.proofs.NameLaws.{HasGlobals, NamesHave, NetsHave, all_have, cards_have, inner_globals, name_among, net_has, tied_have}
use Rattle.place_paths.proofs.PathLaws.{cards_apart, path_on, path_over}
use Rattle.place_paths.specs.Paths.{same_card, step_at}
use Rattle.placed_cells.proofs.PathLaws.{leads, leads_not_past, leads_not_short}
use Rattle.placed_cells.proofs.RowLaws.{all_in_row, cards_in_row, cards_size, in_row, row_ends, row_grows, row_split}
use Rattle.placed_cells.specs.Rows.{AreInRow, own_size, size_inside}
use Rattle.placed_cells.specs.Splits.{IsOutsideOf, IsSplit, PlacesInStandTogether, leads_through}
use Rattle.vrt_model.proofs.Filtered.{among_kept}
use Rattle.vrt_model.proofs.Lists.{at_either}
use Rattle.vrt_model.proofs.Members.{among_either, among_later, among_left, among_right}
use Rattle.vrt_model.specs.CellRules.{supply_of}
use Rattle.vrt_model.specs.Comparison.{cell_at, port_nets_from}
use Rattle.vrt_model.specs.Inputs.{AllApart, IsDesign}
use Rattle.vrt_model.specs.Lists.{Among, At}
use Rattle.vrt_model.specs.Unrolled.{Place, Step, Top, all_places, cell_named, deepest, global_nets, globals_of, instances_from, names_global, net_at, places_in, top_cell, top_place}
use Rattle.vrt_model.specs.declared.design.InstanceCard.{InstanceCard}
use Rattle.vrt_model.specs.declared.rules.Rules.{Rules}

-- ---- the ports of the checked cell

pub port_below : (rules : Rules) (next : ℕ) (names : List (List ℕ)) (n : ℕ) → 2 ≤ next → Among (port_nets_from rules next names) n → n < next + length (filter (λ (name : List ℕ). is_none (supply_of rules name)) names)
port_below rules next [] n le m = absurd (none-some n m.1)
port_below rules next (x ∷ xs) n le m = by_test (supply_of rules x) (λ k more on. port_below rules k xs n more on) m
  where
    low : (value : Bool) → cond value 1 0 < 2
    low true = omega arith
    low false = omega arith

    by_test : (o : Option Bool) → ((k : ℕ) → 2 ≤ k → Among (port_nets_from rules k xs) n → n < k + length (filter (λ (name : List ℕ). is_none (supply_of rules name)) xs))
        → Among (elim o [ None ↦ next ∷ port_nets_from rules (suc next) xs | Some value ↦ cond value 1 0 ∷ port_nets_from rules next xs ]) n
        → n < next + length (cond (is_none o) (x ∷ filter (λ (name : List ℕ). is_none (supply_of rules name)) xs) (filter (λ (name : List ℕ). is_none (supply_of rules name)) xs))
    by_test None rest (zero, e) = let same = same_Some next n e in omega (arith, same)
    by_test None rest (suc i, e) = let lt = rest (suc next) (omega (arith, le)) (i, e) in omega (arith, lt)
    by_test (Some value) rest (zero, e) = let same = same_Some (cond value 1 0) n e in let less = low value in omega (arith, same, less, le)
    by_test (Some value) rest (suc i, e) = rest next le (i, e)

module _ (t : Top) where
  -- ---- ranges

  first_base : (depth : ℕ) (p : Place) (from to : ℕ) → AreInRow t (places_in t depth p) from to → p.base ≡ from
  first_base zero p from to h = h.0
  first_base (suc depth) p from to h = h.0

  -- the own nets of a place and of those in it, in the row of a longer list
  pub bounds : (xs ys : List Place) (depth : ℕ) (p : Place) (from to : ℕ) → AreInRow t (xs ++ (places_in t depth p ++ ys)) from to
      → (from ≤ p.base) × (p.base + size_inside t depth p.cell ≤ to)
  bounds xs ys depth p from to h =
      let a = row_split t xs (places_in t depth p ++ ys) from to h in
      let b = row_split t (places_in t depth p) ys a.0 to a.2 in
      let base = first_base depth p a.0 b.0 b.1 in
      let ends = row_ends t (places_in t depth p) p.base (p.base + size_inside t depth p.cell) b.0 (in_row t depth p) (subst (λ (n : ℕ). AreInRow t (places_in t depth p) n b.0) (sym base) b.1) in
      let low = row_grows t xs from a.0 a.1 in
      let high = row_grows t ys b.0 to b.2 in
      (omega (arith, low, base), omega (arith, high, ends))

  -- ---- a place in another

  module _ (inner : ℕ) (p : Place) where
    -- no net of a list, and no name in a place, is an own net of the place or of those in it
    abbrev NetsOutside : List ℕ → Type 0
    NetsOutside nets = (n : ℕ) → Among nets n → IsOutsideOf t inner p n

    shared_outside : (top_place t).base ≤ p.base → (n : ℕ) → n < (top_place t).base → IsOutsideOf t inner p n
    shared_outside shared n lt = inl (omega (arith, shared, lt))

    abbrev NamesOutside : (top_place t).base ≤ p.base → Place → Type 0
    NamesOutside shared r = NamesHave t (IsOutsideOf t inner p) (shared_outside shared) r

  record PlaceSplit (depth : ℕ) (q : Place) (number : ℕ) (p : Place) (inner : ℕ) (before behind : List Place) : Type 0 where
    pub number_is : length before ≡ number
    pub whole : places_in t depth q ≡ before ++ (places_in t inner p ++ behind)
    pub depth_is : inner + length p.path ≡ depth + length q.path
    pub within : IsWithinDepth t depth q.cell → IsWithinDepth t inner p.cell
    pub path_is : (steps : List Step) × (p.path ≡ steps ++ q.path)
    pub past : IsDesign t.design → (r : Place) → Among (before ++ behind) r → leads_through r p ≡ false
    pub outside :
        (shared : (top_place t).base ≤ p.base) → HasGlobals t depth q.cell → NetsOutside inner p q.ports
        → NetsOutside inner p p.ports × ((r : Place) → Among (before ++ behind) r → NetsOutside inner p r.ports × NamesOutside inner p shared r)

  -- the same in some instances of a place
  record CardsSplit (depth : ℕ) (q : Place) (base : ℕ) (cards : List InstanceCard) (number : ℕ) (p : Place) (inner : ℕ) (before behind : List Place) : Type 0 where
    pub number_is : length before ≡ number
    pub whole : flat_map (places_in t depth) (instances_from t q depth base cards) ≡ before ++ (places_in t inner p ++ behind)
    pub depth_is : inner + length p.path ≡ depth + suc (length q.path)
    pub within : ((i : InstanceCard) → Among cards i → IsWithinDepth t depth (cell_named t.design i.cell)) → IsWithinDepth t inner p.cell
    pub path_is : (c : InstanceCard) × Among cards c × (steps : List Step) × (p.path ≡ steps ++ step_at t q c ∷ q.path)
    pub past : IsDesign t.design → AllApart same_card cards → (r : Place) → Among (before ++ behind) r → leads_through r p ≡ false
    pub outside :
        (shared : (top_place t).base ≤ p.base) → HasGlobals t (suc depth) q.cell → NamesOutside inner p shared q
        → ((i : InstanceCard) → Among cards i → Among (cell_at t.design q.cell).instances i)
        → NetsOutside inner p p.ports × ((r : Place) → Among (before ++ behind) r → NetsOutside inner p r.ports × NamesOutside inner p shared r)

  abbrev SplitsPlace : ℕ → Place → ℕ → Place → Type 0
  SplitsPlace depth q number p = (inner : ℕ) × (before : List Place) × (behind : List Place) × PlaceSplit depth q number p inner before behind

  abbrev SplitsCards : ℕ → Place → ℕ → List InstanceCard → ℕ → Place → Type 0
  SplitsCards depth q base cards number p = (inner : ℕ) × (before : List Place) × (behind : List Place) × CardsSplit depth q base cards number p inner before behind

  -- one of three lists
  which : {X : Type 0} (xs ys zs : List X) (x : X) → Among (xs ++ (ys ++ zs)) x → Among (xs ++ ys) x ⊎ Among zs x
  which xs ys zs x m =
      elim (among_either xs (ys ++ zs) x m) [
        | inl a ↦ inl (among_left xs ys x a)
        | inr b ↦ elim (among_either ys zs x b) [ inl a ↦ inl (among_right xs ys x a) | inr c ↦ inr c ]
      ]

  module _ (depth : ℕ) (each : (q : Place) (number : ℕ) (p : Place) → At (places_in t depth q) number p → SplitsPlace depth q number p) where
    module _ (q : Place) (base : ℕ) (i : InstanceCard) (cards : List InstanceCard) where
      -- the first instance, and the places of the others
      abbrev first : Place
      first = record { cell = cell_named t.design i.cell; path = record { instance = i.name; within = (cell_at t.design q.cell).name } ∷ q.path; ports = map (net_at t q) i.nets; base = base }

      abbrev next : ℕ
      next = base + size_inside t depth (cell_named t.design i.cell)

      abbrev rest : List Place
      rest = flat_map (places_in t depth) (instances_from t q depth next cards)

      in_first : (number : ℕ) (p : Place) → At (places_in t depth first) number p → SplitsCards depth q base (i ∷ cards) number p
      in_first number p here =
          let s = each first number p here in
          let sub = places_in t s.0 p in
          let split = s.3 in (
            s.0,
            s.1,
            s.2 ++ rest,
            record {
              number_is = split.number_is;
              whole = ap (λ (ps : List Place). ps ++ rest) split.whole ∙ append_assoc s.1 (sub ++ s.2) rest ∙ ap (λ (ps : List Place). s.1 ++ ps) (append_assoc sub s.2 rest);
              depth_is = split.depth_is;
              within = λ h. split.within (h i (0, refl));
              path_is = (i, (0, refl), split.path_is.0, split.path_is.1);
              past = λ is apart r m.
                  elim (which s.1 s.2 rest r m) [
                    | inl near ↦ split.past is r near
                    | inr far ↦
                        let other = path_over t depth q next cards r far in
                        leads_not_past r p other.2 split.path_is.0 (step_at t q other.0) (step_at t q i) q.path other.3 split.path_is.1
                        (λ same. let e = apart (suc other.1.0) 0 other.0 i other.1.1 refl same in absurd (omega (arith, e)))
                  ];
              outside = λ shared globals names all.
                  let ends = (bounds s.1 s.2 s.0 p base next (subst (λ (ps : List Place). AreInRow t ps base next) split.whole (in_row t depth first))).1 in
                  let o = split.outside shared (inner_globals t depth q.cell globals i (all i (0, refl))) (tied_have t (IsOutsideOf t s.0 p) (shared_outside s.0 p shared) q i (all i (0, refl)) names) in (
                    o.0,
                    λ r m.
                        elim (which s.1 s.2 rest r m) [
                          | inl near ↦ o.1 r near
                          | inr far ↦
                              cards_have t (IsOutsideOf t s.0 p) (shared_outside s.0 p shared) depth (λ a b nets on. all_have t (IsOutsideOf t s.0 p) (shared_outside s.0 p shared) depth a b nets on)
                              q names globals next cards (λ j on. all j (among_later i cards j on)) (λ n low high. inr (omega (arith, ends, low))) r far
                        ],
                  );
            },
          )

      in_rest : (j : ℕ) (p : Place) → SplitsCards depth q next cards j p → (number : ℕ) → number ≡ length (places_in t depth first) + j → SplitsCards depth q base (i ∷ cards) number p
      in_rest j p s number place =
          let sub = places_in t s.0 p in
          let split = s.3 in
          let before = places_in t depth first ++ s.1 in (
            s.0,
            before,
            s.2,
            record {
              number_is = length-append (places_in t depth first) s.1 ∙ ap (λ (n : ℕ). length (places_in t depth first) + n) split.number_is ∙ sym place;
              whole = ap (λ (ps : List Place). places_in t depth first ++ ps) split.whole ∙ sym (append_assoc (places_in t depth first) s.1 (sub ++ s.2));
              depth_is = split.depth_is;
              within = λ h. split.within (λ c m. h c (among_later i cards c m));
              path_is = (split.path_is.0, among_later i cards split.path_is.0 split.path_is.1, split.path_is.2, split.path_is.3);
              past = λ is apart r m.
                  let later : AllApart same_card cards = λ a b x y here there same. let e = apart (suc a) (suc b) x y here there same in omega (arith, e) in
                  elim (among_either before s.2 r m) [
                    | inl near ↦ elim (among_either (places_in t depth first) s.1 r near) [
                      | inl here ↦
                          let on = path_on t depth first r here in
                          leads_not_past r p on.0 split.path_is.2 (step_at t q i) (step_at t q split.path_is.0) q.path on.1 split.path_is.3
                          (λ same. let e = apart 0 (suc split.path_is.1.0) i split.path_is.0 refl split.path_is.1.1 same in absurd (omega (arith, e)))
                      | inr there ↦ split.past is later r (among_left s.1 s.2 r there)
                    ]
                    | inr far ↦ split.past is later r (among_right s.1 s.2 r far)
                  ];
              outside = λ shared globals names all.
                  let begins = (bounds s.1 s.2 s.0 p next (next + cards_size t depth cards) (subst (λ (ps : List Place). AreInRow t ps next (next + cards_size t depth cards)) split.whole (cards_in_row t depth (λ a. in_row t depth a) q next cards))).0 in
                  let o = split.outside shared globals names (λ c m. all c (among_later i cards c m)) in
                  let nets : NetsHave t (IsOutsideOf t s.0 p) (shared_outside s.0 p shared) depth first = record {
                    ports = tied_have t (IsOutsideOf t s.0 p) (shared_outside s.0 p shared) q i (all i (0, refl)) names;
                    own = λ n low high. inl (omega (arith, high, begins));
                    globals = inner_globals t depth q.cell globals i (all i (0, refl));
                  } in (
                    o.0,
                    λ r m.
                        elim (among_either before s.2 r m) [
                          | inl near ↦ elim (among_either (places_in t depth first) s.1 r near) [
                            | inl here ↦ all_have t (IsOutsideOf t s.0 p) (shared_outside s.0 p shared) depth first r nets here
                            | inr there ↦ o.1 r (among_left s.1 s.2 r there)
                          ]
                          | inr far ↦ o.1 r (among_right s.1 s.2 r far)
                        ],
                  );
            },
          )

    cards_split : (q : Place) (base : ℕ) (cards : List InstanceCard) (number : ℕ) (p : Place) → At (flat_map (places_in t depth) (instances_from t q depth base cards)) number p
        → SplitsCards depth q base cards number p
    cards_split q base [] number p e = absurd (none-some p e)
    cards_split q base (i ∷ cards) number p e =
        elim (at_either (places_in t depth (first q base i cards)) (rest q base i cards) number p e) [
          | inl here ↦ in_first q base i cards number p here
          | inr later ↦ in_rest q base i cards later.0 p (cards_split q (next q base i cards) cards later.0 p later.2) number later.1
        ]

  -- a place in itself
  itself : (depth : ℕ) (q : Place) → SplitsPlace depth q 0 q
  itself depth q = (
    depth,
    [],
    [],
    record {
      number_is = refl;
      whole = sym (append-nil (places_in t depth q));
      depth_is = refl;
      within = λ h. h;
      path_is = ([], refl);
      past = λ is r m. absurd (none-some r m.1);
      outside = λ shared globals ports. (ports, λ r m. absurd (none-some r m.1));
    },
  )

  place_split : (depth : ℕ) (q : Place) (number : ℕ) (p : Place) → At (places_in t depth q) number p → SplitsPlace depth q number p
  place_split zero q zero p e = subst (λ (r : Place). SplitsPlace zero q 0 r) (same_Some q p e) (itself zero q)
  place_split zero q (suc number) p e = absurd (none-some p e)
  place_split (suc depth) q zero p e = subst (λ (r : Place). SplitsPlace (suc depth) q 0 r) (same_Some q p e) (itself (suc depth) q)
  place_split (suc depth) q (suc number) p e =
      let from : ℕ = q.base + own_size t q.cell in
      let cards = (cell_at t.design q.cell).instances in
      let s = cards_split depth (λ r j a m. place_split depth r j a m) q from cards number p e in
      let split = s.3 in
      let deep = split.depth_is in (
        s.0,
        q ∷ s.1,
        s.2,
        record {
          number_is = ap suc split.number_is;
          whole = ap (λ (ps : List Place). q ∷ ps) split.whole;
          depth_is = omega (arith, deep);
          within = λ h. split.within h;
          path_is = (
            split.path_is.2 ++ step_at t q split.path_is.0 ∷ [],
            split.path_is.3 ∙ sym (append_assoc split.path_is.2 (step_at t q split.path_is.0 ∷ []) q.path),
          );
          past = λ is r m.
              elim (among_either (q ∷ []) (s.1 ++ s.2) r m) [
                | inl here ↦
                    leads_not_short r p
                    (let same = ap (λ (a : Place). length a.path) (only q r here) in
                    let count = ap (λ (a : List Step). length a) split.path_is.3 ∙ length-append split.path_is.2 (step_at t q split.path_is.0 ∷ q.path) in
                    omega (arith, same, count))
                | inr far ↦ split.past is (cards_apart t.design is q.cell) r far
              ];
          outside = λ shared globals ports.
              let begins = (bounds s.1 s.2 s.0 p from (from + cards_size t depth cards) (subst (λ (ps : List Place). AreInRow t ps from (from + cards_size t depth cards)) split.whole (cards_in_row t depth (λ a. in_row t depth a) q from cards))).0 in
              let names : NamesOutside s.0 p shared q = λ name is. net_has t (IsOutsideOf t s.0 p) (shared_outside s.0 p shared) (suc depth) q name globals ports (λ n low high. inl (omega (arith, high, begins))) is in
              let o = split.outside shared globals names (λ i m. m) in (
                o.0,
                λ r m.
                    elim (among_either (q ∷ []) (s.1 ++ s.2) r m) [
                      | inl here ↦ subst (λ (a : Place). NetsOutside s.0 p a.ports × NamesOutside s.0 p shared a) (only q r here) (ports, names)
                      | inr far ↦ o.1 r far
                    ],
              );
        },
      )
    where
      only : (a r : Place) → Among (a ∷ []) r → a ≡ r
      only a r (zero, e) = same_Some a r e
      only a r (suc i, e) = absurd (none-some r e)

  -- ---- the whole

  pub top_globals : HasGlobals t deepest t.cell
  unfolding global_nets
  top_globals = record {
    listed = λ name global named.
        among_name (globals_of t) name (among_kept (names_global t.design t.rules deepest (top_cell t)) t.design.globals name (name_among t.design.globals name global) named);
  }

  pub all_split : (number : ℕ) (p : Place) → At (all_places t) number p
      → (depth : ℕ) × (before : List Place) × (behind : List Place) × IsSplit t number p depth before behind
  unfolding all_places
  all_split number p e =
      let s = place_split deepest (top_place t) number p e in
      let split = s.3 in
      let last : ℕ = (top_place t).base + size_inside t deepest t.cell in
      let shared : (top_place t).base ≤ p.base = (bounds s.1 s.2 s.0 p (top_place t).base last (subst (λ (ps : List Place). AreInRow t ps (top_place t).base last) split.whole (all_in_row t))).0 in
      let o = split.outside shared top_globals
      (λ n m. inl (let lt = port_below t.rules 2 (top_cell t).ports n (omega arith) m in omega (arith, lt, shared))) in
      let deep = split.depth_is in (
        s.0,
        s.1,
        s.2,
        record {
          number_is = split.number_is;
          whole = split.whole;
          depth_is = omega (arith, deep);
          within = split.within;
          through = λ r m. let on = path_on t s.0 p r m in leads r p on.0 on.1;
          past = split.past;
          first = shared;
          ports = o.0;
          tied = λ r n m on. (o.1 r m).0 n on;
          names = λ r name m is. (o.1 r m).1 name is;
        },
      )

pub places_in_stand_together : PlacesInStandTogether
places_in_stand_together t number p e = all_split t number p e
