-- The own nets of the places of an unrolled cell stand one behind the other, and so in the list of all nets.
use Rattle.std.proofs.Common.{◌≡◌, ◌<◌, ◌≤◌, ◌+◌, ◌++◌, ◌∷◌, [], ℕ, zero, suc, List, Bool, true, false, cond, map, flat_map, length, Option, Some, None, refl, ap, sym, ◌∙◌, subst, arith, length-append}
use Rattle.std.specs.Prelude.{drop, filter, is_none, slice_get}
use Rattle.std.specs.List.{sum_by}
use Rattle.std.proofs.lemmas.List.{length-map}
use Rattle.std.proofs.lemmas.List.Sums.{sum_by-cons}
use Rattle.std.proofs.lemmas.Option.{none-some, same_Some}
use Rattle.placed_cells.specs.Rows.{AreInRow, OwnNetsAreApart, OwnNetsAreListed, PlacesAreInRow, own_size, size_inside}
use Rattle.vrt_model.proofs.Lists.{at_back, at_front, map_at}
use Rattle.vrt_model.specs.CellRules.{supply_of}
use Rattle.vrt_model.specs.Comparison.{cell_at}
use Rattle.vrt_model.specs.FlatCircuit.{flat_nets, kind_by, own_flat_nets, plain_net, port_nets_of, supply_flat}
use Rattle.vrt_model.specs.Lists.{At, path_name}
use Rattle.vrt_model.specs.Unrolled.{Place, Top, all_places, cell_named, deepest, globals_of, instances_from, net_at, own_nets, path_text, places_in, top_cell, top_place}
use Rattle.vrt_model.specs.declared.circuit.FlatNet.{FlatNet}
use Rattle.vrt_model.specs.declared.design.InstanceCard.{InstanceCard}
use Rattle.vrt_model.specs.declared.pairing.PortRole.{PortRole}

module _ (t : Top) where
  -- ---- rows

  -- two rows of which one begins where the other ends
  pub row_append : (xs ys : List Place) (from mid to : ℕ) → AreInRow t xs from mid → AreInRow t ys mid to → AreInRow t (xs ++ ys) from to
  row_append [] ys from mid to h k = subst (λ (n : ℕ). AreInRow t ys n to) (sym h) k
  row_append (x ∷ xs) ys from mid to h k = (h.0, row_append xs ys (from + own_size t x.cell) mid to h.1 k)

  pub row_split : (xs ys : List Place) (from to : ℕ) → AreInRow t (xs ++ ys) from to → (mid : ℕ) × AreInRow t xs from mid × AreInRow t ys mid to
  row_split [] ys from to h = (from, refl, h)
  row_split (x ∷ xs) ys from to h = let rest = row_split xs ys (from + own_size t x.cell) to h.1 in (rest.0, (h.0, rest.1), rest.2)

  -- a row ends behind its beginning, and at one number alone
  pub row_grows : (xs : List Place) (from to : ℕ) → AreInRow t xs from to → from ≤ to
  row_grows [] from to h = omega (arith, h)
  row_grows (x ∷ xs) from to h = let rest = row_grows xs (from + own_size t x.cell) to h.1 in omega (arith, rest)

  pub row_ends : (xs : List Place) (from to other : ℕ) → AreInRow t xs from to → AreInRow t xs from other → to ≡ other
  row_ends [] from to other h k = sym h ∙ k
  row_ends (x ∷ xs) from to other h k = row_ends xs (from + own_size t x.cell) to other h.1 k.1

  -- a place in a row
  pub row_within : (xs : List Place) (from to i : ℕ) (p : Place) → AreInRow t xs from to → At xs i p → (from ≤ p.base) × (p.base + own_size t p.cell ≤ to)
  row_within [] from to i p h e = absurd (none-some p e)
  row_within (x ∷ xs) from to zero p h e = subst (λ (q : Place). (from ≤ q.base) × (q.base + own_size t q.cell ≤ to)) (same_Some x p e) here
    where
      here : (from ≤ x.base) × (x.base + own_size t x.cell ≤ to)
      here = let first = h.0 in let rest = row_grows xs (from + own_size t x.cell) to h.1 in (omega (arith, first), omega (arith, first, rest))
  row_within (x ∷ xs) from to (suc i) p h e =
      let rest = row_within xs (from + own_size t x.cell) to i p h.1 e in
      let low = rest.0 in
      (omega (arith, low), rest.1)

  row_apart : (xs : List Place) (from to i j : ℕ) (a b : Place) → AreInRow t xs from to → At xs i a → At xs j b → i < j → a.base + own_size t a.cell ≤ b.base
  row_apart [] from to i j a b h e f lt = absurd (none-some a e)
  row_apart (x ∷ xs) from to i zero a b h e f lt = absurd (omega (arith, lt))
  row_apart (x ∷ xs) from to zero (suc j) a b h e f lt =
      let first = h.0 in
      let later = (row_within xs (from + own_size t x.cell) to j b h.1 f).0 in
      let bound : x.base + own_size t x.cell ≤ b.base = omega (arith, first, later) in
      subst (λ (p : Place). p.base + own_size t p.cell ≤ b.base) (same_Some x a e) bound
  row_apart (x ∷ xs) from to (suc i) (suc j) a b h e f lt = row_apart xs (from + own_size t x.cell) to i j a b h.1 e f (omega (arith, lt))

  -- ---- the places in a place

  abbrev pub cards_size : ℕ → List InstanceCard → ℕ
  cards_size depth cards = sum_by (λ (i : InstanceCard). size_inside t depth (cell_named t.design i.cell)) cards

  -- those of some instances
  pub cards_in_row : (depth : ℕ) → ((p : Place) → AreInRow t (places_in t depth p) p.base (p.base + size_inside t depth p.cell)) → (q : Place) (base : ℕ) (cards : List InstanceCard)
      → AreInRow t (flat_map (places_in t depth) (instances_from t q depth base cards)) base (base + cards_size depth cards)
  cards_in_row depth inner q base [] = omega arith
  cards_in_row depth inner q base (i ∷ cards) =
      let k = cell_named t.design i.cell in
      let place : Place = record { cell = k; path = record { instance = i.name; within = (cell_at t.design q.cell).name } ∷ q.path; ports = map (net_at t q) i.nets; base = base } in
      let next : ℕ = base + size_inside t depth k in
      let sum = sum_by-cons (λ (j : InstanceCard). size_inside t depth (cell_named t.design j.cell)) i cards in
      let ends : next + cards_size depth cards ≡ base + cards_size depth (i ∷ cards) = omega (arith, sum) in
      row_append (places_in t depth place) (flat_map (places_in t depth) (instances_from t q depth next cards)) base next (base + cards_size depth (i ∷ cards)) (inner place)
      (subst (λ (n : ℕ). AreInRow t (flat_map (places_in t depth) (instances_from t q depth next cards)) next n) ends (cards_in_row depth inner q next cards))

  pub in_row : (depth : ℕ) (q : Place) → AreInRow t (places_in t depth q) q.base (q.base + size_inside t depth q.cell)
  in_row zero q = (refl, refl)
  in_row (suc depth) q =
      let cards = (cell_at t.design q.cell).instances in
      let next : ℕ = q.base + own_size t q.cell in
      let ends : next + cards_size depth cards ≡ q.base + size_inside t (suc depth) q.cell = omega arith in
      (refl, subst (λ (n : ℕ). AreInRow t (flat_map (places_in t depth) (instances_from t q depth next cards)) next n) ends (cards_in_row depth (λ p. in_row depth p) q next cards))

  -- ---- the list of all nets

  -- the own nets of places in a row
  row_listed : (xs : List Place) (from to i : ℕ) (p : Place) (k : ℕ) (name : List ℕ) → AreInRow t xs from to → At xs i p → At (own_nets t.design t.rules (cell_at t.design p.cell)) k name
      → (j : ℕ) × (from + j ≡ p.base + k) × At (flat_map (own_flat_nets t) xs) j (plain_net (path_name (path_text p.path) name))
  row_listed [] from to i p k name h e on = absurd (none-some p e)
  row_listed (x ∷ xs) from to zero p k name h e on =
      let same = same_Some x p e in
      let base : from ≡ p.base = sym h.0 ∙ ap (λ (q : Place). q.base) same in
      let own : At (own_flat_nets t p) k (plain_net (path_name (path_text p.path) name)) = map_at (λ (n : List ℕ). plain_net (path_name (path_text p.path) n)) (own_nets t.design t.rules (cell_at t.design p.cell)) k name on in (
        k,
        ap (λ (n : ℕ). n + k) base,
        at_front (own_flat_nets t x) (flat_map (own_flat_nets t) xs) k (plain_net (path_name (path_text p.path) name))
            (subst (λ (q : Place). At (own_flat_nets t q) k (plain_net (path_name (path_text p.path) name))) (sym same) own),
      )
  row_listed (x ∷ xs) from to (suc i) p k name h e on =
      let rest = row_listed xs (from + own_size t x.cell) to i p k name h.1 e on in
      let size : length (own_flat_nets t x) ≡ own_size t x.cell = length-map (own_nets t.design t.rules (cell_at t.design x.cell)) (λ (n : List ℕ). plain_net (path_name (path_text x.path) n)) in
      let j : ℕ = rest.0 in
      let is = rest.1 in (
        length (own_flat_nets t x) + j,
        omega (arith, size, is),
        at_back (own_flat_nets t x) (flat_map (own_flat_nets t) xs) j (plain_net (path_name (path_text p.path) name)) rest.2,
      )

  -- how many ports are no supplies
  pub port_count : (names : List (List ℕ)) (roles : List PortRole) → length (port_nets_of t.rules names roles) ≡ length (filter (λ name. is_none (supply_of t.rules name)) names)
  port_count [] roles = refl
  port_count (name ∷ names) roles = by_supply (supply_of t.rules name) (port_count names (drop 1 roles))
    where
      by_supply : (o : Option Bool) → length (port_nets_of t.rules names (drop 1 roles)) ≡ length (filter (λ other. is_none (supply_of t.rules other)) names)
          → length {A = FlatNet} (elim o [ None ↦ record { name = name; kind = kind_by (slice_get roles 0) } ∷ port_nets_of t.rules names (drop 1 roles) | Some value ↦ port_nets_of t.rules names (drop 1 roles) ])
          ≡ length (cond (is_none o) (name ∷ filter (λ other. is_none (supply_of t.rules other)) names) (filter (λ other. is_none (supply_of t.rules other)) names))
      by_supply None e = ap suc e
      by_supply (Some value) e = e

  pub all_in_row : AreInRow t (all_places t) (top_place t).base ((top_place t).base + size_inside t deepest t.cell)
  unfolding all_places
  all_in_row = in_row deepest (top_place t)

  -- a net behind the supplies, the ports and the global nets
  behind_first : (j : ℕ) (net : FlatNet) → At (flat_map (own_flat_nets t) (all_places t)) j net → At (flat_nets t) ((top_place t).base + j) net
  behind_first j net e =
      let ports = port_nets_of t.rules (top_cell t).ports t.roles in
      let globals = map plain_net (globals_of t) in
      let own = flat_map (own_flat_nets t) (all_places t) in
      let first = supply_flat t.rules false ∷ supply_flat t.rules true ∷ (ports ++ globals) in
      let count = port_count (top_cell t).ports t.roles in
      let more = length-map (globals_of t) plain_net in
      let both = length-append ports globals in
      let place : length first + j ≡ (top_place t).base + j = omega (arith, count, more, both) in
      subst (λ (n : ℕ). At (first ++ own) n net) place (at_back first own j net e)

-- ---- the laws

pub places_are_in_row : PlacesAreInRow
places_are_in_row t depth q = in_row t depth q

pub own_nets_are_apart : OwnNetsAreApart
own_nets_are_apart t depth q i j a b e f lt = row_apart t (places_in t depth q) q.base (q.base + size_inside t depth q.cell) i j a b (in_row t depth q) e f lt

pub own_nets_are_listed : OwnNetsAreListed
own_nets_are_listed t p k name m on =
    let found = row_listed t (all_places t) (top_place t).base ((top_place t).base + size_inside t deepest t.cell) m.0 p k name (all_in_row t) m.1 on in
    subst (λ (n : ℕ). At (flat_nets t) n (plain_net (path_name (path_text p.path) name))) found.1 (behind_first t found.0 (plain_net (path_name (path_text p.path) name)) found.2)
