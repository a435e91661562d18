-- The places of a cell in a larger netlist are those of the cell alone, shifted.
use Rattle.std.proofs.Common.{◌≡◌, ℕ, zero, suc, ◌+◌, ◌<◌, ◌++◌, Bool, true, false, not, ◌&&◌, ◌||◌, cond, List, [], ◌∷◌, Option, Some, None, length, map, arith, subst, sym, refl, ◌∙◌, ap, ap₂, inl, inr}
use Rattle.std.specs.Prelude.{bytes_eq, flat_map, nat_lt, is_some, option_map, slice_get, unwrap_or}
use Rattle.std.proofs.lemmas.Bool.{cases_Bool, false≢true, or_left, or_right, and_from}
use Rattle.std.proofs.lemmas.Bool.Decides.{nat_tests}
use Rattle.std.proofs.lemmas.List.Quantifiers.{position-Some}
use Rattle.std.proofs.lemmas.Option.{none-some, slice_get-get_or, slice_get-map}
use Rattle.std.proofs.lemmas.Slice.Eq.{bytes_eq-Decides}
use Rattle.std.specs.List.{AllZip, list_any, position_or_len}
use Rattle.std.specs.Option.{option_or}
use Rattle.cell_inside.specs.Shifted.{IsShifted, IsShiftedWithNets, NamesNoGlobal, PlacesAreShifted, top_alone}
use Rattle.vrt_model.proofs.Filtered.{filter_among}
use Rattle.vrt_model.proofs.Members.{among_any, among_right, flat_map_among}
use Rattle.vrt_model.specs.CellRules.{supply_of}
use Rattle.vrt_model.specs.Comparison.{cell_at}
use Rattle.vrt_model.specs.Lists.{Among, has_name, place_of}
use Rattle.vrt_model.specs.Unrolled.{Place, Step, Top, cell_named, first_global, global_net, global_nets, globals_of, instances_at, instances_from, is_global_in, mentions, names_global, net_at, own_count, own_net, own_nets, places_in, port_net, supply_net}
use Rattle.vrt_model.specs.declared.design.DeviceCard.{DeviceCard}
use Rattle.vrt_model.specs.declared.design.InstanceCard.{InstanceCard}
use Rattle.vrt_model.specs.declared.pairing.PortRole.{PortRole}

-- ---- names

-- a name that has a place in a list is in the list
pub place_among : (names : List (List ℕ)) (name : List ℕ) (k : ℕ) → place_of names name ≡ Some k → Among names name
place_among names name k e =
    let h = position-Some (bytes_eq name) names k [] e in
    let there = slice_get-get_or names k [] h.0 in
    (k, there ∙ ap (λ (x : List ℕ). Some x) (sym ((bytes_eq-Decides name _).0 h.1)))

pub among_name : (names : List (List ℕ)) (name : List ℕ) → Among names name → has_name names name ≡ true
among_name names name m = among_any (bytes_eq name) names name m ((bytes_eq-Decides name name).1 refl)

-- the place of a name that is in a list
pub prefix_below : {X : Type 0} (p : X → Bool) (xs : List X) → list_any p xs ≡ true → position_or_len p xs < length xs
prefix_below p [] h = absurd (false≢true h)
prefix_below {X} p (x ∷ xs) h = by_test (p x) refl (λ more. prefix_below p xs more)
  where
    by_test : (b : Bool) → p x ≡ b → (list_any p xs ≡ true → position_or_len p xs < length xs) → cond (not (p x)) (1 + position_or_len p xs) 0 < suc (length xs)
    by_test true e rest = subst (λ (c : Bool). cond (not c) (1 + position_or_len p xs) 0 < suc (length xs)) (sym e) (omega arith)
    by_test false e rest =
        let more : list_any p xs ≡ true = subst (λ (c : Bool). (c || list_any p xs) ≡ true) e h in
        let lt = rest more in
        let next : 1 + position_or_len p xs < suc (length xs) = omega (arith, lt) in
        subst (λ (c : Bool). cond (not c) (1 + position_or_len p xs) 0 < suc (length xs)) (sym e) next

pub name_placed : (names : List (List ℕ)) (name : List ℕ) → has_name names name ≡ true → (k : ℕ) × (place_of names name ≡ Some k)
name_placed names name h = within (position_or_len (bytes_eq name) names) (length names) (prefix_below (bytes_eq name) names h)
  where
    within : (n count : ℕ) → n < count → (k : ℕ) × (cond (nat_lt n count) (Some n) None ≡ Some k)
    within n count lt = let t : nat_lt n count ≡ true = grind (arith, nat_tests, lt) in (n, ap (λ (b : Bool). cond b (Some n) None) t)

option_none : {X : Type 0} (o : Option X) → ((x : X) → o ≡ Some x → ⊥) → o ≡ None
option_none None h = refl
option_none (Some x) h = absurd (h x refl)

sym_assoc : (a b c : ℕ) → (a + b) + c ≡ a + (b + c)
sym_assoc a b c = omega arith

-- ---- one name

abbrev net_in : Option Bool → Option ℕ → Option ℕ → ℕ → ℕ
net_in supply port global own = unwrap_or (option_or (option_map supply_net supply) (option_or port global)) own

net_by : (at : ℕ → ℕ) → at 0 ≡ 0 → at 1 ≡ 1 → (supply : Option Bool) (port global other : Option ℕ) (own there : ℕ)
    → (supply ≡ None → port ≡ None → (global ≡ None) × (other ≡ None)) → there ≡ at own
    → net_in supply (option_map at port) other there ≡ at (net_in supply port global own)
net_by at low high (Some true) port global other own there none e = sym high
net_by at low high (Some false) port global other own there none e = sym low
net_by at low high None (Some n) global other own there none e = refl
net_by at low high None None global other own there none e =
    let h = none refl refl in
    ap (λ (o : Option ℕ). unwrap_or o there) h.1 ∙ e ∙ ap (λ (o : Option ℕ). at (unwrap_or o own)) (sym h.0)

-- the nets of a port
pub port_by : (at : ℕ → ℕ) → at 0 ≡ 0 → (ports : List ℕ) (o : Option ℕ)
    → option_map (λ (k : ℕ). unwrap_or (slice_get (map at ports) k) 0) o ≡ option_map at (option_map (λ (k : ℕ). unwrap_or (slice_get ports k) 0) o)
port_by at low ports None = refl
port_by at low ports (Some k) = ap (λ (n : ℕ). Some n) (ap (λ (o : Option ℕ). unwrap_or o 0) (slice_get-map at ports k) ∙ there (slice_get ports k))
  where
    there : (o : Option ℕ) → unwrap_or (option_map at o) 0 ≡ at (unwrap_or o 0)
    there None = sym low
    there (Some n) = refl

module _ (t : Top) (cell : ℕ) (roles : List PortRole) (at : ℕ → ℕ) (outer : List Step) (low : at 0 ≡ 0) (high : at 1 ≡ 1) where
  abbrev own : Top
  own = top_alone t cell roles

  -- a name in no global list has no global net
  no_global : (top : Top) (name : List ℕ) → (has_name top.design.globals name ≡ true → ⊥) → global_net top name ≡ None
  unfolding global_nets
  no_global top name none =
      ap (option_map (λ (k : ℕ). first_global top + k)) (option_none (place_of (globals_of top) name) (λ k e.
      let m = place_among (globals_of top) name k e in
      none (among_name top.design.globals name (filter_among (names_global top.design top.rules 32 (cell_at top.design top.cell)) top.design.globals name m).0)))

  -- a name on a card of a cell that names no global net is no global name, where it is no supply and no port
  no_global_name : (depth k : ℕ) (name : List ℕ) → NamesNoGlobal t depth k → has_name (mentions (cell_at t.design k)) name ≡ true → supply_of t.rules name ≡ None
      → has_name (cell_at t.design k).ports name ≡ false → has_name t.design.globals name ≡ true → ⊥
  no_global_name depth k name none mention supply port global = false≢true (sym (none name global) ∙ named depth)
    where
      here : (is_global_in t.design t.rules (cell_at t.design k) name && has_name (mentions (cell_at t.design k)) name) ≡ true
      here = and_from (is_global_in t.design t.rules (cell_at t.design k) name) (has_name (mentions (cell_at t.design k)) name)
          (and_from (has_name t.design.globals name && not (is_some (supply_of t.rules name))) (not (has_name (cell_at t.design k).ports name))
          (and_from (has_name t.design.globals name) (not (is_some (supply_of t.rules name))) global (ap (λ (o : Option Bool). not (is_some o)) supply)) (ap not port)) mention

      named : (d : ℕ) → names_global t.design t.rules d (cell_at t.design k) name ≡ true
      named zero = here
      named (suc d) = or_left _ _ here

  net_shifted : (depth : ℕ) (p q : Place) → NamesNoGlobal t depth q.cell → IsShifted at outer p q
      → (name : List ℕ) → has_name (mentions (cell_at t.design q.cell)) name ≡ true → net_at t q name ≡ at (net_at own p name)
  unfolding net_at
  net_shifted depth p q none s name mention =
      ap (λ (ports : List ℕ). net_in (supply_of t.rules name) (option_map (λ (k : ℕ). unwrap_or (slice_get ports k) 0) (place_of (cell_at t.design q.cell).ports name)) (global_net t name) (own_net t (cell_at t.design q.cell) q name)) s.ports
      ∙ ap (λ (o : Option ℕ). net_in (supply_of t.rules name) o (global_net t name) (own_net t (cell_at t.design q.cell) q name)) (port_by at low p.ports (place_of (cell_at t.design q.cell).ports name))
      ∙ net_by at low high (supply_of t.rules name) (port_net (cell_at t.design q.cell) p name) (global_net own name) (global_net t name)
      (own_net own (cell_at t.design q.cell) p name) (own_net t (cell_at t.design q.cell) q name) free (s.base (unwrap_or (place_of (own_nets t.design t.rules (cell_at t.design q.cell)) name) 0))
      ∙ ap (λ (k : ℕ). at (net_in (supply_of t.rules name) (port_net (cell_at t.design k) p name) (global_net own name) (own_net own (cell_at t.design k) p name))) s.cell
    where
      port_none : (o : Option ℕ) → place_of (cell_at t.design q.cell).ports name ≡ o → option_map (λ (k : ℕ). unwrap_or (slice_get p.ports k) 0) o ≡ None → place_of (cell_at t.design q.cell).ports name ≡ None
      port_none None e h = e
      port_none (Some k) e h = absurd (none-some (unwrap_or (slice_get p.ports k) 0) (sym h))

      no_port : place_of (cell_at t.design q.cell).ports name ≡ None → has_name (cell_at t.design q.cell).ports name ≡ false
      no_port e =
          elim (cases_Bool (has_name (cell_at t.design q.cell).ports name)) [
            | inr f ↦ f
            | inl h ↦ absurd (let k = name_placed (cell_at t.design q.cell).ports name h in none-some k.0 (sym e ∙ k.1))
          ]

      free : supply_of t.rules name ≡ None → port_net (cell_at t.design q.cell) p name ≡ None → (global_net own name ≡ None) × (global_net t name ≡ None)
      free supply port =
          let away = no_global_name depth q.cell name none mention supply (no_port (port_none (place_of (cell_at t.design q.cell).ports name) refl port)) in
          (no_global own name away, no_global t name away)

  -- ---- the lists of places

  zip_append : (R : Place → Place → Type 0) (xs ys us vs : List Place) → AllZip R xs us → AllZip R ys vs → AllZip R (xs ++ ys) (us ++ vs)
  zip_append R [] ys [] vs h k = k
  zip_append R [] ys (u ∷ us) vs h k = absurd h
  zip_append R (x ∷ xs) ys [] vs h k = absurd h
  zip_append R (x ∷ xs) ys (u ∷ us) vs h k = (h.0, zip_append R xs ys us vs h.1 k)

  abbrev SameThere : Place → Place → Type 0
  SameThere a b = IsShiftedWithNets t own at outer a b

  -- the cards of an instance's cell name no global net where those around it do not
  inner_none : (depth k : ℕ) → NamesNoGlobal t (suc depth) k → (i : InstanceCard) → Among (cell_at t.design k).instances i → NamesNoGlobal t depth (cell_named t.design i.cell)
  inner_none depth k none i m name global =
      elim (cases_Bool (names_global t.design t.rules depth (cell_at t.design (cell_named t.design i.cell)) name)) [
        | inr f ↦ f
        | inl h ↦ absurd (false≢true (sym (none name global) ∙ or_right (is_global_in t.design t.rules (cell_at t.design k) name && has_name (mentions (cell_at t.design k)) name)
            (list_any (λ (j : InstanceCard). names_global t.design t.rules depth (cell_at t.design (cell_named t.design j.cell)) name) (cell_at t.design k).instances)
            (among_any (λ (j : InstanceCard). names_global t.design t.rules depth (cell_at t.design (cell_named t.design j.cell)) name) (cell_at t.design k).instances i m h)))
      ]

  -- the nets of an instance card are mentioned
  card_mentioned : (k : ℕ) (i : InstanceCard) → Among (cell_at t.design k).instances i → (name : List ℕ) → Among i.nets name → has_name (mentions (cell_at t.design k)) name ≡ true
  card_mentioned k i m name n =
      let cell = cell_at t.design k in
      among_name (mentions cell) name (among_right (flat_map (λ (d : DeviceCard). d.drain ∷ d.gate ∷ d.source ∷ []) cell.devices) (flat_map (λ (j : InstanceCard). j.nets) cell.instances) name
      (flat_map_among (λ (j : InstanceCard). j.nets) cell.instances i name m n))

  map_shifted : (q p : Place) (names : List (List ℕ)) → ((name : List ℕ) → Among names name → net_at t q name ≡ at (net_at own p name)) → map (net_at t q) names ≡ map at (map (net_at own p) names)
  map_shifted q p [] h = refl
  map_shifted q p (x ∷ names) h = ap₂ ◌∷◌ (h x (0, refl)) (map_shifted q p names (λ name m. h name (suc m.0, m.1)))

  module _ (depth : ℕ) (inner : (p q : Place) → NamesNoGlobal t depth q.cell → IsShifted at outer p q → AllZip SameThere (places_in own depth p) (places_in t depth q)) where
    from_cards : (p q : Place) → NamesNoGlobal t (suc depth) q.cell → IsShifted at outer p q → (base there : ℕ) → ((n : ℕ) → there + n ≡ at (base + n))
        → (cards : List InstanceCard) → ((i : InstanceCard) → Among cards i → Among (cell_at t.design q.cell).instances i)
        → AllZip SameThere (flat_map (places_in own depth) (instances_from own p depth base cards)) (flat_map (places_in t depth) (instances_from t q depth there cards))
    from_cards p q none s base there far [] all = tt
    from_cards p q none s base there far (i ∷ cards) all =
        let count = own_count t.design t.rules depth (cell_at t.design (cell_named t.design i.cell)) in
        let first : Place = record { cell = cell_named t.design i.cell; path = record { instance = i.name; within = (cell_at t.design p.cell).name } ∷ p.path; ports = map (net_at own p) i.nets; base = base } in
        let second : Place = record { cell = cell_named t.design i.cell; path = record { instance = i.name; within = (cell_at t.design q.cell).name } ∷ q.path; ports = map (net_at t q) i.nets; base = there } in
        let shifted : IsShifted at outer first second = record {
          cell = refl;
          path = λ j. record { instance = i.name; within = (cell_at t.design (s.cell j)).name } ∷ s.path j;
          ports = map_shifted q p i.nets (λ name m. net_shifted (suc depth) p q none s name (card_mentioned q.cell i (all i (0, refl)) name m));
          base = far;
        } in
        zip_append SameThere (places_in own depth first) (flat_map (places_in own depth) (instances_from own p depth (base + count) cards)) (places_in t depth second) (flat_map (places_in t depth) (instances_from t q depth (there + count) cards))
        (inner first second (inner_none depth q.cell none i (all i (0, refl))) shifted)
        (from_cards p q none s (base + count) (there + count) (λ n. sym_assoc there count n ∙ far (count + n) ∙ ap at (sym (sym_assoc base count n))) cards (λ j m. all j (suc m.0, m.1)))

  instances_shifted : (depth : ℕ) → ((p q : Place) → NamesNoGlobal t depth q.cell → IsShifted at outer p q → AllZip SameThere (places_in own depth p) (places_in t depth q))
      → (p q : Place) → NamesNoGlobal t (suc depth) q.cell → IsShifted at outer p q
      → AllZip SameThere (flat_map (places_in own depth) (instances_at own depth p)) (flat_map (places_in t depth) (instances_at t depth q))
  instances_shifted depth inner p q none s =
      let count = length (own_nets t.design t.rules (cell_at t.design q.cell)) in
      subst (λ (k : ℕ). AllZip SameThere (flat_map (places_in own depth) (instances_from own p depth (p.base + length (own_nets t.design t.rules (cell_at t.design k))) (cell_at t.design k).instances)) (flat_map (places_in t depth) (instances_at t depth q))) s.cell
      (from_cards depth inner p q none s (p.base + count) (q.base + count) (λ n. sym_assoc q.base count n ∙ s.base (count + n) ∙ ap at (sym (sym_assoc p.base count n))) (cell_at t.design q.cell).instances (λ i m. m))

  pub places_shifted : (depth : ℕ) (p q : Place) → NamesNoGlobal t depth q.cell → IsShifted at outer p q → AllZip SameThere (places_in own depth p) (places_in t depth q)
  places_shifted zero p q none s = (record { place = s; nets = net_shifted zero p q none s }, tt)
  places_shifted (suc depth) p q none s = (
    record { place = s; nets = net_shifted (suc depth) p q none s },
    instances_shifted depth (λ a b n h. places_shifted depth a b n h) p q none s,
  )

-- the law
pub places_are_shifted : PlacesAreShifted
places_are_shifted t cell roles at outer depth p q low high none s = places_shifted t cell roles at outer low high depth p q none s
