-- The places of an unrolled netlist by tables are those of the definition.
use Rattle.std.proofs.Common.{◌≡◌, ◌≤◌, ◌<◌, ◌+◌, ◌-◌, ◌++◌, ◌∷◌, [], ℕ, zero, suc, List, true, map, flat_map, length, Option, refl, ap, ap₂, sym, subst, ◌∙◌, arith, inl, inr}
use Rattle.std.specs.Prelude.{bytes_eq, unwrap_or}
use Rattle.std.proofs.lemmas.Bool.{cases_lt, or_right}
use Rattle.std.proofs.lemmas.List.{length-map, map-append}
use Rattle.std.proofs.lemmas.Option.{none-some}
use Rattle.std.proofs.lemmas.Slice.Eq.{bytes_eq-Decides}
use Rattle.net_places.proofs.CellLaws.{nets_are, own_is}
use Rattle.net_tables.proofs.PlaceNetLaws.{global_is, global_there, net_is, port_is}
use Rattle.net_tables.specs.Nets.{instance_in, net_in, nets_in}
use Rattle.net_tables.specs.Places.{ArePlaceNets, is_net_of, number_by, place_net}
use Rattle.net_tables.specs.Tables.{AreNetTables}
use Rattle.net_tables.specs.declared.tables.NetTables.{NetTables}
use Rattle.net_tables.specs.declared.types.CellNet.{CellNet}
use Rattle.net_tables.specs.declared.types.CellNet.TheVariants.{Supply, Port, Global, Own}
use Rattle.net_tables.specs.declared.types.CellNets.{CellNets}
use Rattle.net_tables.specs.declared.types.InstanceNets.{InstanceNets}
use Rattle.net_places.specs.Links.{AreGlobalNets, AreNested, Bare, IsInside, bare, shown, step_of}
use Rattle.net_places.specs.Places.{all_below, inner_from, inner_place, name_at, net_of, nets_at, own_at, own_below, places_below}
use Rattle.net_places.specs.declared.places.Place.{Place}
use Rattle.vrt_model.proofs.Lists.{at_back, at_front, at_left, one_at}
use Rattle.vrt_model.proofs.Members.{among_any, among_later, among_left, among_right, flat_map_among}
use Rattle.vrt_model.specs.Comparison.{cell_at}
use Rattle.vrt_model.specs.Lists.{Among, At, has_name, path_name}
use Rattle.vrt_model.specs.Unrolled.{Place as FlatPlace, Top, all_places, cell_named, deepest, instances_at, instances_from, mentions, net_at, own_count, own_nets, path_text, places_in, top_place}
use Rattle.vrt_model.specs.declared.design.Cell.{Cell}
use Rattle.vrt_model.specs.declared.design.DeviceCard.{DeviceCard}
use Rattle.vrt_model.specs.declared.design.InstanceCard.{InstanceCard}
use Rattle.vrt_model.specs.declared.ids.Net.{Net}

-- ---- lists

at_right : {X : Type 0} (xs ys : List X) (j : ℕ) (x : X) → At (xs ++ ys) (length xs + j) x → At ys j x
at_right [] ys j x e = let n : 0 + j ≡ j = omega arith in subst (λ (k : ℕ). At ys k x) n e
at_right (z ∷ xs) ys j x e = let n : suc (length xs) + j ≡ suc (length xs + j) = omega arith in at_right xs ys j x (subst (λ (k : ℕ). At (z ∷ xs ++ ys) k x) n e)

module _ (t : Top) (tables : NetTables) (are : AreNetTables t.design t.rules tables) where
  module _ (globals : List Net) (global : AreGlobalNets t globals) where
    -- ---- nets

    abbrev IsNear : FlatPlace → Type 0
    IsNear at = (depth : ℕ) × (depth ≤ deepest) × Among (places_in t depth (top_place t)) at

    abbrev AllNear : List FlatPlace → Type 0
    AllNear places = (at : FlatPlace) → Among places at → IsNear at

    net_same : (p : Place) (at : FlatPlace) → shown p ≡ bare at → IsNear at → (name : List ℕ) → has_name (mentions (cell_at t.design at.cell)) name ≡ true
        → number_by p.ports p.base globals (net_in t.design t.rules (cell_at t.design at.cell) name) ≡ net_at t at name
    net_same p at same near name named = by_net (net_in t.design t.rules (cell_at t.design at.cell) name) refl where
      nets : ArePlaceNets t at p.ports p.base globals
      nets = record { ports_are = ap (λ (b : Bare). b.ports) same; base_is = ap (λ (b : Bare). b.base) same; globals_are = global }

      net_there : is_net_of (cell_at t.design at.cell) name ≡ true
      net_there = or_right (has_name (cell_at t.design at.cell).ports name) (has_name (mentions (cell_at t.design at.cell)) name) named

      by_net : (net : CellNet) → net ≡ net_in t.design t.rules (cell_at t.design at.cell) name → number_by p.ports p.base globals net ≡ net_at t at name
      by_net (Supply value) is = ap (place_net t at) is ∙ net_is t at name
      by_net (Port k) is = port_is t at p.ports p.base globals nets k ∙ ap (place_net t at) is ∙ net_is t at name
      by_net (Global j) is =
          let k = global_there t at name j (near.0, near.1, near.2, net_there) is in
          global_is t at p.ports p.base globals nets j k.1 k.0 k.2 ∙ ap (place_net t at) is ∙ net_is t at name
      by_net (Own i) is = ap (λ (base : ℕ). base + i) nets.base_is ∙ ap (place_net t at) is ∙ net_is t at name

    mentioned : (cell : Cell) (card : InstanceCard) (name : List ℕ) → Among cell.instances card → Among card.nets name → has_name (mentions cell) name ≡ true
    mentioned cell card name there m =
        among_any (bytes_eq name) (mentions cell) name
        (among_right (flat_map (λ (d : DeviceCard). d.drain ∷ d.gate ∷ d.source ∷ []) cell.devices) (flat_map (λ (i : InstanceCard). i.nets) cell.instances) name
        (flat_map_among (λ (i : InstanceCard). i.nets) cell.instances card name there m))
        ((bytes_eq-Decides name name).1 refl)

    ports_same : (p : Place) (at : FlatPlace) → shown p ≡ bare at → IsNear at → (card : InstanceCard) → Among (cell_at t.design at.cell).instances card
        → (names : List (List ℕ)) → ((name : List ℕ) → Among names name → Among card.nets name)
        → map (λ (n : Net). n.0) (map (net_of p globals) (map (net_in t.design t.rules (cell_at t.design at.cell)) names)) ≡ map (net_at t at) names
    ports_same p at same near card there [] sub = refl
    ports_same p at same near card there (name ∷ names) sub =
        ap₂ (λ (n : ℕ) (ns : List ℕ). n ∷ ns)
        (net_same p at same near name (mentioned (cell_at t.design at.cell) card name there (sub name (0, refl))))
        (ports_same p at same near card there names (λ other m. sub other (among_later name names other m)))

    -- ---- places

    abbrev Below : ℕ → ℕ → Place → List Place
    Below depth number p = places_below t.design tables globals depth number p

    abbrev From : ℕ → ℕ → Place → ℕ → ℕ → ℕ → List InstanceNets → List Place
    From depth around p number card base instances = inner_from t.design tables globals (places_below t.design tables globals depth) depth around p number card base instances

    abbrev nets_of : FlatPlace → List InstanceCard → List InstanceNets
    nets_of at cards = map (instance_in t.design t.rules (cell_at t.design at.cell)) cards

    abbrev FlatFrom : ℕ → FlatPlace → ℕ → List InstanceCard → List FlatPlace
    FlatFrom depth at base cards = flat_map (places_in t depth) (instances_from t at depth base cards)

    abbrev behind : ℕ → ℕ → InstanceCard → ℕ
    behind depth base card = base + own_count t.design t.rules depth (cell_at t.design (cell_named t.design card.cell))

    -- an instance, by its card
    abbrev inner_at : FlatPlace → InstanceCard → ℕ → FlatPlace
    inner_at at card base = record { cell = cell_named t.design card.cell; path = step_of t at card ∷ at.path; ports = map (net_at t at) card.nets; base = base }

    -- the cards of a place's cell from one on
    abbrev AreCards : FlatPlace → ℕ → List InstanceCard → Type 0
    AreCards at k cards = (j : ℕ) (card : InstanceCard) → At cards j card → At (cell_at t.design at.cell).instances (k + j) card

    first_card : (at : FlatPlace) (k : ℕ) (card : InstanceCard) (cards : List InstanceCard) → AreCards at k (card ∷ cards) → At (cell_at t.design at.cell).instances k card
    first_card at k card cards from = let e : k + 0 ≡ k = omega arith in subst (λ (n : ℕ). At (cell_at t.design at.cell).instances n card) e (from 0 card refl)

    next_cards : (at : FlatPlace) (k : ℕ) (card : InstanceCard) (cards : List InstanceCard) → AreCards at k (card ∷ cards) → AreCards at (suc k) cards
    next_cards at k card cards from j other there =
        let e : k + suc j ≡ suc k + j = omega arith in subst (λ (n : ℕ). At (cell_at t.design at.cell).instances n other) e (from (suc j) other there)

    named : (at : FlatPlace) (p : Place) (k : ℕ) (card : InstanceCard) → p.cell ≡ at.cell → At (cell_at t.design at.cell).instances k card → name_at t.design p.cell k ≡ card.name
    named at p k card same there =
        ap (λ (n : ℕ). name_at t.design n k) same
        ∙ ap (λ (o : Option InstanceCard). (let one : InstanceCard = unwrap_or o (record { line = 0; name = []; nets = []; cell = [] }) in one).name) there

    like : (around : ℕ) (p : Place) (at : FlatPlace) → shown p ≡ bare at → IsNear at → (k : ℕ) (card : InstanceCard) → At (cell_at t.design at.cell).instances k card → (base : ℕ)
        → shown (inner_place t.design globals around p k base (instance_in t.design t.rules (cell_at t.design at.cell) card)) ≡ bare (inner_at at card base)
    like around p at same near k card there base =
        let deep : p.depth + 1 ≡ suc (length at.path) = let d = ap (λ (b : Bare). b.depth) same in omega (arith, d) in
        let path : path_name p.path (name_at t.design p.cell k) ≡ path_name (path_text at.path) card.name =
        ap₂ path_name (ap (λ (b : Bare). b.path) same) (named at p k card (ap (λ (b : Bare). b.cell) same) there) in
        let number : ℕ = cell_named t.design card.cell in
        let ports : List ℕ = map (λ (n : Net). n.0) (map (net_of p globals) (map (net_in t.design t.rules (cell_at t.design at.cell)) card.nets)) in
        ap₂ (λ (d : ℕ) (x : List ℕ). let one : Bare = record { cell = number; depth = d; path = x; ports = ports; base = base } in one) deep path
        ∙ ap (λ (ns : List ℕ). let one : Bare = record { cell = number; depth = suc (length at.path); path = path_name (path_text at.path) card.name; ports = ns; base = base } in one)
        (ports_same p at same near card (k, there) card.nets (λ name m. m))

    abbrev IsSame : ℕ → Type 0
    IsSame depth = (number : ℕ) (p : Place) (at : FlatPlace) → shown p ≡ bare at → AllNear (places_in t depth at) → map shown (Below depth number p) ≡ map bare (places_in t depth at)

    -- the places of instances and in them, card by card
    cards_same : (depth : ℕ) → IsSame depth → (around : ℕ) (p : Place) (at : FlatPlace) → shown p ≡ bare at → IsNear at → (cards : List InstanceCard) (number k base : ℕ)
        → AreCards at k cards → AllNear (FlatFrom depth at base cards) → map shown (From depth around p number k base (nets_of at cards)) ≡ map bare (FlatFrom depth at base cards)
    cards_same depth each around p at same near [] number k base from all = refl
    cards_same depth each around p at same near (card ∷ cards) number k base from all =
        let q : Place = inner_place t.design globals around p k base (instance_in t.design t.rules (cell_at t.design at.cell) card) in
        let inner : FlatPlace = inner_at at card base in
        let these : List Place = Below depth number q in
        let rest : List FlatPlace = FlatFrom depth at (behind depth base card) cards in
        let there = first_card at k card cards from in
        map-append shown these (From depth around p (number + length these) (suc k) (base + own_below tables depth (cell_named t.design card.cell)) (nets_of at cards))
        ∙ ap₂ (λ (a b : List Bare). a ++ b)
        (each number q inner (like around p at same near k card there base) (λ other m. all other (among_left (places_in t depth inner) rest other m)))
        (ap (λ (n : ℕ). map shown (From depth around p (number + length these) (suc k) (base + n) (nets_of at cards))) (own_is t.design t.rules tables are depth (cell_named t.design card.cell))
        ∙ cards_same depth each around p at same near cards (number + length these) (suc k) (behind depth base card) (next_cards at k card cards from)
        (λ other m. all other (among_right (places_in t depth inner) rest other m)))
        ∙ sym (map-append bare (places_in t depth inner) rest)

    -- what is unrolled in a place, by the cards of its cell
    by_cards : (depth number : ℕ) (p : Place) (at : FlatPlace) → shown p ≡ bare at
        → From depth number p (suc number) 0 (p.base + own_at tables p.cell) (nets_at tables p.cell).instances
        ≡ From depth number p (suc number) 0 (at.base + length (own_nets t.design t.rules (cell_at t.design at.cell))) (nets_of at (cell_at t.design at.cell).instances)
    by_cards depth number p at same =
        let cell : p.cell ≡ at.cell = ap (λ (b : Bare). b.cell) same in
        let base : p.base ≡ at.base = ap (λ (b : Bare). b.base) same in
        let nets : nets_at tables p.cell ≡ nets_in t.design t.rules (cell_at t.design at.cell) = ap (nets_at tables) cell ∙ nets_are t.design t.rules tables are at.cell in
        ap₂ (λ (x : CellNets) (b : ℕ). From depth number p (suc number) 0 (b + length x.names.own) x.instances) nets base

    all_cards : (at : FlatPlace) → AreCards at 0 (cell_at t.design at.cell).instances
    all_cards at j card there = let e : j ≡ 0 + j = omega arith in subst (λ (n : ℕ). At (cell_at t.design at.cell).instances n card) e there

    places_same : (depth : ℕ) → IsSame depth
    places_same zero number p at same all = ap (λ (b : Bare). b ∷ []) same
    places_same (suc depth) number p at same all =
        ap₂ (λ (b : Bare) (bs : List Bare). b ∷ bs) same
        (ap (map shown) (by_cards depth number p at same)
        ∙ cards_same depth (places_same depth) number p at same (all at (0, refl)) (cell_at t.design at.cell).instances (suc number) 0
        (at.base + length (own_nets t.design t.rules (cell_at t.design at.cell))) (all_cards at)
        (λ other m. all other (among_later at (flat_map (places_in t depth) (instances_at t depth at)) other m)))

    -- ---- what stands in what

    abbrev IsSpan : List FlatPlace → ℕ → List FlatPlace → Type 0
    IsSpan all number flat = (j : ℕ) (at : FlatPlace) → At flat j at → At all (number + j) at

    abbrev StandsIn : List FlatPlace → ℕ → Place → FlatPlace → Type 0
    StandsIn all number q inner = (outer : FlatPlace) × (card : InstanceCard) × IsInside t all number q inner outer card

    abbrev AllStandIn : List FlatPlace → ℕ → List Place → List FlatPlace → Type 0
    AllStandIn all number places flat = (i : ℕ) (q : Place) (inner : FlatPlace) → At places i q → At flat i inner → StandsIn all (number + i) q inner

    abbrev AreNestedIn : ℕ → Type 0
    AreNestedIn depth = (all : List FlatPlace) (number : ℕ) (p : Place) (at : FlatPlace) → shown p ≡ bare at → AllNear (places_in t depth at) → IsSpan all number (places_in t depth at)
        → AreNested t all number (Below depth number p) (places_in t depth at)

    first_below : (depth number : ℕ) (p : Place) → At (Below depth number p) 0 p
    first_below zero number p = refl
    first_below (suc depth) number p = refl

    first_in : (depth : ℕ) (at : FlatPlace) → At (places_in t depth at) 0 at
    first_in zero at = refl
    first_in (suc depth) at = refl

    same_length : (depth number : ℕ) (p : Place) (at : FlatPlace) → shown p ≡ bare at → AllNear (places_in t depth at) → length (Below depth number p) ≡ length (places_in t depth at)
    same_length depth number p at same all =
        sym (length-map (Below depth number p) shown) ∙ ap (λ (bs : List Bare). length bs) (places_same depth number p at same all) ∙ length-map (places_in t depth at) bare

    -- an instance and what stands in it
    one_nested : (depth : ℕ) → AreNestedIn depth → (all : List FlatPlace) (around number : ℕ) (q : Place) (at inner : FlatPlace) (card : InstanceCard) → shown q ≡ bare inner
        → AllNear (places_in t depth inner) → IsSpan all number (places_in t depth inner) → IsInside t all (number + 0) q inner at card
        → AllStandIn all number (Below depth number q) (places_in t depth inner)
    one_nested depth each all around number q at inner card same near span is zero x y here there =
        subst (λ (z : Place). StandsIn all (number + 0) z y) (one_at (Below depth number q) 0 q x (first_below depth number q) here)
        (subst (λ (z : FlatPlace). StandsIn all (number + 0) q z) (one_at (places_in t depth inner) 0 inner y (first_in depth inner) there) (at, card, is))
    one_nested depth each all around number q at inner card same near span is (suc i) x y here there = each all number q inner same near span i x y here there

    -- one list and another behind it
    joined : (all : List FlatPlace) (number : ℕ) (places more : List Place) (flat rest : List FlatPlace) → length places ≡ length flat → AllStandIn all number places flat
        → AllStandIn all (number + length places) more rest → AllStandIn all number (places ++ more) (flat ++ rest)
    joined all number places more flat rest size front back i x y here there =
        elim (cases_lt i (length places)) [
          | inl lt ↦ front i x y (at_left places more i x lt here) (at_left flat rest i y (omega (arith, size, lt)) there)
          | inr ge ↦ (
              let j : i ≡ length places + (i - length places) = omega (arith, ge) in
              let k : i ≡ length flat + (i - length places) = omega (arith, size, ge) in
              let sum : number + length places + (i - length places) ≡ number + i = omega (arith, ge) in
              subst (λ (n : ℕ). StandsIn all n x y) sum
              (back (i - length places) x y (at_right places more (i - length places) x (subst (λ (n : ℕ). At (places ++ more) n x) j here))
              (at_right flat rest (i - length places) y (subst (λ (n : ℕ). At (flat ++ rest) n y) k there))))
        ]

    cards_nested : (depth : ℕ) → AreNestedIn depth → (all : List FlatPlace) (around : ℕ) (p : Place) (at : FlatPlace) → shown p ≡ bare at → IsNear at → At all around at
        → (cards : List InstanceCard) (number k base : ℕ) → around < number → AreCards at k cards → AllNear (FlatFrom depth at base cards) → IsSpan all number (FlatFrom depth at base cards)
        → AllStandIn all number (From depth around p number k base (nets_of at cards)) (FlatFrom depth at base cards)
    cards_nested depth each all around p at same near placed [] number k base before from nears span = λ i x y here there. absurd (none-some x here)
    cards_nested depth each all around p at same near placed (card ∷ cards) number k base before from nears span =
        let q : Place = inner_place t.design globals around p k base (instance_in t.design t.rules (cell_at t.design at.cell) card) in
        let inner : FlatPlace = inner_at at card base in
        let these : List Place = Below depth number q in
        let flat : List FlatPlace = places_in t depth inner in
        let rest : List FlatPlace = FlatFrom depth at (behind depth base card) cards in
        let there = first_card at k card cards from in
        let first : around < number + 0 = omega (arith, before) in
        let alike = like around p at same near k card there base in
        let near_flat : AllNear flat = λ other m. nears other (among_left flat rest other m) in
        let size : length these ≡ length flat = same_length depth number q inner alike near_flat in
        let more : (n : ℕ) → own_below tables depth (cell_named t.design card.cell) ≡ n → AllStandIn all (number + length these) (From depth around p (number + length these) (suc k) (base + n) (nets_of at cards)) rest
        → AllStandIn all (number + length these) (From depth around p (number + length these) (suc k) (base + own_below tables depth (cell_named t.design card.cell)) (nets_of at cards)) rest =
        λ n e. subst (λ (m : ℕ). AllStandIn all (number + length these) (From depth around p (number + length these) (suc k) (base + m) (nets_of at cards)) rest) (sym e) in
        joined all number these (From depth around p (number + length these) (suc k) (base + own_below tables depth (cell_named t.design card.cell)) (nets_of at cards)) flat rest size
        (one_nested depth each all around number q at inner card alike near_flat (λ j other m. span j other (at_front flat rest j other m))
        (record { before = first; around = placed; on_card = there; path = refl }))
        (more (own_count t.design t.rules depth (cell_at t.design (cell_named t.design card.cell))) (own_is t.design t.rules tables are depth (cell_named t.design card.cell))
        (cards_nested depth each all around p at same near placed cards (number + length these) (suc k) (behind depth base card) (omega (arith, before)) (next_cards at k card cards from)
        (λ other m. nears other (among_right flat rest other m))
        (λ j other m.
        let sum : number + (length flat + j) ≡ number + length these + j = omega (arith, size) in
        subst (λ (n : ℕ). At all n other) sum (span (length flat + j) other (at_back flat rest j other m)))))

    nested : (depth : ℕ) → AreNestedIn depth
    nested zero all number p at same near span i x y here there = absurd (none-some x here)
    nested (suc depth) all number p at same near span i x y here there =
        let start : number + 0 ≡ number = omega arith in
        let sum : suc number + i ≡ number + suc i = omega arith in
        subst (λ (n : ℕ). StandsIn all n x y) sum
        (cards_nested depth (nested depth) all number p at same (near at (0, refl)) (subst (λ (n : ℕ). At all n at) start (span 0 at refl)) (cell_at t.design at.cell).instances (suc number) 0
        (at.base + length (own_nets t.design t.rules (cell_at t.design at.cell))) (omega arith) (all_cards at)
        (λ other m. near other (among_later at (flat_map (places_in t depth) (instances_at t depth at)) other m))
        (λ j other m.
        let next : number + suc j ≡ suc number + j = omega arith in
        subst (λ (n : ℕ). At all n other) next (span (suc j) other m))
        i x y (subst (λ (xs : List Place). At xs i x) (by_cards depth number p at same) here) there)

    -- ---- all places

    all_near : AllNear (places_in t deepest (top_place t))
    all_near at m = (deepest, omega arith, m)

    pub all_same : (p : Place) → shown p ≡ bare (top_place t) → map shown (all_below t.design tables globals p) ≡ map bare (all_places t)
    unfolding all_below all_places
    all_same p same = places_same deepest 0 p (top_place t) same all_near

    pub all_nested : (p : Place) → shown p ≡ bare (top_place t) → AreNested t (all_places t) 0 (all_below t.design tables globals p) (all_places t)
    unfolding all_below all_places
    all_nested p same = nested deepest (places_in t deepest (top_place t)) 0 p (top_place t) same all_near (λ j at m. let e : j ≡ 0 + j = omega arith in subst (λ (n : ℕ). At (places_in t deepest (top_place t)) n at) e m)
