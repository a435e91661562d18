-- Places that are unrolled card by card.
use Rattle.std.proofs.Common.{◌≡◌, ◌<◌, ◌≤◌, ◌+◌, ◌++◌, ◌∷◌, ◌^◌, [], ℕ, zero, suc, List, length, drop, Option, Some, ap, ap₂, sym, subst, ◌∙◌, arith, add-one, append-nil, append_assoc, length-append}
use Rattle.std.specs.Prelude.{slice_get, sum_by, unwrap_or}
use Rattle.std.proofs.lemmas.List.{drop_all, drop_more}
use Rattle.std.proofs.lemmas.List.Sums.{sum_by-cons}
use Rattle.std.proofs.lemmas.Option.{get_or_from_slice_get}
use Rattle.net_places.specs.Places.{AreWithin, HasRoomFor, IsUnderway, inner_from, inner_place, nets_at, own_at, own_below, places_below}
use Rattle.net_places.specs.declared.places.Place.{Place}
use Rattle.net_tables.specs.declared.tables.NetTables.{NetTables}
use Rattle.net_tables.specs.declared.types.CellNet.{CellNet}
use Rattle.net_tables.specs.declared.types.CellNets.{CellNets}
use Rattle.net_tables.specs.declared.types.InstanceNets.{InstanceNets}
use Rattle.vrt_model.specs.Lists.{Among}
use Rattle.vrt_model.specs.declared.design.Design.{Design}
use Rattle.vrt_model.specs.declared.ids.Net.{Net}

abbrev empty : CellNets
empty = record { names = record { ports = []; own = [] }; devices = []; instances = [] }

module _ (design : Design) (tables : NetTables) where
  -- a cell that is there has its nets, and one that is not has none
  pub nets_there : (k : ℕ) (nets : CellNets) → slice_get tables.cells k ≡ Some nets → nets_at tables k ≡ nets
  nets_there k nets e = ap (λ (o : Option CellNets). unwrap_or o empty) e

  -- the own nets of a cell itself
  pub own_within : (depth k : ℕ) → own_at tables k ≤ own_below tables depth k
  own_within zero k = omega arith
  own_within (suc depth) k = omega arith

  -- there is room for the nets at an instance
  pub room_for : AreWithin tables → (depth k base : ℕ) → base + own_below tables depth k < 2 ^ 32 → (nets : CellNets) → nets_at tables k ≡ nets
      → (instances : List InstanceNets) (card : ℕ) (i : InstanceNets) (list : List CellNet) → instances ≡ nets.instances → slice_get instances card ≡ Some i → list ≡ i.nets → HasRoomFor base list
  room_for within depth k base room nets there instances card i list given here is n m j e =
      let placed : slice_get (nets_at tables k).instances card ≡ Some i = ap (λ (x : CellNets). slice_get x.instances card) there ∙ sym (ap (λ (xs : List InstanceNets). slice_get xs card) given) ∙ here in
      let le = within k i (card, placed) n (subst (λ (ns : List CellNet). Among ns n) is m) j e in
      omega (arith, le, own_within depth k, room)

  module _ (globals : List Net) where
    -- an instance more
    one_turn : (depth around : ℕ) (p : Place) (card : ℕ) (i : InstanceNets) (rest : List InstanceNets) (next after : ℕ) (places new all : List Place) (last : ℕ)
        → IsUnderway design tables globals depth around p card (i ∷ rest) next places all last
        → new ≡ places ++ places_below design tables globals depth (length places) (inner_place design globals around p card next i)
        → after ≡ next + own_below tables depth i.cell → IsUnderway design tables globals depth around p (card + 1) rest after new all last
    one_turn depth around p card i rest next after places new all last before e a =
        let these : List Place = places_below design tables globals depth (length places) (inner_place design globals around p card next i) in
        let size : length new ≡ length places + length these = ap length e ∙ length-append places these in
        let more : List Place = inner_from design tables globals (places_below design tables globals depth) depth around p (length places + length these) (suc card) (next + own_below tables depth i.cell) rest in
        record {
          whole =
              ap₂ (λ (m b : ℕ). new ++ inner_from design tables globals (places_below design tables globals depth) depth around p m (card + 1) b rest) size a
              ∙ ap (λ (c : ℕ). new ++ inner_from design tables globals (places_below design tables globals depth) depth around p (length places + length these) c (next + own_below tables depth i.cell) rest) (add-one card)
              ∙ ap (λ (ps : List Place). ps ++ more) e
              ∙ append_assoc places these more ∙ before.whole;
          room =
              let sum = sum_by-cons (λ (i : InstanceNets). own_below tables depth i.cell) i rest in
              omega (arith, a, sum, before.room);
        }

    next_of : (xs : List InstanceNets) (n : ℕ) (x : InstanceNets) → n < length xs → slice_get xs n ≡ Some x → drop n xs ≡ x ∷ drop (n + 1) xs
    next_of xs n x lt here = drop_more xs n x lt ∙ ap (λ y. y ∷ drop (n + 1) xs) (get_or_from_slice_get xs n x x here)

    pub turn_at : (depth around : ℕ) (p : Place) (card : ℕ) (instances : List InstanceNets) (i : InstanceNets) (inner : Place) (next after : ℕ) (places new all : List Place) (last : ℕ)
        → card < length instances → slice_get instances card ≡ Some i → inner ≡ inner_place design globals around p card next i
        → IsUnderway design tables globals depth around p card (drop card instances) next places all last
        → new ≡ places ++ places_below design tables globals depth (length places) inner → after ≡ inner.base + own_below tables depth inner.cell
        → IsUnderway design tables globals depth around p (card + 1) (drop (card + 1) instances) after new all last
    turn_at depth around p card instances i inner next after places new all last lt here is before e a =
        one_turn depth around p card i (drop (card + 1) instances) next after places new all last
        (subst (λ (xs : List InstanceNets). IsUnderway design tables globals depth around p card xs next places all last) (next_of instances card i lt here) before)
        (e ∙ ap (λ (q : Place). places ++ places_below design tables globals depth (length places) q) is)
        (a ∙ ap (λ (q : Place). q.base + own_below tables depth q.cell) is)

    -- there is room for the own nets of an instance
    pub room_at : (depth around : ℕ) (p : Place) (card : ℕ) (instances : List InstanceNets) (i : InstanceNets) (next : ℕ) (places all : List Place) (last : ℕ)
        → card < length instances → slice_get instances card ≡ Some i → IsUnderway design tables globals depth around p card (drop card instances) next places all last
        → next + own_below tables depth i.cell ≤ last
    room_at depth around p card instances i next places all last lt here before =
        let sum = ap (sum_by (λ (i : InstanceNets). own_below tables depth i.cell)) (next_of instances card i lt here)
        ∙ sum_by-cons (λ (i : InstanceNets). own_below tables depth i.cell) i (drop (card + 1) instances) in
        let room = before.room in
        omega (arith, sum, room)

    -- at its place
    pub room_inner : (depth around : ℕ) (p : Place) (card : ℕ) (i : InstanceNets) (inner : Place) (next last whole : ℕ) → inner ≡ inner_place design globals around p card next i
        → next + own_below tables depth i.cell ≤ last → last ≡ whole → whole < 2 ^ 32 → inner.base + own_below tables depth inner.cell < 2 ^ 32
    room_inner depth around p card i inner next last whole is room same small =
        let moved : inner.base + own_below tables depth inner.cell ≡ next + own_below tables depth i.cell = ap (λ (q : Place). q.base + own_below tables depth q.cell) is in
        omega (arith, moved, room, same, small)

    -- behind the last
    pub all_there : (depth around : ℕ) (p : Place) (card : ℕ) (instances : List InstanceNets) (next : ℕ) (places all : List Place) (last : ℕ) → length instances ≤ card
        → IsUnderway design tables globals depth around p card (drop card instances) next places all last → (places ≡ all) × (next ≡ last)
    all_there depth around p card instances next places all last past before =
        let is = subst (λ (xs : List InstanceNets). IsUnderway design tables globals depth around p card xs next places all last) (drop_all card instances past) before in
        let room : next + 0 ≡ last = is.room in
        (sym (append-nil places) ∙ is.whole, omega (arith, room))
