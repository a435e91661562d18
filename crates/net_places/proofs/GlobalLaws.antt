-- Which global nets the cards of unrolled cells name, and their flat nets.
use Rattle.std.proofs.Common.{◌≡◌, ◌<◌, ◌+◌, ◌++◌, ◌∷◌, ◌&&◌, ◌||◌, ◌==◌, [], ℕ, zero, suc, not, cond, List, Bool, true, false, map, flat_map, length, get_or, Option, Some, None, refl, ap, ap₂, sym, subst, ◌∙◌, ◌^◌, arith, append-nil, append_assoc}
use Rattle.std.specs.Prelude.{bytes_eq, filter, is_some, option_map, slice_get, unwrap_or}
use Rattle.std.specs.List.{list_any}
use Rattle.std.specs.Option.{option_or}
use Rattle.std.proofs.lemmas.Bool.Decides.{nat_tests}
use Rattle.std.proofs.lemmas.List.Folds.{list_any-append}
use Rattle.std.proofs.lemmas.List.Quantifiers.{position-Some}
use Rattle.std.proofs.lemmas.Option.{none-some, same_Some, slice_get-get_or, slice_get_within}
use Rattle.std.proofs.lemmas.Slice.Eq.{bytes_eq-Decides}
use Rattle.names.proofs.ApartLaws.{NoRepeat, once_by}
use Rattle.names.proofs.FilterLaws.{has_name_filter}
use Rattle.names.proofs.PlaceLaws.{any_placed, at_among, place_is}
use Rattle.net_places.proofs.CellLaws.{nets_are}
use Rattle.net_places.specs.Globals.{HasMarked, IsMarking, all_nets, card_nets, global_nets_from, is_global, marked_count, nets_below, nets_on}
use Rattle.net_places.specs.Links.{AreGlobalNets, AreNoOthers}
use Rattle.net_places.specs.Places.{nets_at}
use Rattle.net_tables.specs.Nets.{device_in, instance_in, net_in, nets_in}
use Rattle.net_tables.specs.Tables.{AreNetTables}
use Rattle.net_tables.specs.declared.tables.NetTables.{NetTables}
use Rattle.net_tables.specs.declared.types.CellNet.{CellNet}
use Rattle.net_tables.specs.declared.types.CellNet.TheVariants.{Supply, Port, Global, Own}
use Rattle.net_tables.specs.declared.types.CellNets.{CellNets}
use Rattle.net_tables.specs.declared.types.DeviceNets.{DeviceNets}
use Rattle.net_tables.specs.declared.types.InstanceNets.{InstanceNets}
use Rattle.vrt_model.proofs.Members.{among_filter}
use Rattle.vrt_model.specs.CellRules.{supply_of}
use Rattle.vrt_model.specs.Comparison.{cell_at}
use Rattle.vrt_model.specs.FlatCircuit.{net_id}
use Rattle.vrt_model.specs.Inputs.{AllApart}
use Rattle.vrt_model.specs.Lists.{At, has_name, place_of}
use Rattle.vrt_model.specs.Unrolled.{Top, cell_named, deepest, first_global, global_nets, globals_of, is_global_in, mentions, names_global, own_nets, top_cell}
use Rattle.vrt_model.specs.declared.design.Cell.{Cell}
use Rattle.vrt_model.specs.declared.design.Design.{Design}
use Rattle.vrt_model.specs.declared.design.DeviceCard.{DeviceCard}
use Rattle.vrt_model.specs.declared.design.InstanceCard.{InstanceCard}
use Rattle.vrt_model.specs.declared.ids.Net.{Net}
use Rattle.vrt_model.specs.declared.rules.Rules.{Rules}
use Rattle.vrt_model.proofs.Lists.{any_same}

-- ---- marks

or_assoc : (a b c : Bool) → ((a || b) || c) ≡ (a || (b || c))
or_assoc true b c = refl
or_assoc false b c = refl

or_none : (a : Bool) → (a || false) ≡ a
or_none true = refl
or_none false = refl

pub begun : (nets : List CellNet) (marks : List Bool) → IsMarking nets marks marks nets
begun nets marks = record { len = refl; marked = λ j lt. refl }

pub step : (all xs rest left : List CellNet) (old now next : List Bool) → left ≡ xs ++ rest → IsMarking all old now left → HasMarked xs now next → IsMarking all old next rest
step all xs rest left old now next e before more = record {
  len = more.len ∙ before.len;
  marked = λ j lt.
      ap (λ (b : Bool). b || list_any (is_global j) rest) (more.marked j (let n = before.len in omega (arith, n, lt)))
      ∙ or_assoc (get_or now j false) (list_any (is_global j) xs) (list_any (is_global j) rest)
      ∙ ap (λ (b : Bool). get_or now j false || b) (sym (list_any-append (is_global j) xs rest) ∙ ap (list_any (is_global j)) (sym e))
      ∙ before.marked j lt;
}

pub done : (all left : List CellNet) (old now : List Bool) → left ≡ [] → IsMarking all old now left → HasMarked all old now
done all left old now e marking = record {
  len = marking.len;
  marked = λ j lt. sym (or_none (get_or now j false)) ∙ ap (λ (xs : List CellNet). get_or now j false || list_any (is_global j) xs) (sym e) ∙ marking.marked j lt;
}

pub both : (xs ys : List CellNet) (old mid new : List Bool) → HasMarked xs old mid → HasMarked ys mid new → HasMarked (xs ++ ys) old new
both xs ys old mid new first second = record {
  len = second.len ∙ first.len;
  marked = λ j lt.
      second.marked j (let n = first.len in omega (arith, n, lt))
      ∙ ap (λ (b : Bool). b || list_any (is_global j) ys) (first.marked j lt)
      ∙ or_assoc (get_or old j false) (list_any (is_global j) xs) (list_any (is_global j) ys)
      ∙ ap (λ (b : Bool). get_or old j false || b) (sym (list_any-append (is_global j) xs ys));
}

pub none : (marks : List Bool) → HasMarked [] marks marks
none marks = record { len = refl; marked = λ j lt. sym (or_none (get_or marks j false)) }

-- one net
pub one : (net : CellNet) (old new : List Bool) → length new ≡ length old → ((j : ℕ) → j < length old → get_or new j false ≡ (get_or old j false || is_global j net)) → HasMarked (net ∷ []) old new
one net old new len marked = record { len = len; marked = λ j lt. marked j lt ∙ ap (λ (b : Bool). get_or old j false || b) (sym (or_none (is_global j net))) }

pub three : (a b c : CellNet) (marks first second third : List Bool) → length first ≡ length marks
    → ((j : ℕ) → j < length marks → get_or first j false ≡ (get_or marks j false || is_global j a)) → length second ≡ length first
    → ((j : ℕ) → j < length first → get_or second j false ≡ (get_or first j false || is_global j b)) → length third ≡ length second
    → ((j : ℕ) → j < length second → get_or third j false ≡ (get_or second j false || is_global j c)) → HasMarked (a ∷ b ∷ c ∷ []) marks third
three a b c marks first second third len_a is_a len_b is_b len_c is_c =
    both (a ∷ []) (b ∷ c ∷ []) marks first third (one a marks first len_a is_a) (both (b ∷ []) (c ∷ []) first second third (one b first second len_b is_b) (one c second third len_c is_c))

-- of items, one behind the other
pub more : {X : Type 0} (all : List CellNet) (f : X → List CellNet) (x : X) (left behind : List X) (old now next : List Bool) → left ≡ x ∷ behind → IsMarking all old now (flat_map f left)
    → HasMarked (f x) now next → IsMarking all old next (flat_map f behind)
more all f x left behind old now next e before marked = step all (f x) (flat_map f behind) (flat_map f left) old now next (ap (flat_map f) e) before marked

pub ended : {X : Type 0} (all : List CellNet) (f : X → List CellNet) (left : List X) (old now : List Bool) → left ≡ [] → IsMarking all old now (flat_map f left) → HasMarked all old now
ended all f left old now e marking = done all (flat_map f left) old now (ap (flat_map f) e) marking

-- the cards of a cell: transistors, then instances
pub cards_by : (nets : CellNets) (devices : List DeviceNets) (instances : List InstanceNets) (old mid new : List Bool) → devices ≡ nets.devices → instances ≡ nets.instances
    → HasMarked (flat_map nets_on devices) old mid → HasMarked (flat_map (λ (i : InstanceNets). i.nets) instances) mid new → HasMarked (card_nets nets) old new
cards_by nets devices instances old mid new d i first second =
    both (flat_map nets_on nets.devices) (flat_map (λ (i : InstanceNets). i.nets) nets.instances) old mid new
    (subst (λ (xs : List DeviceNets). HasMarked (flat_map nets_on xs) old mid) d first)
    (subst (λ (xs : List InstanceNets). HasMarked (flat_map (λ (i : InstanceNets). i.nets) xs) mid new) i second)

-- the cards of a cell that is there, and those of the cells in it
module _ (tables : NetTables) where
  pub cards_there : (k : ℕ) (nets : CellNets) → slice_get tables.cells k ≡ Some nets → nets_at tables k ≡ nets
  cards_there k nets e = ap (λ (o : Option CellNets). unwrap_or o (record { names = record { ports = []; own = [] }; devices = []; instances = [] })) e

  no_cards : (k : ℕ) → slice_get tables.cells k ≡ None → nets_at tables k ≡ record { names = record { ports = []; own = [] }; devices = []; instances = [] }
  no_cards k e = ap (λ (o : Option CellNets). unwrap_or o (record { names = record { ports = []; own = [] }; devices = []; instances = [] })) e

  pub nothing_there : (depth k : ℕ) (marks : List Bool) → slice_get tables.cells k ≡ None → HasMarked (nets_below tables depth k) marks marks
  nothing_there zero k marks e = subst (λ (nets : CellNets). HasMarked (card_nets nets) marks marks) (sym (no_cards k e)) (none marks)
  nothing_there (suc depth) k marks e =
      subst (λ (nets : CellNets). HasMarked (card_nets nets ++ flat_map (λ (i : InstanceNets). nets_below tables depth i.cell) nets.instances) marks marks) (sym (no_cards k e)) (none marks)

  pub cards_alone : (k : ℕ) (nets : CellNets) (old new : List Bool) → slice_get tables.cells k ≡ Some nets → HasMarked (card_nets nets) old new → HasMarked (nets_below tables 0 k) old new
  cards_alone k nets old new e marked = subst (λ (x : CellNets). HasMarked (card_nets x) old new) (sym (cards_there k nets e)) marked

  pub cards_first : (depth k : ℕ) (nets : CellNets) (old new : List Bool) → slice_get tables.cells k ≡ Some nets → HasMarked (card_nets nets) old new
      → IsMarking (nets_below tables (suc depth) k) old new (flat_map (λ (i : InstanceNets). nets_below tables depth i.cell) nets.instances)
  cards_first depth k nets old new e marked =
      let all : List CellNet = card_nets nets ++ flat_map (λ (i : InstanceNets). nets_below tables depth i.cell) nets.instances in
      subst (λ (x : CellNets). IsMarking (card_nets x ++ flat_map (λ (i : InstanceNets). nets_below tables depth i.cell) x.instances) old new (flat_map (λ (i : InstanceNets). nets_below tables depth i.cell) nets.instances))
      (sym (cards_there k nets e))
      (step all (card_nets nets) (flat_map (λ (i : InstanceNets). nets_below tables depth i.cell) nets.instances) all old old new refl (begun all old) marked)

-- ---- flat nets

pub record IsNumbering (first : ℕ) (marks : List Bool) (nets : List Net) (next : ℕ) (left : List Bool) : Type 0 where
  pub nets_are : nets ++ global_nets_from next left ≡ global_nets_from first marks
  pub next_is : next + marked_count left ≡ first + marked_count marks

pub numbered_more : (first : ℕ) (marks left behind : List Bool) (mark : Bool) (nets new : List Net) (net : Net) (next after : ℕ) → left ≡ mark ∷ behind → new ≡ nets ++ net ∷ []
    → net ≡ cond mark (net_id next) (net_id 0) → after ≡ cond mark (suc next) next → IsNumbering first marks nets next left → IsNumbering first marks new after behind
numbered_more first marks left behind mark nets new net next after e m is now before = record {
  nets_are =
      ap₂ (λ (ns : List Net) (n : ℕ). ns ++ global_nets_from n behind) m now ∙ append_assoc nets (net ∷ []) (global_nets_from (cond mark (suc next) next) behind)
      ∙ ap (λ (n : Net). nets ++ n ∷ global_nets_from (cond mark (suc next) next) behind) is
      ∙ ap (λ (bs : List Bool). nets ++ global_nets_from next bs) (sym e) ∙ before.nets_are;
  next_is =
      let whole = ap (λ (bs : List Bool). next + marked_count bs) e in
      let sum = before.next_is in
      let one = behind_is mark in
      omega (arith, now, whole, sum, one);
} where
  behind_is : (b : Bool) → cond b (suc next) next ≡ next + cond b 1 0
  behind_is true = omega arith
  behind_is false = omega arith

-- there is room for one more
pub numbered_room : (first : ℕ) (marks left behind : List Bool) (mark : Bool) (nets : List Net) (next : ℕ) → left ≡ mark ∷ behind → IsNumbering first marks nets next left
    → first + marked_count marks < 2 ^ 32 → next + cond mark 1 0 < 2 ^ 32
numbered_room first marks left behind mark nets next e before room =
    let whole = ap (λ (bs : List Bool). next + marked_count bs) e in
    let sum = before.next_is in
    omega (arith, whole, sum, room)

pub numbered_all : (first : ℕ) (marks left : List Bool) (nets : List Net) (next : ℕ) → left ≡ [] → IsNumbering first marks nets next left
    → (nets ≡ global_nets_from first marks) × (next ≡ first + marked_count marks)
numbered_all first marks left nets next e before =
    let none = ap (λ (bs : List Bool). next + marked_count bs) e in
    let sum = before.next_is in (
      sym (append-nil nets) ∙ ap (λ (bs : List Bool). nets ++ global_nets_from next bs) (sym e) ∙ before.nets_are,
      omega (arith, none, sum),
    )

module _ (test : List ℕ → Bool) where
  clash : (b : Bool) → b ≡ true → b ≡ false → ⊥
  clash true e f = cc
  clash false e f = cc

  -- the flat net of a global net that passes the test
  pub placed : (xs : List (List ℕ)) → NoRepeat xs → (first j k : ℕ) (name : List ℕ) → At xs j name → At (filter test xs) k name → At (global_nets_from first (map test xs)) j (net_id (first + k))
  placed [] n first j k name here there = absurd (none-some name here)
  placed (x ∷ xs) n first j k name here there = by_test (test x) j k here there (λ first j k here there. placed xs n.1 first j k name here there) where
    again : (i : ℕ) → x ≡ name → At xs i name → ⊥
    again i e h = clash (has_name xs x) (at_among xs i x (subst (λ (y : List ℕ). At xs i y) (sym e) h)) n.0

    again_kept : (i : ℕ) → x ≡ name → At (filter test xs) i name → ⊥
    again_kept i e h = let m = among_filter test xs name (i, h) in again m.0 e m.1

    by_test : (b : Bool) (j k : ℕ) → At (x ∷ xs) j name → At (cond b (x ∷ filter test xs) (filter test xs)) k name
        → ((first j k : ℕ) → At xs j name → At (filter test xs) k name → At (global_nets_from first (map test xs)) j (net_id (first + k)))
        → At (cond b (net_id first) (net_id 0) ∷ global_nets_from (cond b (suc first) first) (map test xs)) j (net_id (first + k))
    by_test true zero zero here there more = ap (λ (i : ℕ). Some (net_id i)) (omega arith)
    by_test true zero (suc k) here there more = absurd (again_kept k (same_Some x name here) there)
    by_test true (suc j) zero here there more = absurd (again j (same_Some x name there) here)
    by_test true (suc j) (suc k) here there more =
        let sum : suc first + k ≡ first + suc k = omega arith in subst (λ (i : ℕ). At (global_nets_from (suc first) (map test xs)) j (net_id i)) sum (more (suc first) j k here there)
    by_test false zero k here there more = absurd (again_kept k (same_Some x name here) there)
    by_test false (suc j) k here there more = more first j k here there

  -- and of one that does not
  pub unplaced : (xs : List (List ℕ)) (first j : ℕ) (name : List ℕ) → At xs j name → test name ≡ false → At (global_nets_from first (map test xs)) j (net_id 0)
  unplaced [] first j name here fails = absurd (none-some name here)
  unplaced (x ∷ xs) first zero name here fails = ap (λ (b : Bool). Some (cond b (net_id first) (net_id 0))) (ap test (same_Some x name here) ∙ fails)
  unplaced (x ∷ xs) first (suc j) name here fails = unplaced xs (cond (test x) (suc first) first) j name here fails

  pub counted : (xs : List (List ℕ)) → marked_count (map test xs) ≡ length (filter test xs)
  counted [] = refl
  counted (x ∷ xs) = by_test (test x) (counted xs) where
    by_test : (b : Bool) → marked_count (map test xs) ≡ length (filter test xs) → cond b 1 0 + marked_count (map test xs) ≡ length (cond b (x ∷ filter test xs) (filter test xs))
    by_test true e = omega (arith, e)
    by_test false e = omega (arith, e)

  -- marks that say the test at each place
  pub are_marks : (xs : List (List ℕ)) (marks : List Bool) → length marks ≡ length xs → ((j : ℕ) (name : List ℕ) → At xs j name → get_or marks j false ≡ test name) → marks ≡ map test xs
  are_marks [] [] len each = refl
  are_marks [] (m ∷ marks) len each = absurd (omega (arith, len))
  are_marks (x ∷ xs) [] len each = absurd (omega (arith, len))
  are_marks (x ∷ xs) (m ∷ marks) len each = ap₂ (λ (b : Bool) (bs : List Bool). b ∷ bs) (each 0 x refl) (are_marks xs marks (omega (arith, len)) (λ j name e. each (suc j) name e))

-- ---- what cards name

any_map : {X Y : Type 0} (p : Y → Bool) (f : X → Y) (xs : List X) → list_any p (map f xs) ≡ list_any (λ x. p (f x)) xs
any_map p f [] = refl
any_map p f (x ∷ xs) = ap (λ (b : Bool). p (f x) || b) (any_map p f xs)

any_flat : {X Y : Type 0} (p : Y → Bool) (f : X → List Y) (xs : List X) → list_any p (flat_map f xs) ≡ list_any (λ x. list_any p (f x)) xs
any_flat p f [] = refl
any_flat p f (x ∷ xs) = list_any-append p (f x) (flat_map f xs) ∙ ap (λ (b : Bool). list_any p (f x) || b) (any_flat p f xs)

module _ (design : Design) (rules : Rules) (j : ℕ) (name : List ℕ) (here : At design.globals j name) (apart : AllApart bytes_eq design.globals) where
  abbrev by_kind : Option Bool → Option ℕ → Option ℕ → CellNet → CellNet
  by_kind s p g own =
      unwrap_or (option_or (option_map (λ (value : Bool). Supply value) s) (option_or (option_map (λ (k : ℕ). Port k) p) (option_map (λ (i : ℕ). Global i) g))) own

  itself_same : (n : ℕ) → (n == n) ≡ true
  itself_same n = grind (arith, nat_tests)

  -- the global net itself
  itself : (cell : Cell) → is_global j (net_in design rules cell name) ≡ is_global_in design rules cell name
  unfolding net_in
  itself cell =
      ap (λ (g : Option ℕ). is_global j (by_kind (supply_of rules name) (place_of cell.ports name) g (Own (unwrap_or (place_of (own_nets design rules cell) name) 0)))) (place_is design.globals j name apart here)
      ∙ by_test (supply_of rules name) (place_of cell.ports name)
      ∙ ap₂ (λ (a b : Bool). (a && not (is_some (supply_of rules name))) && not b) (sym (at_among design.globals j name here)) (sym (any_placed (bytes_eq name) cell.ports)) where
        by_test : (s : Option Bool) (p : Option ℕ)
            → is_global j (by_kind s p (Some j) (Own (unwrap_or (place_of (own_nets design rules cell) name) 0))) ≡ ((true && not (is_some s)) && not (is_some p))
        by_test (Some value) p = refl
        by_test None (Some k) = refl
        by_test None None = itself_same j

  -- no other name is that net
  no_other : (cell : Cell) (other : List ℕ) → bytes_eq name other ≡ false → is_global j (net_in design rules cell other) ≡ false
  unfolding net_in
  no_other cell other differs = by_test (supply_of rules other) (place_of cell.ports other) (place_of design.globals other) refl where
    by_number : (k : ℕ) (b : Bool) → (k == j) ≡ b → place_of design.globals other ≡ Some k → (k == j) ≡ false
    by_number k false e g = e
    by_number k true e g =
        let same : k ≡ j = grind (arith, nat_tests, e) in
        let found = position-Some (bytes_eq other) design.globals k [] g in
        let there : At design.globals k (get_or design.globals k []) = slice_get-get_or design.globals k [] found.0 in
        let is : get_or design.globals k [] ≡ name = same_Some (get_or design.globals k []) name (sym there ∙ ap (slice_get design.globals) same ∙ here) in
        let like : other ≡ name = (bytes_eq-Decides other _).0 found.1 ∙ is in
        absurd (let wrong : true ≡ false = sym ((bytes_eq-Decides name other).1 (sym like)) ∙ differs in cc)

    by_test : (s : Option Bool) (p g : Option ℕ) → place_of design.globals other ≡ g → is_global j (by_kind s p g (Own (unwrap_or (place_of (own_nets design rules cell) other) 0))) ≡ false
    by_test (Some value) p g e = refl
    by_test None (Some k) g e = refl
    by_test None None (Some k) e = by_number k (k == j) refl e
    by_test None None None e = refl

  one_name : (cell : Cell) (other : List ℕ) → is_global j (net_in design rules cell other) ≡ (is_global_in design rules cell name && bytes_eq name other)
  one_name cell other = by_test (bytes_eq name other) refl where
    both_true : (b : Bool) → b ≡ (b && true)
    both_true true = refl
    both_true false = refl

    one_false : (b : Bool) → false ≡ (b && false)
    one_false true = refl
    one_false false = refl

    by_test : (b : Bool) → bytes_eq name other ≡ b → is_global j (net_in design rules cell other) ≡ (is_global_in design rules cell name && b)
    by_test true e =
        ap (λ (n : List ℕ). is_global j (net_in design rules cell n)) (sym ((bytes_eq-Decides name other).0 e)) ∙ itself cell ∙ both_true (is_global_in design rules cell name)
    by_test false e = no_other cell other e ∙ one_false (is_global_in design rules cell name)

  split : (g b r : Bool) → ((g && b) || (g && r)) ≡ (g && (b || r))
  split true b r = refl
  split false b r = refl

  no_name : (g : Bool) → false ≡ (g && false)
  no_name true = refl
  no_name false = refl

  names_any : (cell : Cell) (names : List (List ℕ)) → list_any (λ other. is_global j (net_in design rules cell other)) names ≡ (is_global_in design rules cell name && has_name names name)
  names_any cell [] = no_name (is_global_in design rules cell name)
  names_any cell (x ∷ xs) =
      ap₂ (λ (a b : Bool). a || b) (one_name cell x) (names_any cell xs) ∙ split (is_global_in design rules cell name) (bytes_eq name x) (has_name xs name)

  -- the nets on the cards of a cell are those that they name
  devices_any : (cell : Cell) (cards : List DeviceCard) → list_any (is_global j) (flat_map nets_on (map (device_in design rules cell) cards))
      ≡ list_any (λ other. is_global j (net_in design rules cell other)) (flat_map (λ (d : DeviceCard). d.drain ∷ d.gate ∷ d.source ∷ []) cards)
  devices_any cell [] = refl
  devices_any cell (d ∷ cards) =
      ap (λ (b : Bool). is_global j (net_in design rules cell d.drain) || (is_global j (net_in design rules cell d.gate) || (is_global j (net_in design rules cell d.source) || b))) (devices_any cell cards)

  instances_any : (cell : Cell) (cards : List InstanceCard) → list_any (is_global j) (flat_map (λ (i : InstanceNets). i.nets) (map (instance_in design rules cell) cards))
      ≡ list_any (λ other. is_global j (net_in design rules cell other)) (flat_map (λ (i : InstanceCard). i.nets) cards)
  instances_any cell [] = refl
  instances_any cell (i ∷ cards) =
      list_any-append (is_global j) (map (net_in design rules cell) i.nets) (flat_map (λ (i : InstanceNets). i.nets) (map (instance_in design rules cell) cards))
      ∙ ap₂ (λ (a b : Bool). a || b) (any_map (is_global j) (net_in design rules cell) i.nets) (instances_any cell cards)
      ∙ sym (list_any-append (λ other. is_global j (net_in design rules cell other)) i.nets (flat_map (λ (i : InstanceCard). i.nets) cards))

  cards_any : (cell : Cell) → list_any (is_global j) (card_nets (nets_in design rules cell)) ≡ (is_global_in design rules cell name && has_name (mentions cell) name)
  cards_any cell =
      list_any-append (is_global j) (flat_map nets_on (map (device_in design rules cell) cell.devices)) (flat_map (λ (i : InstanceNets). i.nets) (map (instance_in design rules cell) cell.instances))
      ∙ ap₂ (λ (a b : Bool). a || b) (devices_any cell cell.devices) (instances_any cell cell.instances)
      ∙ sym (list_any-append (λ other. is_global j (net_in design rules cell other)) (flat_map (λ (d : DeviceCard). d.drain ∷ d.gate ∷ d.source ∷ []) cell.devices) (flat_map (λ (i : InstanceCard). i.nets) cell.instances))
      ∙ names_any cell (mentions cell)

  module _ (tables : NetTables) (are : AreNetTables design rules tables) where
    here_any : (k : ℕ) → list_any (is_global j) (card_nets (nets_at tables k)) ≡ (is_global_in design rules (cell_at design k) name && has_name (mentions (cell_at design k)) name)
    here_any k = ap (λ (nets : CellNets). list_any (is_global j) (card_nets nets)) (nets_are design rules tables are k) ∙ cards_any (cell_at design k)

    below_any : (depth k : ℕ) → list_any (is_global j) (nets_below tables depth k) ≡ names_global design rules depth (cell_at design k) name
    below_any zero k = here_any k
    below_any (suc depth) k =
        list_any-append (is_global j) (card_nets (nets_at tables k)) (flat_map (λ (i : InstanceNets). nets_below tables depth i.cell) (nets_at tables k).instances)
        ∙ ap₂ (λ (a b : Bool). a || b) (here_any k)
        (ap (λ (nets : CellNets). list_any (is_global j) (flat_map (λ (i : InstanceNets). nets_below tables depth i.cell) nets.instances)) (nets_are design rules tables are k)
        ∙ any_flat (is_global j) (λ (i : InstanceNets). nets_below tables depth i.cell) (map (instance_in design rules (cell_at design k)) (cell_at design k).instances)
        ∙ any_map (λ (i : InstanceNets). list_any (is_global j) (nets_below tables depth i.cell)) (instance_in design rules (cell_at design k)) (cell_at design k).instances
        ∙ any_same (λ (i : InstanceCard). list_any (is_global j) (nets_below tables depth (cell_named design i.cell)))
        (λ (i : InstanceCard). names_global design rules depth (cell_at design (cell_named design i.cell)) name) (λ i. below_any depth (cell_named design i.cell)) (cell_at design k).instances)

    pub all_any : (k : ℕ) → list_any (is_global j) (all_nets tables k) ≡ names_global design rules deepest (cell_at design k) name
    unfolding all_nets
    all_any k = below_any deepest k

-- ---- the global nets of a whole

-- marks that were none before
pub marked_alone : (nets : List CellNet) (old new : List Bool) → ((j : ℕ) → get_or old j false ≡ false) → HasMarked nets old new → (j : ℕ) → j < length old → get_or new j false ≡ list_any (is_global j) nets
marked_alone nets old new clear marked j lt = marked.marked j lt ∙ ap (λ (b : Bool). b || list_any (is_global j) nets) (clear j)

module _ (t : Top) (tables : NetTables) (are : AreNetTables t.design t.rules tables) (apart : AllApart bytes_eq t.design.globals) (marks : List Bool)
    (len : length marks ≡ length t.design.globals) (marked : (j : ℕ) → j < length t.design.globals → get_or marks j false ≡ list_any (is_global j) (all_nets tables t.cell)) where
  marks_are : marks ≡ map (names_global t.design t.rules deepest (top_cell t)) t.design.globals
  marks_are = are_marks (names_global t.design t.rules deepest (top_cell t)) t.design.globals marks len (λ j name here.
      marked j (slice_get_within t.design.globals j name here) ∙ all_any t.design t.rules j name here apart tables are t.cell)

  pub count_is : marked_count marks ≡ length (globals_of t)
  unfolding global_nets
  count_is = ap marked_count marks_are ∙ counted (names_global t.design t.rules deepest (top_cell t)) t.design.globals

  pub globals_are : AreGlobalNets t (global_nets_from (first_global t) marks)
  unfolding global_nets
  globals_are j k lt e =
      let name : List ℕ = get_or t.design.globals j [] in
      let here : At t.design.globals j name = slice_get-get_or t.design.globals j [] lt in
      let kept : List (List ℕ) = filter (names_global t.design t.rules deepest (top_cell t)) t.design.globals in
      let found = position-Some (bytes_eq (unwrap_or (slice_get t.design.globals j) [])) kept k [] e in
      let same : unwrap_or (slice_get t.design.globals j) [] ≡ name = ap (λ (o : Option (List ℕ)). unwrap_or o []) here in
      let is : name ≡ get_or kept k [] = sym same ∙ (bytes_eq-Decides _ _).0 found.1 in
      let there : At kept k name = slice_get-get_or kept k [] found.0 ∙ ap Some (sym is) in
      subst (λ (ms : List Bool). At (global_nets_from (first_global t) ms) j (net_id (first_global t + k))) (sym marks_are)
      (placed (names_global t.design t.rules deepest (top_cell t)) t.design.globals (once_by t.design.globals apart) (first_global t) j k name here there)

  pub others_are : AreNoOthers t (global_nets_from (first_global t) marks)
  unfolding global_nets
  others_are j name here e =
      let test : List ℕ → Bool = names_global t.design t.rules deepest (top_cell t) in
      let fails : (test name && has_name t.design.globals name) ≡ false = sym (has_name_filter test t.design.globals name) ∙ any_placed (bytes_eq name) (filter test t.design.globals) ∙ ap is_some e in
      let misses : test name ≡ false = only (test name) (has_name t.design.globals name) (at_among t.design.globals j name here) fails in
      subst (λ (ms : List Bool). At (global_nets_from (first_global t) ms) j (net_id 0)) (sym marks_are) (unplaced test t.design.globals (first_global t) j name here misses) where
        only : (a b : Bool) → b ≡ true → (a && b) ≡ false → a ≡ false
        only false b e f = refl
        only true b e f = absurd (let wrong : true ≡ false = sym e ∙ f in cc)
