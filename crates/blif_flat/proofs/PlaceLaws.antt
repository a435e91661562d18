-- Models at their places, and what is unrolled.
use Rattle.std.proofs.Common.{◌≡◌, ◌<◌, ◌≤◌, ◌+◌, ◌++◌, ◌∷◌, [], ℕ, zero, suc, not, List, map, flat_map, filter, length, get_or, take, drop, Some, None, Bool, refl, ap, ap₂, sym, ◌∙◌, subst, arith, add-one, append-nil, append_assoc, length-append}
use Rattle.std.proofs.lemmas.Grind.{flat_map-append}
use Rattle.std.proofs.lemmas.List.Elements.{filter-append, filter_agree}
use Rattle.std.specs.Prelude.{bytes_eq, decimal, position, slice_get, unwrap_or, option_map}
use Rattle.std.proofs.lemmas.List.{drop_all, drop_more, length-map, map-append}
use Rattle.std.proofs.lemmas.List.Sums.{sum_by-cons}
use Rattle.std.proofs.lemmas.Option.{get_or_from_slice_get}
use Rattle.vrt_model.proofs.Lists.{take_one}
use Rattle.vrt_model.specs.Lists.{has_name, path_name, place_of}
use Rattle.names.specs.Names.{with_names}
use Rattle.names.proofs.NameLaws.{names_once, once_has_same, with_names-append}
use Rattle.vrt_model.specs.FlatBlif.{ModelPlace, all_models, unrolled_of, flat_cover, flat_latch, flat_signals_at, formals, inner_count, inner_signals, model_at, model_numbered, models_in, signal_at, signals_of, sub_signals, subs_at, subs_from, top_model}
use Rattle.vrt_model.specs.Models.{bad_sub}
use Rattle.vrt_model.specs.Unrolled.{deepest}
use Rattle.vrt_model.specs.declared.blif.Blif.{Blif}
use Rattle.vrt_model.specs.declared.blif.BlifModel.{BlifModel}
use Rattle.vrt_model.specs.declared.blif.CoverLine.{CoverLine}
use Rattle.vrt_model.specs.declared.blif.LatchKind.TheVariants.{Re}
use Rattle.vrt_model.specs.declared.blif.LatchLine.{LatchLine}
use Rattle.vrt_model.specs.declared.blif.SubLine.{SubLine}
use Rattle.vrt_model.specs.declared.blif.Tie.{Tie}
use Rattle.vrt_model.specs.declared.flat_model.Cover.{Cover}
use Rattle.vrt_model.specs.declared.flat_model.DontCare.{DontCare}
use Rattle.vrt_model.specs.declared.flat_model.FlatLatch.{FlatLatch}
use Rattle.vrt_model.specs.declared.flat_model.FlatModel.{FlatModel}
use Rattle.blif_flat.specs.Counts.{Fits}
use Rattle.blif_flat.specs.Places.{HasOwn, IsInterface, IsPlace, IsUnderway, covers_at, latches_at, left_over, number_in, place_in, placed, places_of, signals_left, size_of, with_places}
use Rattle.blif_checks.specs.Tables.{AreTables}
use Rattle.blif_flat.specs.declared.flat.Interface.{Interface}
use Rattle.blif_flat.specs.declared.places.Place.{Place}
use Rattle.blif_checks.specs.declared.tables.Tables.{Tables}
use Rattle.blif_flat.specs.declared.unroll.Parts.{Parts}
use Rattle.blif_flat.proofs.CountLaws.{all_fit, signals_at, signals_in}
use Rattle.blif_checks.proofs.NameLaws.{place_is}
use Rattle.names.proofs.ApartLaws.{all_named, kept_apart}
use Rattle.blif_flat.proofs.OnceLaws.{formals_apart, signals_apart}

-- ---- lists

-- the names that pass, and one more
pub named_more : (p : List ℕ → Bool) (xs : List (List ℕ)) (i : ℕ) (x : List ℕ) (names new : List (List ℕ)) → i < length xs → slice_get xs i ≡ Some x
    → names ≡ with_names [] (filter p (take i xs)) → new ≡ with_names names (filter p (x ∷ [])) → new ≡ with_names [] (filter p (take (i + 1) xs))
named_more p xs i x names new lt here e n =
    n ∙ ap (λ ns. with_names ns (filter p (x ∷ []))) e ∙ sym (with_names-append [] (filter p (take i xs)) (filter p (x ∷ [])))
    ∙ ap (with_names []) (sym (filter-append p (take i xs) (x ∷ [])) ∙ ap (filter p) (sym (take_one xs i x here)))

-- the numbers of those that pass, and one more
pub passed_more : (f : List ℕ → ℕ) (p : List ℕ → Bool) (xs : List (List ℕ)) (i : ℕ) (x : List ℕ) (numbers new : List ℕ) → i < length xs → slice_get xs i ≡ Some x
    → numbers ≡ map f (filter p (take i xs)) → new ≡ numbers ++ map f (filter p (x ∷ [])) → new ≡ map f (filter p (take (i + 1) xs))
passed_more f p xs i x numbers new lt here e n =
    n ∙ ap (λ ns. ns ++ map f (filter p (x ∷ []))) e ∙ sym (map-append f (filter p (take i xs)) (filter p (x ∷ [])))
    ∙ ap (map f) (sym (filter-append p (take i xs) (x ∷ [])) ∙ ap (filter p) (sym (take_one xs i x here)))

-- those that are not among names, where each name stands once in a table of them
pub clocks_are : (f : List ℕ → ℕ) (names inputs clocks given : List (List ℕ)) (numbers : List ℕ) → names ≡ with_names [] inputs → given ≡ clocks
    → numbers ≡ map f (filter (λ name. not (has_name names name)) given) → numbers ≡ map f (filter (λ name. not (has_name inputs name)) clocks)
clocks_are f names inputs clocks given numbers n g e =
    e ∙ ap₂ (λ ns xs. map f (filter (λ name. not (has_name ns name)) xs)) (n ∙ names_once inputs) g
    ∙ ap (map f) (filter_agree (λ name. not (has_name _ name)) (λ name. not (has_name inputs name)) (λ name. ap not (once_has_same inputs name)) clocks)

-- ---- places

-- the own signals of a place
pub own_is : (blif : Blif) (signals : List (List (List ℕ))) (m : ℕ) (tied inner : List (List ℕ)) → signals ≡ map signals_of blif.models
    → inner ≡ with_names [] (filter (λ name. not (has_name tied name)) (get_or signals m [])) → inner ≡ inner_signals (model_at blif m) tied
own_is blif signals m tied inner lists e =
    e ∙ ap (λ (xs : List (List ℕ)). with_names [] (filter (λ name. not (has_name tied name)) xs)) (signals_at blif signals m lists)
    ∙ all_named (inner_signals (model_at blif m) tied) (kept_apart (λ name. not (has_name tied name)) (signals_of (model_at blif m)) (signals_apart (model_at blif m)))

-- a name is the signal that the definition says
pub signal_is : (blif : Blif) (p : Place) → IsPlace blif p → number_in p ≡ signal_at blif (place_in p)
signal_is blif p is =
    ap {B = List ℕ → ℕ} (λ (inner : List (List ℕ)) (name : List ℕ). unwrap_or (option_map (λ (k : ℕ). unwrap_or (slice_get p.ties k) 0) (place_of p.tied name)) (p.base + unwrap_or (place_of inner name) 0)) is

pub places_same : (m m' : ℕ) (path path' : List ℕ) (tied tied' : List (List ℕ)) (ties ties' : List ℕ) (base : ℕ) → m ≡ m' → path ≡ path' → tied ≡ tied' → ties ≡ ties'
    → (let one : ModelPlace = record { model = m; path = path; tied = tied; ties = ties; base = base } in one) ≡ (record { model = m'; path = path'; tied = tied'; ties = ties'; base = base })
places_same m m' path path' tied tied' ties ties' base a b c d =
    ap₂ (λ (x : ℕ) (y : List ℕ). let one : ModelPlace = record { model = x; path = y; tied = tied; ties = ties; base = base } in one) a b
    ∙ ap₂ (λ (x : List (List ℕ)) (y : List ℕ). let one : ModelPlace = record { model = m'; path = path'; tied = x; ties = y; base = base } in one) c d

map_twice : (f : List ℕ → ℕ) (ts : List Tie) → map (λ (t : Tie). f t.actual) ts ≡ map f (map (λ (t : Tie). t.actual) ts)
map_twice f [] = refl
map_twice f (t ∷ ts) = ap (λ (r : List ℕ). f t.actual ∷ r) (map_twice f ts)

-- a sub-model at its place
pub placed_is : (blif : Blif) (tables : Tables) (p : Place) (number base : ℕ) (s : SubLine) (m : ℕ) (path : List ℕ) (tied : List (List ℕ)) (ties : List ℕ) (given given' : List Tie) → AreTables blif tables → IsPlace blif p → Fits blif s
    → m ≡ unwrap_or (position (bytes_eq s.model) tables.names) 0 → path ≡ path_name p.path (decimal number) → given ≡ s.ties → tied ≡ with_names [] (map (λ (t : Tie). t.formal) given)
    → given' ≡ s.ties → ties ≡ map (λ (t : Tie). number_in p t.actual) given'
    → (let one : ModelPlace = record { model = m; path = path; tied = tied; ties = ties; base = base } in one) ≡ placed blif (place_in p) number base s
placed_is blif tables p number base s m path tied ties given given' are is fits em ep g et g' es =
    places_same m (model_numbered blif s.model) path (path_name p.path (decimal number)) tied (formals s) ties (map (signal_at blif (place_in p)) (sub_signals s)) base
    (em ∙ ap (λ o. unwrap_or o 0) (place_is blif tables s.model are)) ep
    (et ∙ ap (λ ts. with_names [] (map (λ (t : Tie). t.formal) ts)) g ∙ all_named (formals s) (formals_apart _ [] (formals s) fits.formals))
    (es ∙ ap (map (λ (t : Tie). number_in p t.actual)) g' ∙ map_twice (number_in p) s.ties ∙ ap (λ (f : List ℕ → ℕ). map f (sub_signals s)) (signal_is blif p is))

-- ---- parts

parts_same : (a a' : List (List ℕ)) (b b' : List Cover) (c c' : List FlatLatch) → a ≡ a' → b ≡ b' → c ≡ c'
    → (let one : Parts = record { signals = a; covers = b; latches = c } in one) ≡ (record { signals = a'; covers = b'; latches = c' })
parts_same a a' b b' c c' x y z =
    ap₂ (λ (s : List (List ℕ)) (k : List Cover). let one : Parts = record { signals = s; covers = k; latches = c } in one) x y
    ∙ ap (λ (l : List FlatLatch). let one : Parts = record { signals = a'; covers = b'; latches = l } in one) z

pub with_none : (blif : Blif) (parts : Parts) → with_places blif [] parts ≡ parts
with_none blif parts =
    parts_same (parts.signals ++ []) parts.signals (parts.covers ++ []) parts.covers (parts.latches ++ []) parts.latches (append-nil parts.signals) (append-nil parts.covers) (append-nil parts.latches)

joined : {Y : Type 0} (f : ModelPlace → List Y) (old : List Y) (a b : List ModelPlace) → old ++ flat_map f (a ++ b) ≡ (old ++ flat_map f a) ++ flat_map f b
joined {Y} f old a b = ap (λ (r : List Y). old ++ r) (flat_map-append f a b) ∙ sym (append_assoc old (flat_map f a) (flat_map f b))

pub with_more : (blif : Blif) (a b : List ModelPlace) (parts : Parts) → with_places blif (a ++ b) parts ≡ with_places blif b (with_places blif a parts)
with_more blif a b parts =
    parts_same _ _ _ _ _ _ (joined (flat_signals_at blif) parts.signals a b) (joined (covers_at blif) parts.covers a b) (joined (latches_at blif) parts.latches a b)

-- a place's own parts are those of the definition
pub with_own : (blif : Blif) (p : Place) (m : BlifModel) (old new : Parts) → IsPlace blif p → m ≡ model_at blif p.model → HasOwn p m old new → new ≡ with_places blif (place_in p ∷ []) old
with_own blif p m old new is there own =
    let same = signal_is blif p is in
    parts_same new.signals _ new.covers _ new.latches _
    (own.signals ∙ ap (λ (xs : List (List ℕ)). old.signals ++ map (path_name p.path) xs) is ∙ ap (λ (r : List (List ℕ)). old.signals ++ r) (sym (append-nil _)))
    (own.covers
    ∙ ap₂ (λ (f : List ℕ → ℕ) (x : BlifModel). old.covers ++ map (λ (c : CoverLine). let one : Cover = record { inputs = map f c.inputs; output = f c.output; on = c.on; rows = c.rows } in one) x.covers) same there
    ∙ ap (λ (r : List Cover). old.covers ++ r) (sym (append-nil _)))
    (own.latches
    ∙ ap₂ (λ (f : List ℕ → ℕ) (x : BlifModel). old.latches ++ map (λ (l : LatchLine). let one : FlatLatch = record { input = f l.input; output = f l.output; kind = unwrap_or l.kind Re; control = option_map f l.control } in one) x.latches) same there
    ∙ ap (λ (r : List FlatLatch). old.latches ++ r) (sym (append-nil _)))

abbrev empty_model : BlifModel
empty_model = record { line = 0; name = []; inputs = []; input_lines = []; clocks = []; clock_lines = []; outputs = []; output_lines = []; covers = []; latches = []; subs = []; exdc = [] }

alone : (blif : Blif) (depth : ℕ) (at : ModelPlace) → model_at blif at.model ≡ empty_model → models_in blif depth at ≡ at ∷ []
alone blif zero at e = refl
alone blif (suc depth) at e =
    ap (λ (m : BlifModel). at ∷ flat_map (models_in blif depth) (subs_from blif at depth 0 (at.base + length (inner_signals m at.tied)) m.subs)) e

-- where there is no model, nothing is unrolled
pub no_model : (blif : Blif) (depth : ℕ) (at : ModelPlace) (parts : Parts) → slice_get blif.models at.model ≡ None → parts ≡ with_places blif (models_in blif depth at) parts
unfolding signals_of
no_model blif depth at parts none =
    let empty : model_at blif at.model ≡ empty_model = ap (λ o. unwrap_or o empty_model) none in
    sym (ap (λ places. with_places blif places parts) (alone blif depth at empty)
    ∙ ap (λ (m : BlifModel). let one : Parts = record {
      signals = parts.signals ++ (map (path_name at.path) (inner_signals m at.tied) ++ []);
      covers = parts.covers ++ (map (flat_cover blif at) m.covers ++ []);
      latches = parts.latches ++ (map (flat_latch blif at) m.latches ++ []);
    } in one) empty
    ∙ with_none blif parts)

-- ---- turns

-- before the first sub-model
pub first_turn : (blif : Blif) (p : Place) (depth : ℕ) (m : BlifModel) (subs : List SubLine) (old parts : Parts) → IsPlace blif p → m ≡ model_at blif p.model → subs ≡ m.subs → HasOwn p m old parts
    → p.base ≡ length old.signals → length old.signals + inner_count blif (suc depth) (model_at blif p.model) p.tied ≤ 20000
    → IsUnderway blif (place_in p) depth 0 (drop 0 subs) parts (with_places blif (models_in blif (suc depth) (place_in p)) old)
first_turn blif p depth m subs old parts is there given own base room =
    let at : ModelPlace = place_in p in
    let size : length parts.signals ≡ p.base + length (inner_signals (model_at blif p.model) p.tied) =
    ap length own.signals ∙ length-append old.signals (map (path_name p.path) p.inner)
    ∙ ap₂ ◌+◌ (sym base) (length-map p.inner (path_name p.path) ∙ ap length is) in
    let listed : drop 0 subs ≡ (model_at blif p.model).subs = given ∙ ap (λ (x : BlifModel). x.subs) there in
    record {
      whole =
          ap₂ (λ (n : ℕ) (ss : List SubLine). with_places blif (left_over blif at depth 0 n ss) parts) size listed
          ∙ ap (with_places blif (flat_map (models_in blif depth) (subs_at blif depth at))) (with_own blif p m old parts is there own)
          ∙ sym (with_more blif (at ∷ []) (flat_map (models_in blif depth) (subs_at blif depth at)) old);
      room =
          let left : signals_left blif depth (drop 0 subs) ≡ signals_left blif depth (model_at blif p.model).subs = ap (signals_left blif depth) listed in
          omega (arith, size, base, room, left);
    }

-- a sub-model more
pub one_turn : (blif : Blif) (at : ModelPlace) (depth number : ℕ) (s : SubLine) (rest : List SubLine) (parts new end : Parts) → IsUnderway blif at depth number (s ∷ rest) parts end
    → new ≡ with_places blif (models_in blif depth (placed blif at number (length parts.signals) s)) parts → IsUnderway blif at depth (number + 1) rest new end
one_turn blif at depth number s rest parts new end before e =
    let p : ModelPlace = placed blif at number (length parts.signals) s in
    let more : ℕ = inner_count blif depth (model_at blif (model_numbered blif s.model)) (formals s) in
    let size : length new.signals ≡ length parts.signals + more =
    ap (λ (q : Parts). length q.signals) e ∙ length-append parts.signals (flat_map (flat_signals_at blif) (models_in blif depth p)) ∙ ap (λ n. length parts.signals + n) (signals_in blif depth p) in
    record {
      whole =
          ap₂ (λ (k n : ℕ). with_places blif (left_over blif at depth k n rest) new) (add-one number) size
          ∙ ap (with_places blif (left_over blif at depth (suc number) (length parts.signals + more) rest)) e
          ∙ sym (with_more blif (models_in blif depth p) (left_over blif at depth (suc number) (length parts.signals + more) rest) parts) ∙ before.whole;
      room =
          let sum = sum_by-cons (λ (s : SubLine). inner_count blif depth (model_at blif (model_numbered blif s.model)) (formals s)) s rest in
          omega (arith, size, sum, before.room);
    }

-- behind the last
pub last_turn : (blif : Blif) (at : ModelPlace) (depth number : ℕ) (parts end : Parts) → IsUnderway blif at depth number [] parts end → parts ≡ end
last_turn blif at depth number parts end before = sym (with_none blif parts) ∙ before.whole

-- ---- turns of a loop over sub-models

pub fits_at : (blif : Blif) (m : ℕ) (model : BlifModel) (subs : List SubLine) (i : ℕ) (s : SubLine) → bad_sub blif ≡ None → model ≡ model_at blif m → subs ≡ model.subs → slice_get subs i ≡ Some s → Fits blif s
fits_at blif m model subs i s none there given here =
    all_fit blif none m i s (sym (ap (λ ss. slice_get ss i) (given ∙ ap (λ (x : BlifModel). x.subs) there)) ∙ here)

next_of : (subs : List SubLine) (i : ℕ) (s : SubLine) → i < length subs → slice_get subs i ≡ Some s → drop i subs ≡ s ∷ drop (i + 1) subs
next_of subs i s lt here = drop_more subs i s lt ∙ ap (λ y. y ∷ drop (i + 1) subs) (get_or_from_slice_get subs i s s here)

pub turn_at : (blif : Blif) (at inner : ModelPlace) (depth number base : ℕ) (subs : List SubLine) (s : SubLine) (parts new end : Parts) → number < length subs → slice_get subs number ≡ Some s
    → IsUnderway blif at depth number (drop number subs) parts end → base ≡ length parts.signals → inner ≡ placed blif at number base s → new ≡ with_places blif (models_in blif depth inner) parts
    → IsUnderway blif at depth (number + 1) (drop (number + 1) subs) new end
turn_at blif at inner depth number base subs s parts new end lt here before b i e =
    one_turn blif at depth number s (drop (number + 1) subs) parts new end (subst (λ (ss : List SubLine). IsUnderway blif at depth number ss parts end) (next_of subs number s lt here) before)
    (e ∙ ap (λ (p : ModelPlace). with_places blif (models_in blif depth p) parts) (i ∙ ap (λ n. placed blif at number n s) b))

-- there is room for the sub-model
pub room_at : (blif : Blif) (at inner : ModelPlace) (depth number base : ℕ) (subs : List SubLine) (s : SubLine) (parts end : Parts) → number < length subs → slice_get subs number ≡ Some s
    → IsUnderway blif at depth number (drop number subs) parts end → inner ≡ placed blif at number base s
    → length parts.signals + inner_count blif depth (model_at blif inner.model) inner.tied ≤ 20000
room_at blif at inner depth number base subs s parts end lt here before i =
    let one : inner_count blif depth (model_at blif inner.model) inner.tied ≡ inner_count blif depth (model_at blif (model_numbered blif s.model)) (formals s) =
    ap (λ (p : ModelPlace). inner_count blif depth (model_at blif p.model) p.tied) i in
    let sum : signals_left blif depth (drop number subs) ≡ inner_count blif depth (model_at blif (model_numbered blif s.model)) (formals s) + signals_left blif depth (drop (number + 1) subs) =
    ap (signals_left blif depth) (next_of subs number s lt here)
    ∙ sum_by-cons (λ (s : SubLine). inner_count blif depth (model_at blif (model_numbered blif s.model)) (formals s)) s (drop (number + 1) subs) in
    omega (arith, one, sum, before.room)

pub end_at : (blif : Blif) (at : ModelPlace) (depth below number : ℕ) (subs : List SubLine) (parts old : Parts) → length subs ≤ number → suc below ≡ depth
    → IsUnderway blif at below number (drop number subs) parts (with_places blif (models_in blif (suc below) at) old) → parts ≡ with_places blif (models_in blif depth at) old
end_at blif at depth below number subs parts old past e before =
    last_turn blif at below number parts _ (subst (λ (ss : List SubLine). IsUnderway blif at below number ss parts (with_places blif (models_in blif (suc below) at) old)) (drop_all number subs past) before)
    ∙ ap (λ d. with_places blif (models_in blif d at) old) e

-- a place has room for its own signals
pub own_room : (blif : Blif) (depth base : ℕ) (m : ℕ) (tied inner : List (List ℕ)) → inner ≡ inner_signals (model_at blif m) tied → base + inner_count blif depth (model_at blif m) tied ≤ 20000 → base + length inner ≤ 20000
own_room blif zero base m tied inner is room = let same = ap length is in omega (arith, same, room)
own_room blif (suc depth) base m tied inner is room = let same = ap length is in omega (arith, same, room)

-- ---- the unrolled model

pub place_room : (blif : Blif) (depth : ℕ) (p : Place) → IsPlace blif p → p.base + size_of blif depth (place_in p) ≤ 20000 → p.base + length p.inner ≤ 20000
unfolding size_of
place_room blif depth p is room = own_room blif depth p.base p.model p.tied p.inner is room

pub top_size : (blif : Blif) (m n : ℕ) (at : ModelPlace) → at ≡ top_model m → length (unrolled_of blif m).signals ≤ 20000 → n ≡ 0 → n + size_of blif deepest at ≤ 20000
unfolding size_of unrolled_of all_models
top_size blif m n at is limit none =
    let count = signals_in blif deepest (top_model m) in
    let same = ap (λ (p : ModelPlace). inner_count blif deepest (model_at blif p.model) p.tied) is in
    omega (arith, count, same, limit, none)

flat_same : (a a' : List (List ℕ)) (i i' c c' o o' : List ℕ) (b b' : List Cover) (l l' : List FlatLatch) → a ≡ a' → i ≡ i' → c ≡ c' → o ≡ o' → b ≡ b' → l ≡ l'
    → (let one : FlatModel = record { signals = a; inputs = i; clocks = c; outputs = o; covers = b; latches = l; dontcares = [] } in one) ≡ (record { signals = a'; inputs = i'; clocks = c'; outputs = o'; covers = b'; latches = l'; dontcares = [] })
flat_same a a' i i' c c' o o' b b' l l' ea ei ec eo eb el =
    ap₂ (λ (x : List (List ℕ)) (y : List ℕ). let one : FlatModel = record { signals = x; inputs = y; clocks = c; outputs = o; covers = b; latches = l; dontcares = [] } in one) ea ei
    ∙ ap₂ (λ (x y : List ℕ). let one : FlatModel = record { signals = a'; inputs = i'; clocks = x; outputs = y; covers = b; latches = l; dontcares = [] } in one) ec eo
    ∙ ap₂ (λ (x : List Cover) (y : List FlatLatch). let one : FlatModel = record { signals = a'; inputs = i'; clocks = c'; outputs = o'; covers = x; latches = y; dontcares = [] } in one) eb el

-- the parts of all places, with the interface of the top, are the flat model
pub flat_is : (blif : Blif) (m : ℕ) (p : Place) (parts none : Parts) (interface : Interface) (dontcares : List DontCare) → IsPlace blif p → place_in p ≡ top_model m
    → none.signals ≡ [] → none.covers ≡ [] → none.latches ≡ [] → dontcares ≡ [] → parts ≡ with_places blif (places_of blif deepest (place_in p)) none → IsInterface p (model_at blif p.model) interface
    → (let one : FlatModel = record { signals = parts.signals; inputs = interface.inputs; clocks = interface.clocks; outputs = interface.outputs; covers = parts.covers; latches = parts.latches; dontcares = dontcares } in one) ≡ unrolled_of blif m
unfolding unrolled_of all_models places_of
flat_is blif m p parts none interface dontcares is top ns nc nl nd e face =
    let number : number_in p ≡ signal_at blif (top_model m) = signal_is blif p is ∙ ap (signal_at blif) top in
    let model : model_at blif p.model ≡ model_at blif m = ap (λ (at : ModelPlace). model_at blif at.model) top in
    let places : parts ≡ with_places blif (models_in blif deepest (top_model m)) none = e ∙ ap (λ (at : ModelPlace). with_places blif (models_in blif deepest at) none) top in
    ap (λ (ds : List DontCare). let one : FlatModel = record { signals = parts.signals; inputs = interface.inputs; clocks = interface.clocks; outputs = interface.outputs; covers = parts.covers; latches = parts.latches; dontcares = ds } in one) nd
    ∙ flat_same parts.signals _ interface.inputs _ interface.clocks _ interface.outputs _ parts.covers _ parts.latches _
    (ap (λ (q : Parts). q.signals) places ∙ ap (λ (xs : List (List ℕ)). xs ++ flat_map (flat_signals_at blif) (models_in blif deepest (top_model m))) ns)
    (face.inputs ∙ ap₂ (λ (f : List ℕ → ℕ) (x : BlifModel). map f x.inputs) number model)
    (face.clocks ∙ ap₂ (λ (f : List ℕ → ℕ) (x : BlifModel). map f (filter (λ name. not (has_name x.inputs name)) x.clocks)) number model)
    (face.outputs ∙ ap₂ (λ (f : List ℕ → ℕ) (x : BlifModel). map f x.outputs) number model)
    (ap (λ (q : Parts). q.covers) places ∙ ap (λ (xs : List Cover). xs ++ flat_map (covers_at blif) (models_in blif deepest (top_model m))) nc)
    (ap (λ (q : Parts). q.latches) places ∙ ap (λ (xs : List FlatLatch). xs ++ flat_map (latches_at blif) (models_in blif deepest (top_model m))) nl)
