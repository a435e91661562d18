-- How much stands in models, by tables and by the unrolled model.
use Rattle.std.proofs.Common.{◌≡◌, ◌+◌, ◌-◌, ◌++◌, ◌∷◌, [], ℕ, zero, suc, not, List, map, flat_map, length, get_or, Some, None, Bool, true, false, refl, ap, ap₂, sym, ◌∙◌, arith, add-one, cond}
use Rattle.std.specs.Prelude.{bytes_eq, find, position, slice_get, unwrap_or, is_none}
use Rattle.std.specs.List.{sum_by}
use Rattle.std.proofs.lemmas.Bool.{or_parts}
use Rattle.std.proofs.lemmas.List.{length-map}
use Rattle.std.proofs.lemmas.List.Concat.{length-flat_map}
use Rattle.std.proofs.lemmas.List.Sums.{sum_by-cons}
use Rattle.vrt_model.proofs.Tests.{is_none_is, neither}
use Rattle.vrt_model.specs.FlatBlif.{ModelPlace, all_models, flat_cover, unrolled_of, flat_signals_at, formals, inner_count, inner_signals, model_at, model_numbered, models_in, signals_of, subs_at, subs_from, top_model}
use Rattle.vrt_model.specs.Lists.{At, path_name}
use Rattle.vrt_model.specs.Models.{bad_formal, bad_sub, interface_of, is_bad_sub, is_model}
use Rattle.vrt_model.specs.Unrolled.{deepest}
use Rattle.vrt_model.specs.Unsupported.{carried}
use Rattle.vrt_model.specs.declared.blif.Blif.{Blif}
use Rattle.vrt_model.specs.declared.blif.BlifModel.{BlifModel}
use Rattle.vrt_model.specs.declared.blif.CoverLine.{CoverLine}
use Rattle.vrt_model.specs.declared.blif.SubLine.{SubLine}
use Rattle.vrt_model.specs.declared.blif.Tie.{Tie}
use Rattle.vrt_model.specs.declared.flat_model.Cover.{Cover}
use Rattle.blif_flat.specs.Counts.{AllFit, AreCounts, AreSums, Fits, below, inside_in, own, rows_in, sub_inside, sum_over, weight, within}
use Rattle.blif_flat.specs.Places.{placed}
use Rattle.blif_checks.specs.Tables.{AreTables}
use Rattle.blif_flat.specs.declared.counts.Counted.{Counted}
use Rattle.blif_flat.specs.declared.counts.Counted.TheVariants.{Signals, Rows, Subs}
use Rattle.blif_flat.specs.declared.counts.Counts.{Counts}
use Rattle.blif_flat.specs.declared.counts.Inside.{Inside}
use Rattle.blif_checks.specs.declared.tables.Tables.{Tables}
use Rattle.blif_checks.proofs.NameLaws.{place_is}
use Rattle.blif_flat.proofs.OnceLaws.{interface_among, left_untied, signals_apart}
use Rattle.names.proofs.FilterLaws.{filter_new}
use Rattle.vrt_model.proofs.Sums.{carried_both, carried_once, sum_flat, sum_same}

-- ---- lists

pub sum_map : {X Y : Type 0} (f : X → Y) (g : Y → ℕ) (xs : List X) → sum_by g (map f xs) ≡ sum_by (λ x. g (f x)) xs
sum_map f g [] = refl
sum_map f g (x ∷ xs) = sum_by-cons g (f x) (map f xs) ∙ ap (λ n. g (f x) + n) (sum_map f g xs) ∙ sym (sum_by-cons (λ x. g (f x)) x xs)

-- ---- counts up to the greatest number

carried_sums : {X Y : Type 0} (f : X → ℕ) (g : Y → ℕ) (h : Y → X) (ys : List Y) → ((i : ℕ) (y : Y) → At ys i y → carried (f (h y)) ≡ carried (g y)) → carried (sum_by f (map h ys)) ≡ carried (sum_by g ys)
carried_sums f g h [] same = refl
carried_sums f g h (y ∷ ys) same =
    ap carried (sum_by-cons f (h y) (map h ys))
    ∙ carried_both (f (h y)) (sum_by f (map h ys)) (g y) (sum_by g ys) (same 0 y refl) (carried_sums f g h ys (λ i z e. same (suc i) z e))
    ∙ ap carried (sym (sum_by-cons g y ys))

-- ---- rounds

same_map : {X : Type 0} (xs : List X) → map (λ (x : X). x) xs ≡ xs
same_map [] = refl
same_map (x ∷ xs) = ap (λ rest. x ∷ rest) (same_map xs)

sum_next : (all : List (List Inside)) (kind : Counted) (depth : ℕ) (sums : List ℕ) → AreSums all kind depth sums
    → (insides : List Inside) → sum_over kind sums insides ≡ carried (sum_by (λ (i : Inside). weight kind i + below all kind depth i.model) insides)
sum_next all kind depth sums are insides =
    ap (λ is. carried (sum_by (λ (i : Inside). weight kind i + get_or sums i.model 0) is)) (sym (same_map insides))
    ∙ carried_sums (λ (i : Inside). weight kind i + get_or sums i.model 0) (λ (i : Inside). weight kind i + below all kind depth i.model) (λ (i : Inside). i) insides
    (λ k i e. carried_both (weight kind i) (get_or sums i.model 0) (weight kind i) (below all kind depth i.model) refl (ap carried (are i.model) ∙ carried_once (below all kind depth i.model)))

at_each : (f : List Inside → ℕ) → f [] ≡ 0 → (all : List (List Inside)) (m : ℕ) → get_or (map f all) m 0 ≡ f (get_or all m [])
at_each f none [] m = sym none
at_each f none (x ∷ all) zero = refl
at_each f none (x ∷ all) (suc m) = at_each f none all m

pub sums_next : (all given : List (List Inside)) (kind : Counted) (depth : ℕ) (sums known next : List ℕ) → given ≡ all → known ≡ sums → AreSums all kind depth sums
    → next ≡ map (sum_over kind known) given → AreSums all kind (depth + 1) next
sums_next all given kind depth sums known next g k are e m =
    ap (λ ns. get_or ns m 0) (e ∙ ap₂ (λ ns xs. map (sum_over kind ns) xs) k g)
    ∙ at_each (sum_over kind sums) refl all m
    ∙ sum_next all kind depth sums are (get_or all m [])
    ∙ ap (λ d. carried (below all kind d m)) (sym (add-one depth))

-- ---- the places of an unrolled model

abbrev pub own_at : Blif → Counted → ModelPlace → ℕ
own_at blif kind at = own blif kind at.model at.tied

in_subs : (blif : Blif) (kind : Counted) (depth : ℕ) (at : ModelPlace)
    → ((p : ModelPlace) → sum_by (own_at blif kind) (models_in blif depth p) ≡ own blif kind p.model p.tied + within blif kind depth p.model)
    → (number base : ℕ) (subs : List SubLine)
    → sum_by (λ (p : ModelPlace). sum_by (own_at blif kind) (models_in blif depth p)) (subs_from blif at depth number base subs)
    ≡ sum_by (λ (s : SubLine). own blif kind (model_numbered blif s.model) (formals s) + within blif kind depth (model_numbered blif s.model)) subs
in_subs blif kind depth at inner number base [] = refl
in_subs blif kind depth at inner number base (s ∷ subs) =
    sum_by-cons (λ (p : ModelPlace). sum_by (own_at blif kind) (models_in blif depth p)) (placed blif at number base s)
    (subs_from blif at depth (suc number) (base + inner_count blif depth (model_at blif (model_numbered blif s.model)) (formals s)) subs)
    ∙ ap₂ ◌+◌ (inner (placed blif at number base s)) (in_subs blif kind depth at inner (suc number) (base + inner_count blif depth (model_at blif (model_numbered blif s.model)) (formals s)) subs)
    ∙ sym (sum_by-cons (λ (s : SubLine). own blif kind (model_numbered blif s.model) (formals s) + within blif kind depth (model_numbered blif s.model)) s subs)

-- a count over all places is that of the model and of those in it
pub in_places : (blif : Blif) (kind : Counted) (depth : ℕ) (at : ModelPlace)
    → sum_by (own_at blif kind) (models_in blif depth at) ≡ own blif kind at.model at.tied + within blif kind depth at.model
in_places blif kind zero at = sum_by-cons (own_at blif kind) at []
in_places blif kind (suc depth) at =
    sum_by-cons (own_at blif kind) at (flat_map (models_in blif depth) (subs_at blif depth at))
    ∙ ap (λ n. own blif kind at.model at.tied + n)
    (sum_flat (models_in blif depth) (own_at blif kind) (subs_at blif depth at)
    ∙ in_subs blif kind depth at (λ p. in_places blif kind depth p) 0 (at.base + length (inner_signals (model_at blif at.model) at.tied)) (model_at blif at.model).subs)

pub inner_is : (blif : Blif) (depth m : ℕ) (tied : List (List ℕ)) → inner_count blif depth (model_at blif m) tied ≡ own blif Signals m tied + within blif Signals depth m
inner_is blif zero m tied = omega arith
inner_is blif (suc depth) m tied =
    ap (λ n. length (inner_signals (model_at blif m) tied) + n)
    (sum_same (λ (s : SubLine). inner_count blif depth (model_at blif (model_numbered blif s.model)) (formals s))
    (λ (s : SubLine). own blif Signals (model_numbered blif s.model) (formals s) + within blif Signals depth (model_numbered blif s.model))
    (λ s. inner_is blif depth (model_numbered blif s.model) (formals s)) (model_at blif m).subs)

-- how many signals stand in all places
pub signals_in : (blif : Blif) (depth : ℕ) (at : ModelPlace)
    → length (flat_map (flat_signals_at blif) (models_in blif depth at)) ≡ inner_count blif depth (model_at blif at.model) at.tied
signals_in blif depth at =
    length-flat_map (flat_signals_at blif) (models_in blif depth at)
    ∙ sum_same (λ p. length (flat_signals_at blif p)) (own_at blif Signals) (λ p. length-map (inner_signals (model_at blif p.model) p.tied) (path_name p.path)) (models_in blif depth at)
    ∙ in_places blif Signals depth at ∙ sym (inner_is blif depth at.model at.tied)

rows_at : (blif : Blif) (at : ModelPlace) (covers : List CoverLine)
    → sum_by (λ (c : Cover). length c.rows) (map (flat_cover blif at) covers) ≡ sum_by (λ (c : CoverLine). length c.rows) covers
rows_at blif at covers = sum_map (flat_cover blif at) (λ (c : Cover). length c.rows) covers

count_places : (blif : Blif) (places : List ModelPlace) → length places ≡ sum_by (own_at blif Subs) places
count_places blif [] = refl
count_places blif (p ∷ places) = let rest = count_places blif places in let more = sum_by-cons (own_at blif Subs) p places in omega (arith, rest, more)

-- ---- tables of sub-models

not_found : {X : Type 0} (p : X → Bool) (x : X) (xs : List X) → find p (x ∷ xs) ≡ None → (p x ≡ false) × (find p xs ≡ None)
not_found {X} p x xs e = by_test (p x) refl e where
  by_test : (b : Bool) → p x ≡ b → cond b (Some x) (find p xs) ≡ None → (p x ≡ false) × (find p xs ≡ None)
  by_test true h e = cc
  by_test false h e = (h, e)

pub none_in : {X : Type 0} (p : X → Bool) (xs ys : List X) → find p (xs ++ ys) ≡ None → (i : ℕ) (x : X) → At xs i x → p x ≡ false
none_in p [] ys e i x h = cc
none_in {X} p (y ∷ xs) ys e zero x h = let same : y ≡ x = cc in ap p (sym same) ∙ (not_found p y (xs ++ ys) e).0
none_in p (y ∷ xs) ys e (suc i) x h = none_in p xs ys (not_found p y (xs ++ ys) e).1 i x h

none_behind : {X : Type 0} (p : X → Bool) (xs ys : List X) → find p (xs ++ ys) ≡ None → find p ys ≡ None
none_behind p [] ys e = e
none_behind p (y ∷ xs) ys e = none_behind p xs ys (not_found p y (xs ++ ys) e).1

no_subs : (i : ℕ) (s : SubLine) → At [] i s → ⊥
no_subs i s e = cc

pub all_fit : (blif : Blif) → bad_sub blif ≡ None → AllFit blif
all_fit blif none m i s h = record { formals = (neither _ _ (is_none_is (bad_formal blif s) (or_parts (not (is_model blif s.model)) (not (is_none (bad_formal blif s))) (good blif.models none m h)).1)).0 } where
  good : (ms : List BlifModel) → find (is_bad_sub blif) (flat_map (λ (m : BlifModel). m.subs) ms) ≡ None → (m : ℕ)
      → At (unwrap_or (slice_get ms m) (record { line = 0; name = []; inputs = []; input_lines = []; clocks = []; clock_lines = []; outputs = []; output_lines = []; covers = []; latches = []; subs = []; exdc = [] })).subs i s
      → is_bad_sub blif s ≡ false
  good [] e m h = absurd (no_subs i s h)
  good (x ∷ ms) e zero h = none_in (is_bad_sub blif) x.subs (flat_map (λ (m : BlifModel). m.subs) ms) e i s h
  good (x ∷ ms) e (suc m) h = good ms (none_behind (is_bad_sub blif) x.subs (flat_map (λ (m : BlifModel). m.subs) ms) e) m h

-- ---- tables of models

at_each_model : {Y : Type 0} (f : BlifModel → Y) (none : Y) → f (record { line = 0; name = []; inputs = []; input_lines = []; clocks = []; clock_lines = []; outputs = []; output_lines = []; covers = []; latches = []; subs = []; exdc = [] }) ≡ none
    → (ms : List BlifModel) (m : ℕ)
    → get_or (map f ms) m none
    ≡ f (unwrap_or (slice_get ms m) (record { line = 0; name = []; inputs = []; input_lines = []; clocks = []; clock_lines = []; outputs = []; output_lines = []; covers = []; latches = []; subs = []; exdc = [] }))
at_each_model f none e [] m = sym e
at_each_model f none e (x ∷ ms) zero = refl
at_each_model f none e (x ∷ ms) (suc m) = at_each_model f none e ms m

-- the signals of the model at a place
pub signals_at : (blif : Blif) (signals : List (List (List ℕ))) (m : ℕ) → signals ≡ map signals_of blif.models → get_or signals m [] ≡ signals_of (model_at blif m)
unfolding signals_of
signals_at blif signals m e = ap (λ xs. get_or xs m []) e ∙ at_each_model signals_of [] refl blif.models m

rows_there : (blif : Blif) (rows : List ℕ) (m : ℕ) → rows ≡ map rows_in blif.models → get_or rows m 0 ≡ rows_in (model_at blif m)
rows_there blif rows m e = ap (λ xs. get_or xs m 0) e ∙ at_each_model rows_in 0 refl blif.models m

-- what the tables say of a sub-model is what it has of its own
pub record AreInsides (blif : Blif) (all : List (List Inside)) (names : List (List ℕ)) (signals : List (List (List ℕ))) (rows : List ℕ) : Type 0 where
  pub table : all ≡ map (inside_in names signals rows) blif.models
  pub lists : signals ≡ map signals_of blif.models
  pub sizes : rows ≡ map rows_in blif.models
  pub numbers : (name : List ℕ) → unwrap_or (position (bytes_eq name) names) 0 ≡ model_numbered blif name
  pub fit : AllFit blif

apart_of : (a b c : ℕ) → a + b ≡ c → c - b ≡ a
apart_of a b c e = omega (arith, e)

weight_is : (blif : Blif) (all : List (List Inside)) (names : List (List ℕ)) (signals : List (List (List ℕ))) (rows : List ℕ) → AreInsides blif all names signals rows → (kind : Counted) (s : SubLine) → Fits blif s
    → carried (weight kind (sub_inside names signals rows s)) ≡ carried (own blif kind (model_numbered blif s.model) (formals s))
weight_is blif all names signals rows are Signals s fits =
    let n = model_numbered blif s.model in
    let child = model_at blif n in
    let left = left_untied (interface_of child) [] (formals s) (signals_of child) (signals_apart child) (interface_among child) fits.formals in
    let ties : length (formals s) ≡ length s.ties = length-map s.ties (λ (t : Tie). t.formal) in
    ap (λ m. carried (length (get_or signals m []) - length s.ties)) (are.numbers s.model)
    ∙ ap (λ (xs : List (List ℕ)). carried (length xs - length s.ties)) (signals_at blif signals n are.lists)
    ∙ ap carried (ap (λ k. length (signals_of child) - k) (sym ties) ∙ apart_of _ (length (formals s)) (length (signals_of child)) left)
weight_is blif all names signals rows are Rows s fits =
    ap (λ m. carried (get_or rows m 0)) (are.numbers s.model) ∙ ap carried (rows_there blif rows (model_numbered blif s.model) are.sizes)
    ∙ carried_once (own blif Rows (model_numbered blif s.model) (formals s))
weight_is blif all names signals rows are Subs s fits = refl

-- what the tables say stands below a model is what stands in it
below_is : (blif : Blif) (all : List (List Inside)) (names : List (List ℕ)) (signals : List (List (List ℕ))) (rows : List ℕ) → AreInsides blif all names signals rows → (kind : Counted) (depth m : ℕ)
    → carried (below all kind depth m) ≡ carried (within blif kind depth m)
below_is blif all names signals rows are kind zero m = refl
below_is blif all names signals rows are kind (suc depth) m =
    ap (λ (is : List Inside). carried (sum_by (λ (i : Inside). weight kind i + below all kind depth i.model) is))
    (ap (λ xs. get_or xs m []) are.table ∙ at_each_model (inside_in names signals rows) [] refl blif.models m)
    ∙ carried_sums (λ (i : Inside). weight kind i + below all kind depth i.model)
    (λ (s : SubLine). own blif kind (model_numbered blif s.model) (formals s) + within blif kind depth (model_numbered blif s.model)) (sub_inside names signals rows) (model_at blif m).subs
    (λ i s h. carried_both _ _ _ _ (weight_is blif all names signals rows are kind s (are.fit m i s h))
    (ap (λ n. carried (below all kind depth n)) (are.numbers s.model) ∙ below_is blif all names signals rows are kind depth (model_numbered blif s.model)))

pub insides_are : (blif : Blif) (tables : Tables) (models : List BlifModel) (all : List (List Inside)) (signals : List (List (List ℕ))) (given rows : List ℕ) → AreTables blif tables → models ≡ blif.models
    → signals ≡ map signals_of blif.models → rows ≡ map rows_in models → given ≡ rows → bad_sub blif ≡ None → all ≡ map (inside_in tables.names signals given) models
    → AreInsides blif all tables.names signals given
insides_are blif tables models all signals given rows are same s r g none a = record {
  table = a ∙ ap (map (inside_in tables.names signals given)) same;
  lists = s;
  sizes = g ∙ r ∙ ap (map rows_in) same;
  numbers = λ name. ap (λ o. unwrap_or o 0) (place_is blif tables name are);
  fit = all_fit blif none;
}

-- ---- the counts of an unrolled model

top_signals : (blif : Blif) (depth m : ℕ)
    → length (flat_map (flat_signals_at blif) (models_in blif depth (top_model m))) ≡ length (signals_of (model_at blif m)) + within blif Signals depth m
top_signals blif depth m =
    signals_in blif depth (top_model m) ∙ inner_is blif depth m [] ∙ ap (λ (xs : List (List ℕ)). length xs + within blif Signals depth m) (filter_new (signals_of (model_at blif m)))

top_rows : (blif : Blif) (depth m : ℕ)
    → sum_by (λ (c : Cover). length c.rows) (flat_map (λ (at : ModelPlace). map (flat_cover blif at) (model_at blif at.model).covers) (models_in blif depth (top_model m)))
    ≡ own blif Rows m [] + within blif Rows depth m
top_rows blif depth m =
    sum_flat (λ (at : ModelPlace). map (flat_cover blif at) (model_at blif at.model).covers) (λ (c : Cover). length c.rows) (models_in blif depth (top_model m))
    ∙ sum_same (λ (at : ModelPlace). sum_by (λ (c : Cover). length c.rows) (map (flat_cover blif at) (model_at blif at.model).covers)) (own_at blif Rows)
    (λ at. rows_at blif at (model_at blif at.model).covers) (models_in blif depth (top_model m))
    ∙ in_places blif Rows depth (top_model m)

top_subs : (blif : Blif) (depth m : ℕ) → length (models_in blif depth (top_model m)) - 1 ≡ within blif Subs depth m
top_subs blif depth m =
    let all = count_places blif (models_in blif depth (top_model m)) in
    let both = in_places blif Subs depth (top_model m) in
    omega (arith, all, both)

pub counts_are : (blif : Blif) (m : ℕ) (counts : Counts) → counts.signals ≡ carried (length (signals_of (model_at blif m)) + carried (within blif Signals deepest m))
    → counts.rows ≡ carried (rows_in (model_at blif m) + carried (within blif Rows deepest m)) → counts.subs ≡ carried (within blif Subs deepest m)
    → AreCounts blif m counts
unfolding unrolled_of all_models
counts_are blif m counts s r b = record {
  signals = s ∙ carried_both _ _ (length (signals_of (model_at blif m))) (within blif Signals deepest m) refl (carried_once (within blif Signals deepest m)) ∙ ap carried (sym (top_signals blif deepest m));
  rows = r ∙ carried_both _ _ (own blif Rows m []) (within blif Rows deepest m) (carried_once (own blif Rows m [])) (carried_once (within blif Rows deepest m)) ∙ ap carried (sym (top_rows blif deepest m));
  subs = b ∙ ap carried (sym (top_subs blif deepest m));
}

pub counts_made : (blif : Blif) (m : ℕ) (all : List (List Inside)) (names : List (List ℕ)) (signals : List (List (List ℕ))) (rows given : List ℕ) (first second third : List (List Inside)) (counts : Counts) (some few : ℕ)
    → AreInsides blif all names signals rows → given ≡ rows → first ≡ all → second ≡ all → third ≡ all → some ≡ length (get_or signals m []) → few ≡ get_or given m 0
    → counts.signals ≡ carried (some + carried (below first Signals deepest m)) → counts.rows ≡ carried (few + carried (below second Rows deepest m)) → counts.subs ≡ carried (0 + carried (below third Subs deepest m))
    → AreCounts blif m counts
counts_made blif m all names signals rows given first second third counts some few are g a b c own_signals own_rows s r n =
    let sums : (kind : Counted) (table : List (List Inside)) → table ≡ all → carried (below table kind deepest m) ≡ carried (within blif kind deepest m) =
    λ kind table e. ap (λ t. carried (below t kind deepest m)) e ∙ below_is blif all names signals rows are kind deepest m in
    counts_are blif m counts (s ∙ ap₂ (λ x y. carried (x + y)) (own_signals ∙ ap length (signals_at blif signals m are.lists)) (sums Signals first a))
    (r ∙ ap₂ (λ x y. carried (x + y)) (own_rows ∙ ap (λ ns. get_or ns m 0) g ∙ rows_there blif rows m are.sizes) (sums Rows second b))
    (n ∙ zero_more (carried (below third Subs deepest m)) (carried_once (below third Subs deepest m)) ∙ sums Subs third c) where
      zero_more : (x : ℕ) → carried x ≡ x → carried (0 + x) ≡ x
      zero_more x e = omega (arith, e)
