-- Flat models but for their drivers: the numbers are those of signals, rows fit, and the limits hold.
use Rattle.std.proofs.Common.{◌≡◌, ◌<◌, ◌≤◌, ◌+◌, ◌++◌, ◌∷◌, ◌&&◌, [], ℕ, zero, suc, not, List, map, flat_map, filter, length, Option, Some, None, Bool, true, false, refl, ap, ap₂, sym, ◌∙◌, subst, arith}
use Rattle.std.specs.Prelude.{All, bytes_eq, is_some, option_map, option_to_list, slice_get, sum_by, unwrap_or, count_by, ◌==◌}
use Rattle.std.proofs.lemmas.List.{length-map}
use Rattle.std.proofs.lemmas.List.Elements.{All-head, All-tail}
use Rattle.std.proofs.lemmas.List.Quantifiers.{position-Some}
use Rattle.std.proofs.lemmas.List.Sums.{sum_by-cons}
use Rattle.std.proofs.lemmas.Option.{same_Some}
use Rattle.std.proofs.lemmas.Slice.Eq.{bytes_eq-Decides}
use Rattle.vrt_model.proofs.Lists.{at_there}
use Rattle.vrt_model.specs.Lists.{Among, At, has_name, place_of}
use Rattle.vrt_model.specs.FlatBlif.{ModelPlace, all_models, cover_signals, flat_cover, flat_latch, unrolled_of, formals, inner_count, inner_signals, latch_signals, model_at, model_numbered, models_in, flat_signals_at, signal_at, signals_of, sub_signals, subs_at, subs_from, top_model}
use Rattle.vrt_model.specs.FlatModels.{IsControl, IsCover, IsFlatModel, IsLatch, IsRow, drivers_of}
use Rattle.vrt_model.specs.Inputs.{IsBlif, IsCoverLine, IsModel}
use Rattle.vrt_model.specs.Unrolled.{deepest}
use Rattle.vrt_model.specs.Limits.{most_rows, most_signals}
use Rattle.vrt_model.specs.declared.blif.Blif.{Blif}
use Rattle.vrt_model.specs.declared.blif.BlifModel.{BlifModel}
use Rattle.vrt_model.specs.declared.blif.CoverLine.{CoverLine}
use Rattle.vrt_model.specs.declared.blif.LatchLine.{LatchLine}
use Rattle.vrt_model.specs.declared.blif.SubLine.{SubLine}
use Rattle.vrt_model.specs.declared.blif.Tie.{Tie}
use Rattle.vrt_model.specs.declared.flat_model.Cover.{Cover}
use Rattle.vrt_model.proofs.Members.{all_among, all_by, among_any, among_filter, among_flat_map, among_left, among_map, among_right, at_none, flat_map_among}
use Rattle.blif_flat.specs.Places.{placed, signals_left}
use Rattle.blif_checks.specs.Signals.{named_in}
use Rattle.blif_flat.proofs.CountLaws.{signals_in}
use Rattle.names.proofs.PlaceLaws.{any_placed}
use Rattle.blif_flat.proofs.OnceLaws.{named_among}
use Rattle.names.proofs.FilterLaws.{has_name_filter}

-- ---- numbers at a place

-- each signal of the model at a place has a number below a bound
abbrev pub IsBelow : Blif → ℕ → ModelPlace → Type 0
IsBelow blif total at = (n : List ℕ) → has_name (signals_of (model_at blif at.model)) n ≡ true → signal_at blif at n < total

abbrev HasPlaceRoom : Blif → ℕ → ℕ → ModelPlace → Type 0
HasPlaceRoom blif total depth at = at.base + inner_count blif depth (model_at blif at.model) at.tied ≤ total

inner_first : (blif : Blif) (depth m : ℕ) (tied : List (List ℕ)) → length (inner_signals (model_at blif m) tied) ≤ inner_count blif depth (model_at blif m) tied
inner_first blif zero m tied = omega arith
inner_first blif (suc depth) m tied = omega arith

clash : (b : Bool) → b ≡ true → b ≡ false → ⊥
clash true h e = cc
clash false h e = cc

own_below : (blif : Blif) (total depth : ℕ) (p : ModelPlace) → length p.ties ≡ length p.tied → ((k t : ℕ) → At p.ties k t → t < total) → HasPlaceRoom blif total depth p → IsBelow blif total p
own_below blif total depth p same tied room n among = by_tie (place_of p.tied n) refl where
  by_own : (o : Option ℕ) → place_of (inner_signals (model_at blif p.model) p.tied) n ≡ o → has_name p.tied n ≡ false → p.base + unwrap_or o 0 < total
  by_own (Some j) e out =
      let lt : j < length (inner_signals (model_at blif p.model) p.tied) = (position-Some (bytes_eq n) (inner_signals (model_at blif p.model) p.tied) j n e).0 in
      let most = inner_first blif depth p.model p.tied in
      omega (arith, lt, room, most)
  by_own None e out =
      let own : has_name (inner_signals (model_at blif p.model) p.tied) n ≡ true =
      has_name_filter (λ name. not (has_name p.tied name)) (signals_of (model_at blif p.model)) n ∙ ap₂ (λ (b c : Bool). not b && c) out among in
      absurd (clash _ own (any_placed (bytes_eq n) (inner_signals (model_at blif p.model) p.tied) ∙ ap is_some e))

  by_tie : (o : Option ℕ) → place_of p.tied n ≡ o
      → unwrap_or (option_map (λ (k : ℕ). unwrap_or (slice_get p.ties k) 0) o) (p.base + unwrap_or (place_of (inner_signals (model_at blif p.model) p.tied) n) 0) < total
  by_tie (Some k) e =
      let lt : k < length p.tied = (position-Some (bytes_eq n) p.tied k n e).0 in
      let t = at_there p.ties k (omega (arith, lt, same)) in
      subst (λ o. unwrap_or o 0 < total) (sym t.1) (tied k t.0 t.1)
  by_tie None e = by_own (place_of (inner_signals (model_at blif p.model) p.tied) n) refl (any_placed (bytes_eq n) p.tied ∙ ap is_some e)

-- ---- names on cards

named_by_card : (m : BlifModel) (n : List ℕ) → Among (named_in m) n → has_name (signals_of m) n ≡ true
named_by_card m n a = named_among m n (among_any (bytes_eq n) (named_in m) n a ((bytes_eq-Decides n n).1 refl))

pub input_named : (m : BlifModel) (n : List ℕ) → Among m.inputs n → has_name (signals_of m) n ≡ true
input_named m n a = named_by_card m n (among_left _ _ n (among_left _ _ n (among_left _ _ n (among_left _ _ n (among_left m.inputs m.clocks n a)))))

pub clock_named : (m : BlifModel) (n : List ℕ) → Among m.clocks n → has_name (signals_of m) n ≡ true
clock_named m n a = named_by_card m n (among_left _ _ n (among_left _ _ n (among_left _ _ n (among_left _ _ n (among_right m.inputs m.clocks n a)))))

pub output_named : (m : BlifModel) (n : List ℕ) → Among m.outputs n → has_name (signals_of m) n ≡ true
output_named m n a = named_by_card m n (among_left _ _ n (among_left _ _ n (among_left _ _ n (among_right (m.inputs ++ m.clocks) m.outputs n a))))

pub cover_named : (m : BlifModel) (c : CoverLine) (n : List ℕ) → Among m.covers c → Among (cover_signals c) n → has_name (signals_of m) n ≡ true
cover_named m c n a b =
    named_by_card m n (among_left _ _ n (among_left _ _ n (among_right (m.inputs ++ m.clocks ++ m.outputs) (flat_map cover_signals m.covers) n (flat_map_among cover_signals m.covers c n (a.0, a.1) b))))

pub latch_named : (m : BlifModel) (l : LatchLine) (n : List ℕ) → Among m.latches l → Among (latch_signals l) n → has_name (signals_of m) n ≡ true
latch_named m l n a b =
    named_by_card m n (among_left _ _ n (among_right (m.inputs ++ m.clocks ++ m.outputs ++ flat_map cover_signals m.covers) (flat_map latch_signals m.latches) n (flat_map_among latch_signals m.latches l n (a.0, a.1) b)))

pub tie_named : (m : BlifModel) (s : SubLine) (n : List ℕ) → Among m.subs s → Among (sub_signals s) n → has_name (signals_of m) n ≡ true
tie_named m s n a b =
    named_by_card m n (among_right (m.inputs ++ m.clocks ++ m.outputs ++ flat_map cover_signals m.covers ++ flat_map latch_signals m.latches) (flat_map sub_signals m.subs) n (flat_map_among sub_signals m.subs s n (a.0, a.1) b))

-- ---- all places

sub_below : (blif : Blif) (total depth : ℕ) (at : ModelPlace) (s : SubLine) (number base : ℕ) → IsBelow blif total at → Among (model_at blif at.model).subs s
    → base + inner_count blif depth (model_at blif (model_numbered blif s.model)) (formals s) ≤ total → IsBelow blif total (placed blif at number base s)
sub_below blif total depth at s number base below among room =
    own_below blif total depth (placed blif at number base s)
    (length-map (sub_signals s) (signal_at blif at) ∙ length-map s.ties (λ (t : Tie). t.actual) ∙ sym (length-map s.ties (λ (t : Tie). t.formal)))
    (λ k t e. let x = among_map (signal_at blif at) (sub_signals s) t (k, e) in subst (λ n. n < total) x.2 (below x.0 (tie_named (model_at blif at.model) s x.0 among x.1)))
    room

subs_below : (blif : Blif) (total depth : ℕ) (at : ModelPlace) → IsBelow blif total at → (number base : ℕ) (subs : List SubLine) → ((s : SubLine) → Among subs s → Among (model_at blif at.model).subs s)
    → base + signals_left blif depth subs ≤ total → (i : ℕ) (q : ModelPlace) → At (subs_from blif at depth number base subs) i q → IsBelow blif total q × HasPlaceRoom blif total depth q
subs_below blif total depth at below number base [] from room i q a = absurd (at_none i q a)
subs_below blif total depth at below number base (s ∷ subs) from room zero q a =
    let sum = sum_by-cons (λ (s : SubLine). inner_count blif depth (model_at blif (model_numbered blif s.model)) (formals s)) s subs in
    let fits : base + inner_count blif depth (model_at blif (model_numbered blif s.model)) (formals s) ≤ total = omega (arith, sum, room) in
    let is : placed blif at number base s ≡ q = same_Some (placed blif at number base s) q a in (
      subst (IsBelow blif total) is (sub_below blif total depth at s number base below (from s (0, refl)) fits),
      subst (HasPlaceRoom blif total depth) is fits,
    )
subs_below blif total depth at below number base (s ∷ subs) from room (suc i) q a =
    let sum = sum_by-cons (λ (s : SubLine). inner_count blif depth (model_at blif (model_numbered blif s.model)) (formals s)) s subs in
    subs_below blif total depth at below (suc number) (base + inner_count blif depth (model_at blif (model_numbered blif s.model)) (formals s)) subs (λ x m. from x (suc m.0, m.1))
    (omega (arith, sum, room)) i q a

all_below : (blif : Blif) (total depth : ℕ) (at : ModelPlace) → IsBelow blif total at → HasPlaceRoom blif total depth at → (i : ℕ) (p : ModelPlace) → At (models_in blif depth at) i p → IsBelow blif total p
all_below blif total zero at below room zero p a = subst (IsBelow blif total) (same_Some at p a) below
all_below blif total zero at below room (suc i) p a = absurd (at_none i p a)
all_below blif total (suc depth) at below room zero p a = subst (IsBelow blif total) (same_Some at p a) below
all_below blif total (suc depth) at below room (suc i) p a =
    let found = among_flat_map (models_in blif depth) (subs_at blif depth at) p (i, a) in
    let q : ModelPlace = found.0 in
    let fits =
    subs_below blif total depth at below 0 (at.base + length (inner_signals (model_at blif at.model) at.tied)) (model_at blif at.model).subs (λ s m. m) (omega (arith, room)) found.1.0 q found.1.1 in
    all_below blif total depth q fits.0 fits.1 found.2.0 p found.2.1

top_below : (blif : Blif) (total depth m : ℕ) → inner_count blif depth (model_at blif m) [] ≤ total → IsBelow blif total (top_model m)
top_below blif total depth m room = own_below blif total depth (top_model m) refl (λ k t e. absurd (at_none k t e)) (omega (arith, room))

places_below : (blif : Blif) (total depth m : ℕ) → inner_count blif depth (model_at blif m) [] ≤ total → (p : ModelPlace) → Among (models_in blif depth (top_model m)) p → IsBelow blif total p
places_below blif total depth m room p a = all_below blif total depth (top_model m) (top_below blif total depth m room) (omega (arith, room)) a.0 p a.1

-- ---- rows

good_cover : (ms : List BlifModel) → All IsModel ms → (m : ℕ) (c : CoverLine)
    → Among (unwrap_or (slice_get ms m) (record { line = 0; name = []; inputs = []; input_lines = []; clocks = []; clock_lines = []; outputs = []; output_lines = []; covers = []; latches = []; subs = []; exdc = [] })).covers c
    → IsCoverLine c
good_cover [] all m c a = absurd (at_none a.0 c a.1)
good_cover (x ∷ ms) all zero c a = let good : IsModel x = All-head IsModel x ms all in all_among IsCoverLine x.covers c good.covers a
good_cover (x ∷ ms) all (suc m) c a = good_cover ms (All-tail IsModel x ms all) m c a

-- ---- the flat model

control_below : (total : ℕ) (f : List ℕ → ℕ) (o : Option (List ℕ)) → ((n : List ℕ) → o ≡ Some n → f n < total) → IsControl total (option_map f o)
control_below total f None h = tt
control_below total f (Some n) h = h n refl

control_among : (l : LatchLine) (n : List ℕ) → l.control ≡ Some n → Among (latch_signals l) n
control_among l n e = (2, ap (λ (o : Option (List ℕ)). slice_get (l.input ∷ l.output ∷ option_to_list o) 2) e)

cover_below : (blif : Blif) (total : ℕ) (p : ModelPlace) (c : CoverLine) → IsBelow blif total p → Among (model_at blif p.model).covers c → IsCoverLine c → IsCover total (flat_cover blif p c)
cover_below blif total p c below a good = record {
  inputs =
      all_by (λ s. s < total) (map (signal_at blif p) c.inputs)
      (λ x m. let n = among_map (signal_at blif p) c.inputs x m in subst (λ s. s < total) n.2 (below n.0 (cover_named (model_at blif p.model) c n.0 a (among_left c.inputs (c.output ∷ []) n.0 n.1))));
  output = below c.output (cover_named (model_at blif p.model) c c.output a (among_right c.inputs (c.output ∷ []) c.output (0, refl)));
  rows = subst (λ w. All (IsRow w) c.rows) (sym (length-map c.inputs (signal_at blif p))) good.rows;
}

latch_below : (blif : Blif) (total : ℕ) (p : ModelPlace) (l : LatchLine) → IsBelow blif total p → Among (model_at blif p.model).latches l → IsLatch total (flat_latch blif p l)
latch_below blif total p l below a = record {
  input = below l.input (latch_named (model_at blif p.model) l l.input a (0, refl));
  output = below l.output (latch_named (model_at blif p.model) l l.output a (1, refl));
  control = control_below total (signal_at blif p) l.control (λ n e. below n (latch_named (model_at blif p.model) l n a (control_among l n e)));
}

covers_below : (blif : Blif) (total depth m : ℕ) → IsBlif blif → inner_count blif depth (model_at blif m) [] ≤ total
    → All (IsCover total) (flat_map (λ (at : ModelPlace). map (flat_cover blif at) (model_at blif at.model).covers) (models_in blif depth (top_model m)))
covers_below blif total depth m good room =
    all_by (IsCover total) _
    (λ x a.
    let p = among_flat_map (λ (at : ModelPlace). map (flat_cover blif at) (model_at blif at.model).covers) (models_in blif depth (top_model m)) x a in
    let c = among_map (flat_cover blif p.0) (model_at blif p.0.model).covers x p.2 in
    subst (IsCover total) c.2 (cover_below blif total p.0 c.0 (places_below blif total depth m room p.0 p.1) c.1 (good_cover blif.models good.models p.0.model c.0 c.1)))

latches_below : (blif : Blif) (total depth m : ℕ) → inner_count blif depth (model_at blif m) [] ≤ total
    → All (IsLatch total) (flat_map (λ (at : ModelPlace). map (flat_latch blif at) (model_at blif at.model).latches) (models_in blif depth (top_model m)))
latches_below blif total depth m room =
    all_by (IsLatch total) _
    (λ x a.
    let p = among_flat_map (λ (at : ModelPlace). map (flat_latch blif at) (model_at blif at.model).latches) (models_in blif depth (top_model m)) x a in
    let l = among_map (flat_latch blif p.0) (model_at blif p.0.model).latches x p.2 in
    subst (IsLatch total) l.2 (latch_below blif total p.0 l.0 (places_below blif total depth m room p.0 p.1) l.1))

names_below : (blif : Blif) (total depth m : ℕ) → inner_count blif depth (model_at blif m) [] ≤ total → (names : List (List ℕ)) → ((n : List ℕ) → Among names n → has_name (signals_of (model_at blif m)) n ≡ true)
    → All (λ s. s < total) (map (signal_at blif (top_model m)) names)
names_below blif total depth m room names named =
    all_by (λ s. s < total) (map (signal_at blif (top_model m)) names)
    (λ x a. let n = among_map (signal_at blif (top_model m)) names x a in subst (λ s. s < total) n.2 (top_below blif total depth m room n.0 (named n.0 n.1)))

at_most : (a b : ℕ) → a ≡ b → b ≤ a
at_most a b e = omega (arith, e)

-- the flat signal of a name of the model itself
pub top_named : (blif : Blif) (m : ℕ) (n : List ℕ) → has_name (signals_of (model_at blif m)) n ≡ true → signal_at blif (top_model m) n < length (unrolled_of blif m).signals
unfolding unrolled_of all_models
top_named blif m n named = top_below blif _ deepest m (at_most _ _ (signals_in blif deepest (top_model m))) n named

-- what is unrolled within the limits is well formed if each signal has one driver
pub good_unrolled : (blif : Blif) (m : ℕ) → IsBlif blif → length (unrolled_of blif m).signals ≤ most_signals → sum_by (λ (c : Cover). length c.rows) (unrolled_of blif m).covers ≤ most_rows
    → ((s : ℕ) → s < length (unrolled_of blif m).signals → count_by (λ d. d == s) (drivers_of (unrolled_of blif m)) ≡ 1) → IsFlatModel (unrolled_of blif m)
unfolding unrolled_of all_models
good_unrolled blif m good few rows one =
    let model : BlifModel = model_at blif m in
    let total : ℕ = length (flat_map (flat_signals_at blif) (models_in blif deepest (top_model m))) in
    let room : inner_count blif deepest (model_at blif m) [] ≤ length (flat_map (flat_signals_at blif) (models_in blif deepest (top_model m))) = at_most _ _ (signals_in blif deepest (top_model m)) in
    record {
      signal_limit = few;
      row_limit = rows;
      inputs = names_below blif _ deepest m room model.inputs (input_named model);
      clocks = names_below blif _ deepest m room (filter (λ name. not (has_name model.inputs name)) model.clocks) (λ n a. clock_named model n (among_filter (λ name. not (has_name model.inputs name)) model.clocks n a));
      outputs = names_below blif _ deepest m room model.outputs (output_named model);
      covers = covers_below blif _ deepest m good room;
      latches = latches_below blif _ deepest m room;
      dontcares = all_by _ [] (λ d a. absurd (at_none a.0 d a.1));
      one_driver = one;
    }
