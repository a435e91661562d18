-- How often a flat signal is driven at one place of an unrolled model.
use Rattle.std.proofs.Common.{◌≡◌, ◌+◌, ◌++◌, ◌∷◌, ◌&&◌, ◌||◌, [], ℕ, zero, suc, List, Bool, true, false, cond, not, map, flat_map, length, Option, None, option_map, refl, ap, ap₂, sym, ◌∙◌, subst, arith}
use Rattle.std.proofs.lemmas.Bool.{and_parts}
use Rattle.std.specs.Prelude.{◌==◌, bytes_eq, filter, find, is_none, min, slice_get, unwrap_or}
use Rattle.std.proofs.lemmas.Option.{same_Some}
use Rattle.std.proofs.lemmas.Slice.Eq.{bytes_eq-Decides}
use Rattle.vrt_model.specs.Lists.{At, has_name, place_of}
use Rattle.names.proofs.ApartLaws.{NoRepeat, kept_apart}
use Rattle.vrt_model.specs.FlatBlif.{ModelPlace, formals, inner_signals, model_at, model_numbered, signal_at, signals_of}
use Rattle.vrt_model.specs.Inputs.{IsModel}
use Rattle.vrt_model.specs.Models.{OnLine, bad_formal_after, drivers_in, interface_of, is_driving, line_in, listed_inputs, on_line, on_lines, ties_on}
use Rattle.vrt_model.specs.declared.blif.Blif.{Blif}
use Rattle.vrt_model.specs.declared.blif.BlifModel.{BlifModel}
use Rattle.vrt_model.specs.declared.blif.CoverLine.{CoverLine}
use Rattle.vrt_model.specs.declared.blif.LatchLine.{LatchLine}
use Rattle.vrt_model.specs.declared.blif.SubLine.{SubLine}
use Rattle.vrt_model.specs.declared.blif.Tie.{Tie}
use Rattle.blif_checks.specs.Mentions.{number_among}
use Rattle.blif_checks.proofs.DriverLaws.{none_listed}
use Rattle.blif_flat.proofs.OnceLaws.{fits, signals_apart}
use Rattle.names.proofs.PlaceLaws.{at_among}
use Rattle.names.proofs.FilterLaws.{has_name_filter}
use Rattle.blif_flat.proofs.OneDriverCounts.{first_number, hits, hits_apart, hits_flat, hits_join, hits_listed, hits_map, hits_numbers, hits_once, hits_same, hits_split, later_number, place_none, place_number, span, total, total_same}
use Rattle.blif_flat.proofs.OneDriverNames.{IsDriven}

-- ---- the names of a place and their numbers

-- a name at a place is this flat signal
abbrev pub gives : Blif → ModelPlace → ℕ → List ℕ → Bool
gives blif p x n = signal_at blif p n == x

-- what is tied at a place are signals of its model, each once
pub record IsTied (blif : Blif) (p : ModelPlace) : Type 0 where
  pub apart : NoRepeat p.tied
  pub count : length p.ties ≡ length p.tied
  pub known : (n : List ℕ) → has_name p.tied n ≡ true → has_name (signals_of (model_at blif p.model)) n ≡ true

pub tied_signal : (blif : Blif) (p : ModelPlace) (n : List ℕ) → has_name p.tied n ≡ true → signal_at blif p n ≡ unwrap_or (slice_get p.ties (number_among p.tied n)) 0
tied_signal blif p n e =
    ap (λ (o : Option ℕ). unwrap_or (option_map (λ (k : ℕ). unwrap_or (slice_get p.ties k) 0) o) (p.base + unwrap_or (place_of (inner_signals (model_at blif p.model) p.tied) n) 0)) (place_number p.tied n e)

not_not : (b : Bool) → not b ≡ true → b ≡ false
not_not true e = cc
not_not false e = refl

own_signal : (blif : Blif) (p : ModelPlace) (n : List ℕ) → has_name (inner_signals (model_at blif p.model) p.tied) n ≡ true
    → signal_at blif p n ≡ p.base + number_among (inner_signals (model_at blif p.model) p.tied) n
own_signal blif p n e =
    let both = and_parts (not (has_name p.tied n)) (has_name (signals_of (model_at blif p.model)) n) (sym (has_name_filter (λ name. not (has_name p.tied name)) (signals_of (model_at blif p.model)) n) ∙ e) in
    ap₂ (λ (o k : Option ℕ). unwrap_or (option_map (λ (k : ℕ). unwrap_or (slice_get p.ties k) 0) o) (p.base + unwrap_or k 0)) (place_none p.tied n (not_not (has_name p.tied n) both.0))
    (place_number (inner_signals (model_at blif p.model) p.tied) n e)

-- the signals of a place are what is tied and its own numbers
own_and_tied : (blif : Blif) (p : ModelPlace) (x : ℕ) → IsTied blif p
    → hits (gives blif p x) (signals_of (model_at blif p.model)) ≡ hits (λ k. k == x) p.ties + span p.base (length (inner_signals (model_at blif p.model) p.tied)) x
own_and_tied blif p x is = hits_split (gives blif p x) (has_name p.tied) names ∙ ap₂ ◌+◌ tied own where
  names : List (List ℕ)
  names = signals_of (model_at blif p.model)

  inner : List (List ℕ)
  inner = inner_signals (model_at blif p.model) p.tied

  and_yes : (a b : Bool) → a ≡ true → b ≡ true → (a && b) ≡ true
  and_yes a b e f = ap₂ (λ c d. c && d) e f

  tied : hits (gives blif p x) (filter (has_name p.tied) names) ≡ hits (λ k. k == x) p.ties
  tied =
      hits_apart (gives blif p x) p.tied (filter (has_name p.tied) names) is.apart (kept_apart (has_name p.tied) names (signals_apart (model_at blif p.model)))
      (λ n e. has_name_filter (has_name p.tied) names n ∙ and_yes (has_name p.tied n) (has_name names n) e (is.known n e))
      (λ n e. (and_parts (has_name p.tied n) (has_name names n) (sym (has_name_filter (has_name p.tied) names n) ∙ e)).0)
      ∙ hits_same (gives blif p x) (λ n. unwrap_or (slice_get p.ties (number_among p.tied n)) 0 == x) p.tied (λ i n e. ap (λ k. k == x) (tied_signal blif p n (at_among p.tied i n e)))
      ∙ hits_listed x p.tied p.ties is.apart is.count

  own : hits (gives blif p x) inner ≡ span p.base (length inner) x
  own =
      hits_same (gives blif p x) (λ n. (p.base + number_among inner n) == x) inner (λ i n e. ap (λ k. k == x) (own_signal blif p n (at_among inner i n e)))
      ∙ hits_numbers p.base x inner (kept_apart (λ name. not (has_name p.tied name)) names (signals_apart (model_at blif p.model)))

-- ---- the drivers of a place

hits_lines : (g : List ℕ → Bool) (names : List (List ℕ)) (lines : List ℕ) → length lines ≡ length names → hits (λ (o : OnLine). g o.name) (on_lines names lines) ≡ hits g names
hits_lines g [] lines same = refl
hits_lines g (n ∷ names) [] same = absurd (omega (arith, same))
hits_lines g (n ∷ names) (l ∷ lines) same = ap (λ (k : ℕ). cond (g n) 1 0 + k) (hits_lines g names lines (omega (arith, same)))

hits_kept : (g : List ℕ → Bool) (q : OnLine → Bool) (r : List ℕ → Bool) → ((o : OnLine) → q o ≡ r o.name) → (names : List (List ℕ)) (lines : List ℕ) → length lines ≡ length names
    → hits (λ (o : OnLine). g o.name) (filter q (on_lines names lines)) ≡ hits g (filter r names)
hits_kept g q r agree [] lines same = refl
hits_kept g q r agree (n ∷ names) [] same = absurd (omega (arith, same))
hits_kept g q r agree (n ∷ names) (l ∷ lines) same =
    ap (λ (b : Bool). hits (λ (o : OnLine). g o.name) (cond b (on_line l n ∷ filter q (on_lines names lines)) (filter q (on_lines names lines)))) (agree (on_line l n))
    ∙ by_test (r n) (hits_kept g q r agree names lines (omega (arith, same))) where
      by_test : (b : Bool) → hits (λ (o : OnLine). g o.name) (filter q (on_lines names lines)) ≡ hits g (filter r names)
          → hits (λ (o : OnLine). g o.name) (cond b (on_line l n ∷ filter q (on_lines names lines)) (filter q (on_lines names lines))) ≡ hits g (cond b (n ∷ filter r names) (filter r names))
      by_test true e = ap (λ (k : ℕ). cond (g n) 1 0 + k) e
      by_test false e = e

-- the inputs and clocks of a model, each once
abbrev pub heads : BlifModel → List (List ℕ)
heads m = m.inputs ++ filter (λ name. not (has_name m.inputs name)) m.clocks

listed_hits : (g : List ℕ → Bool) (m : BlifModel) → IsModel m → hits (λ (o : OnLine). g o.name) (listed_inputs m) ≡ hits g (heads m)
listed_hits g m is =
    hits_join (λ (o : OnLine). g o.name) (map (λ (o : OnLine). on_line (min o.line (unwrap_or (line_in (on_lines m.clocks m.clock_lines) o.name) o.line)) o.name) (on_lines m.inputs m.input_lines))
    (filter (λ (o : OnLine). is_none (line_in (on_lines m.inputs m.input_lines) o.name)) (on_lines m.clocks m.clock_lines))
    ∙ ap₂ ◌+◌
    (hits_map (λ (o : OnLine). g o.name) (λ (o : OnLine). on_line (min o.line (unwrap_or (line_in (on_lines m.clocks m.clock_lines) o.name) o.line)) o.name) (on_lines m.inputs m.input_lines)
    ∙ hits_lines g m.inputs m.input_lines is.input_lines)
    (hits_kept g (λ (o : OnLine). is_none (line_in (on_lines m.inputs m.input_lines) o.name)) (λ name. not (has_name m.inputs name)) (λ o. none_listed m.inputs m.input_lines o.name is.input_lines) m.clocks m.clock_lines is.clock_lines)
    ∙ sym (hits_join g m.inputs (filter (λ name. not (has_name m.inputs name)) m.clocks))

-- how often covers and latches drive a flat signal, and how often a sub-model does
abbrev pub card_hits : Blif → ℕ → ModelPlace → ℕ
card_hits blif x p =
    hits (λ (c : CoverLine). gives blif p x c.output) (model_at blif p.model).covers + hits (λ (l : LatchLine). gives blif p x l.output) (model_at blif p.model).latches

abbrev pub sub_hits : Blif → ModelPlace → ℕ → SubLine → ℕ
sub_hits blif p x s = hits (λ (t : Tie). gives blif p x t.actual) (filter (is_driving blif s) s.ties)

-- how often a name is driven, by what drives it
pub drivers_by_kind : (blif : Blif) (m : BlifModel) (g : List ℕ → Bool) → IsModel m
    → hits (λ (o : OnLine). g o.name) (drivers_in blif m)
    ≡ hits g (heads m) + hits (λ (c : CoverLine). g c.output) m.covers + hits (λ (l : LatchLine). g l.output) m.latches + total (λ (s : SubLine). hits (λ (t : Tie). g t.actual) (filter (is_driving blif s) s.ties)) m.subs
drivers_by_kind blif m g is =
    hits_join G (listed_inputs m ++ covers ++ latches) ties
    ∙ ap₂ ◌+◌
    (hits_join G (listed_inputs m ++ covers) latches
    ∙ ap₂ ◌+◌ (hits_join G (listed_inputs m) covers ∙ ap₂ ◌+◌ (listed_hits g m is) (hits_map G (λ (c : CoverLine). on_line c.line c.output) m.covers))
    (hits_map G (λ (l : LatchLine). on_line l.line l.output) m.latches))
    (hits_flat G (λ (s : SubLine). ties_on (is_driving blif s) s) m.subs
    ∙ total_same (λ (s : SubLine). hits G (ties_on (is_driving blif s) s)) (λ (s : SubLine). hits (λ (t : Tie). g t.actual) (filter (is_driving blif s) s.ties)) m.subs
    (λ i s e. hits_map G (λ (t : Tie). on_line s.line t.actual) (filter (is_driving blif s) s.ties))) where
      G : OnLine → Bool
      G o = g o.name

      covers : List OnLine
      covers = map (λ (c : CoverLine). on_line c.line c.output) m.covers

      latches : List OnLine
      latches = map (λ (l : LatchLine). on_line l.line l.output) m.latches

      ties : List OnLine
      ties = flat_map (λ (s : SubLine). ties_on (is_driving blif s) s) m.subs

-- at one place: the drivers are as many as the ties to the signal, and one where it is the place's own
pub place_hits : (blif : Blif) (p : ModelPlace) (x : ℕ) → IsTied blif p → IsModel (model_at blif p.model) → IsDriven blif (model_at blif p.model)
    → hits (gives blif p x) (heads (model_at blif p.model)) + card_hits blif x p + total (sub_hits blif p x) (model_at blif p.model).subs
    ≡ hits (λ k. k == x) p.ties + span p.base (length (inner_signals (model_at blif p.model) p.tied)) x
place_hits blif p x is good driven =
    regroup _ _ _ _
    ∙ sym (drivers_by_kind blif (model_at blif p.model) (gives blif p x) good)
    ∙ sym (hits_map (gives blif p x) (λ (o : OnLine). o.name) (drivers_in blif (model_at blif p.model)))
    ∙ hits_once (gives blif p x) (signals_of (model_at blif p.model)) (map (λ (o : OnLine). o.name) (drivers_in blif (model_at blif p.model))) (signals_apart (model_at blif p.model)) driven.one driven.within
    ∙ own_and_tied blif p x is where
      regroup : (a b c d : ℕ) → a + (b + c) + d ≡ a + b + c + d
      regroup a b c d = omega arith

-- ---- a sub-model and the place around it

-- what is tied to a sub-model is its interface: each formal is an interface signal, none stands twice, and no input or clock is left out
pub record IsSubTied (blif : Blif) (s : SubLine) : Type 0 where
  pub fitting : bad_formal_after (interface_of (model_at blif (model_numbered blif s.model))) [] (formals s) ≡ None
  pub whole : find (λ name. not (has_name (formals s) name)) ((model_at blif (model_numbered blif s.model)).inputs ++ (model_at blif (model_numbered blif s.model)).clocks) ≡ None

-- a formal that fits is an interface signal
pub formal_known : (signals seen fs : List (List ℕ)) (n : List ℕ) → bad_formal_after signals seen fs ≡ None → has_name fs n ≡ true → has_name signals n ≡ true
formal_known signals seen [] n e h = cc
formal_known signals seen (f ∷ fs) n e h = by_test (bytes_eq n f) refl h (formal_known signals (f ∷ seen) fs n (both e).1) where
  both : bad_formal_after signals seen (f ∷ fs) ≡ None → ((not (has_name signals f) || has_name seen f) ≡ false) × (bad_formal_after signals (f ∷ seen) fs ≡ None)
  both h = fits (not (has_name signals f) || has_name seen f) f (bad_formal_after signals (f ∷ seen) fs) h

  known : (a b : Bool) → (not a || b) ≡ false → a ≡ true
  known true b h = refl
  known false b h = cc

  by_test : (b : Bool) → bytes_eq n f ≡ b → (b || has_name fs n) ≡ true → (has_name fs n ≡ true → has_name signals n ≡ true) → has_name signals n ≡ true
  by_test true same h rest = ap (has_name signals) ((bytes_eq-Decides n f).0 same) ∙ known (has_name signals f) (has_name seen f) (both e).0
  by_test false same h rest = rest h

-- the signal that a formal is within is the one to which it is tied without
pub tie_number : (f : List ℕ → ℕ) (ties : List Tie) → NoRepeat (map (λ (t : Tie). t.formal) ties) → (i : ℕ) (t : Tie) → At ties i t
    → unwrap_or (slice_get (map f (map (λ (t : Tie). t.actual) ties)) (number_among (map (λ (t : Tie). t.formal) ties) t.formal)) 0 ≡ f t.actual
tie_number f [] apart i t e = cc
tie_number f (u ∷ ties) apart zero t e =
    subst (λ (y : Tie). unwrap_or (slice_get (f u.actual ∷ map f (map (λ (t : Tie). t.actual) ties)) (number_among (u.formal ∷ map (λ (t : Tie). t.formal) ties) y.formal)) 0 ≡ f y.actual) (same_Some u t e)
    (ap (λ (j : ℕ). unwrap_or (slice_get (f u.actual ∷ map f (map (λ (t : Tie). t.actual) ties)) j) 0) (first_number u.formal (map (λ (t : Tie). t.formal) ties)))
tie_number f (u ∷ ties) apart (suc i) t e =
    ap (λ (j : ℕ). unwrap_or (slice_get (f u.actual ∷ map f (map (λ (t : Tie). t.actual) ties)) j) 0)
    (later_number u.formal (map (λ (t : Tie). t.formal) ties) t.formal apart.0 (formal_there ties i t e))
    ∙ tie_number f ties apart.1 i t e where
      formal_there : (ts : List Tie) (i : ℕ) (t : Tie) → At ts i t → has_name (map (λ (t : Tie). t.formal) ts) t.formal ≡ true
      formal_there [] i t e = cc
      formal_there (v ∷ ts) zero t e =
          ap (λ (b : Bool). b || has_name (map (λ (t : Tie). t.formal) ts) t.formal) ((bytes_eq-Decides t.formal v.formal).1 (ap (λ (y : Tie). y.formal) (sym (same_Some v t e))))
      formal_there (v ∷ ts) (suc i) t e = or_second (bytes_eq t.formal v.formal) (has_name (map (λ (t : Tie). t.formal) ts) t.formal) (formal_there ts i t e) where
        or_second : (a b : Bool) → b ≡ true → (a || b) ≡ true
        or_second true b e = refl
        or_second false b e = e
