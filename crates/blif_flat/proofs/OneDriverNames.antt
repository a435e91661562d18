-- Each signal of a model without a fault has one driver.
use Rattle.std.proofs.Common.{◌≡◌, ◌<◌, ◌++◌, ◌∷◌, ◌||◌, inl, inr, [], ℕ, zero, suc, List, Bool, true, false, cond, map, flat_map, length, Option, Some, None, option_map, refl, ap, ap₂, sym, ◌∙◌, subst, arith}
use Rattle.std.specs.Prelude.{◌⊎◌, ◌==◌, bytes_eq, filter, find, is_none, min, option_to_list, unwrap_or}
use Rattle.std.specs.List.{list_any}
use Rattle.std.proofs.lemmas.Bool.{cases_lt, eqb-true}
use Rattle.std.proofs.lemmas.Option.{same_Some}
use Rattle.std.proofs.lemmas.Slice.Eq.{bytes_eq-Decides}
use Rattle.vrt_model.specs.Lists.{Among, At, has_name}
use Rattle.names.proofs.NameLaws.{names_once, once_has_same}
use Rattle.vrt_model.specs.FlatBlif.{cover_signals, latch_signals, signals_of, sub_signals}
use Rattle.vrt_model.specs.Inputs.{IsModel}
use Rattle.vrt_model.specs.Models.{OnLine, own_fault, drivers_in, drivers_of_name, is_driven_twice_on, is_driving, is_reading, is_undriven_on, line_in, listed_inputs, names_on, on_line, on_lines, ties_on, uses_in, uses_of_name}
use Rattle.vrt_model.specs.declared.blif.Blif.{Blif}
use Rattle.vrt_model.specs.declared.blif.BlifModel.{BlifModel}
use Rattle.vrt_model.specs.declared.blif.CoverLine.{CoverLine}
use Rattle.vrt_model.specs.declared.blif.LatchLine.{LatchLine}
use Rattle.vrt_model.specs.declared.blif.SubLine.{SubLine}
use Rattle.vrt_model.specs.declared.blif.Tie.{Tie}
use Rattle.vrt_model.proofs.Filtered.{among_kept, filter_among}
use Rattle.vrt_model.proofs.Lists.{map_among}
use Rattle.vrt_model.proofs.Members.{among_either, among_filter, among_flat_map, among_left, among_map, among_right, any_among, at_none, find_among, flat_map_among}
use Rattle.vrt_model.proofs.Tests.{bytes_eq-sym}
use Rattle.blif_checks.specs.Signals.{named_in}
use Rattle.blif_checks.proofs.NoteLaws.{eq_yes}
use Rattle.blif_flat.proofs.OnceLaws.{signals_once}
use Rattle.blif_flat.proofs.OneDriverLines.{not_twice, not_undriven, twice_there, undriven_there}
use Rattle.blif_flat.proofs.RangeLaws.{clock_named, cover_named, input_named, latch_named, output_named, tie_named}

-- ---- lists

kept_cond : (b : Bool) (xs : List (List ℕ)) (n : List ℕ) → Among (cond b xs []) n → Among xs n
kept_cond true xs n a = a
kept_cond false xs n a = absurd (at_none a.0 n a.1)

some_there : {X : Type 0} (xs : List X) (x : X) → Among xs x → 0 < length xs
some_there [] x a = absurd (at_none a.0 x a.1)
some_there (y ∷ xs) x a = omega arith

-- ---- listed names

listed_name : (names : List (List ℕ)) (lines : List ℕ) (o : OnLine) → Among (on_lines names lines) o → Among names o.name
listed_name [] lines o a = absurd (at_none a.0 o a.1)
listed_name (n ∷ names) [] o a = absurd (at_none a.0 o a.1)
listed_name (n ∷ names) (l ∷ lines) o (zero, e) = (0, ap Some (ap (λ (p : OnLine). p.name) (same_Some (on_line l n) o e)))
listed_name (n ∷ names) (l ∷ lines) o (suc i, e) = let rest = listed_name names lines o (i, e) in (suc rest.0, rest.1)

name_listed : (names : List (List ℕ)) (lines : List ℕ) (n : List ℕ) → length lines ≡ length names → Among names n → (l : ℕ) × Among (on_lines names lines) (on_line l n)
name_listed [] lines n same a = absurd (at_none a.0 n a.1)
name_listed (x ∷ names) [] n same a = absurd (omega (arith, same))
name_listed (x ∷ names) (l ∷ lines) n same (zero, e) = (l, (0, ap (λ (y : List ℕ). Some (on_line l y)) (same_Some x n e)))
name_listed (x ∷ names) (l ∷ lines) n same (suc i, e) =
    let rest = name_listed names lines n (omega (arith, same)) (i, e) in (rest.0, (suc rest.1.0, rest.1.1))

listed_line : (list : List OnLine) (name : List ℕ) (l : ℕ) → line_in list name ≡ Some l → Among list (on_line l name)
listed_line list name l e = by_find (find (λ (o : OnLine). bytes_eq o.name name) list) refl e where
  by_find : (f : Option OnLine) → find (λ (o : OnLine). bytes_eq o.name name) list ≡ f → option_map (λ (o : OnLine). o.line) f ≡ Some l → Among list (on_line l name)
  by_find None h e = cc
  by_find (Some o) h e =
      let there = find_among (λ (o : OnLine). bytes_eq o.name name) list o h in
      subst (λ (p : OnLine). Among list p) (ap₂ on_line (same_Some o.line l e) ((bytes_eq-Decides o.name name).0 there.1)) there.0

-- ---- cards name what they drive and use

-- the card on this line names the signal
abbrev IsNamed : BlifModel → OnLine → Type 0
IsNamed m o = Among (names_on m o.line) o.name

head_named : (m : BlifModel) (o : OnLine) → Among (on_lines m.inputs m.input_lines ++ on_lines m.clocks m.clock_lines ++ on_lines m.outputs m.output_lines) o → IsNamed m o
head_named m o a =
    among_left _ _ o.name (among_left _ _ o.name (among_left _ _ o.name
    (map_among (λ (p : OnLine). p.name) (filter (λ (p : OnLine). p.line == o.line) (on_lines m.inputs m.input_lines ++ on_lines m.clocks m.clock_lines ++ on_lines m.outputs m.output_lines)) o
    (among_kept (λ (p : OnLine). p.line == o.line) (on_lines m.inputs m.input_lines ++ on_lines m.clocks m.clock_lines ++ on_lines m.outputs m.output_lines) o a (eq_yes o.line o.line refl)))))

on_card : (l : ℕ) (signals : List (List ℕ)) (n : List ℕ) → Among signals n → Among (cond (l == l) signals []) n
on_card l signals n a = subst (λ (b : Bool). Among (cond b signals []) n) (sym (eq_yes l l refl)) a

abbrev heads_on : BlifModel → ℕ → List (List ℕ)
heads_on m l = map (λ (o : OnLine). o.name) (filter (λ (o : OnLine). o.line == l) (on_lines m.inputs m.input_lines ++ on_lines m.clocks m.clock_lines ++ on_lines m.outputs m.output_lines))

abbrev covers_on : BlifModel → ℕ → List (List ℕ)
covers_on m l = flat_map (λ (x : CoverLine). cond (x.line == l) (cover_signals x) []) m.covers

abbrev latches_on : BlifModel → ℕ → List (List ℕ)
latches_on m l = flat_map (λ (x : LatchLine). cond (x.line == l) (latch_signals x) []) m.latches

abbrev subs_on : BlifModel → ℕ → List (List ℕ)
subs_on m l = flat_map (λ (x : SubLine). cond (x.line == l) (sub_signals x) []) m.subs

cover_on : (m : BlifModel) (c : CoverLine) (n : List ℕ) → Among m.covers c → Among (cover_signals c) n → IsNamed m (on_line c.line n)
cover_on m c n a b =
    let l : ℕ = c.line in
    among_left (heads_on m l ++ covers_on m l ++ latches_on m l) (subs_on m l) n (among_left (heads_on m l ++ covers_on m l) (latches_on m l) n (among_right (heads_on m l) (covers_on m l) n
    (flat_map_among (λ (x : CoverLine). cond (x.line == c.line) (cover_signals x) []) m.covers c n (a.0, a.1) (on_card c.line (cover_signals c) n b))))

latch_on : (m : BlifModel) (c : LatchLine) (n : List ℕ) → Among m.latches c → Among (latch_signals c) n → IsNamed m (on_line c.line n)
latch_on m c n a b =
    let l : ℕ = c.line in
    among_left (heads_on m l ++ covers_on m l ++ latches_on m l) (subs_on m l) n (among_right (heads_on m l ++ covers_on m l) (latches_on m l) n
    (flat_map_among (λ (x : LatchLine). cond (x.line == c.line) (latch_signals x) []) m.latches c n (a.0, a.1) (on_card c.line (latch_signals c) n b)))

sub_on : (m : BlifModel) (c : SubLine) (n : List ℕ) → Among m.subs c → Among (sub_signals c) n → IsNamed m (on_line c.line n)
sub_on m c n a b =
    among_right _ (flat_map (λ (x : SubLine). cond (x.line == c.line) (sub_signals x) []) m.subs) n
    (flat_map_among (λ (x : SubLine). cond (x.line == c.line) (sub_signals x) []) m.subs c n (a.0, a.1) (on_card c.line (sub_signals c) n b))

min_either : (a b : ℕ) → (min a b ≡ a) ⊎ (min a b ≡ b)
min_either a b = elim (cases_lt a b) [ inl lt ↦ inl (omega (arith, lt)) | inr le ↦ inr (omega (arith, le)) ]

-- an input at the earlier of two lines
earlier_named : (m : BlifModel) (o : OnLine) → Among (on_lines m.inputs m.input_lines) o
    → IsNamed m (on_line (min o.line (unwrap_or (line_in (on_lines m.clocks m.clock_lines) o.name) o.line)) o.name)
earlier_named m o a = by_line (line_in (on_lines m.clocks m.clock_lines) o.name) refl where
  here : IsNamed m o
  here = head_named m o (among_left _ _ o (among_left _ _ o a))

  min_self : (k : ℕ) → k ≡ min k k
  min_self k = omega arith

  by_line : (c : Option ℕ) → line_in (on_lines m.clocks m.clock_lines) o.name ≡ c → IsNamed m (on_line (min o.line (unwrap_or c o.line)) o.name)
  by_line None e = subst (λ (k : ℕ). IsNamed m (on_line k o.name)) (min_self o.line) here
  by_line (Some l) e = elim (min_either o.line l) [
    | inl first ↦ subst (λ (k : ℕ). IsNamed m (on_line k o.name)) (sym first) here
    | inr second ↦
        subst (λ (k : ℕ). IsNamed m (on_line k o.name)) (sym second)
        (head_named m (on_line l o.name) (among_left _ _ (on_line l o.name) (among_right (on_lines m.inputs m.input_lines) _ (on_line l o.name) (listed_line (on_lines m.clocks m.clock_lines) o.name l e))))
  ]

listed_on : (m : BlifModel) (o : OnLine) → Among (listed_inputs m) o → IsNamed m o
listed_on m o a =
    elim (among_either _ _ o a) [
      | inl input ↦
          let x = among_map (λ (p : OnLine). on_line (min p.line (unwrap_or (line_in (on_lines m.clocks m.clock_lines) p.name) p.line)) p.name) (on_lines m.inputs m.input_lines) o input in
          subst (λ (p : OnLine). IsNamed m p) x.2 (earlier_named m x.0 x.1)
      | inr clock ↦
          head_named m o (among_left _ _ o (among_right (on_lines m.inputs m.input_lines) _ o
          (among_filter (λ (p : OnLine). is_none (line_in (on_lines m.inputs m.input_lines) p.name)) (on_lines m.clocks m.clock_lines) o clock)))
    ]

tie_on : (m : BlifModel) (test : SubLine → Tie → Bool) (o : OnLine) → Among (flat_map (λ (s : SubLine). ties_on (test s) s) m.subs) o → IsNamed m o
tie_on m test o a =
    let s = among_flat_map (λ (s : SubLine). ties_on (test s) s) m.subs o a in
    let t = among_map (λ (t : Tie). on_line s.0.line t.actual) (filter (test s.0) s.0.ties) o s.2 in
    subst (λ (p : OnLine). IsNamed m p) t.2 (sub_on m s.0 t.0.actual s.1 (map_among (λ (t : Tie). t.actual) s.0.ties t.0 (among_filter (test s.0) s.0.ties t.0 t.1)))

driver_named : (blif : Blif) (m : BlifModel) (o : OnLine) → Among (drivers_in blif m) o → IsNamed m o
driver_named blif m o a =
    elim (among_either _ _ o a) [
      | inr tie ↦ tie_on m (is_driving blif) o tie
      | inl b ↦ elim (among_either _ _ o b) [
        | inr latch ↦
            let l = among_map (λ (l : LatchLine). on_line l.line l.output) m.latches o latch in
            subst (λ (p : OnLine). IsNamed m p) l.2 (latch_on m l.0 l.0.output l.1 (1, refl))
        | inl d ↦ elim (among_either _ _ o d) [
          | inr cover ↦
              let c = among_map (λ (c : CoverLine). on_line c.line c.output) m.covers o cover in
              subst (λ (p : OnLine). IsNamed m p) c.2 (cover_on m c.0 c.0.output c.1 (among_right c.0.inputs (c.0.output ∷ []) c.0.output (0, refl)))
          | inl listed ↦ listed_on m o listed
        ]
      ]
    ]

latch_use : (l : LatchLine) (n : List ℕ) → Among (l.input ∷ option_to_list l.control) n → Among (latch_signals l) n
latch_use l n (zero, e) = (0, e)
latch_use l n (suc i, e) = (suc (suc i), e)

use_named : (blif : Blif) (m : BlifModel) (o : OnLine) → Among (uses_in blif m) o → IsNamed m o
use_named blif m o a =
    elim (among_either _ _ o a) [
      | inr output ↦ head_named m o (among_right (on_lines m.inputs m.input_lines ++ on_lines m.clocks m.clock_lines) (on_lines m.outputs m.output_lines) o output)
      | inl b ↦ elim (among_either _ _ o b) [
        | inr tie ↦ tie_on m (is_reading blif) o tie
        | inl d ↦ elim (among_either _ _ o d) [
          | inr latch ↦
              let l = among_flat_map (λ (l : LatchLine). map (on_line l.line) (l.input ∷ option_to_list l.control)) m.latches o latch in
              let n = among_map (on_line l.0.line) (l.0.input ∷ option_to_list l.0.control) o l.2 in
              subst (λ (p : OnLine). IsNamed m p) n.2 (latch_on m l.0 n.0 l.1 (latch_use l.0 n.0 n.1))
          | inl cover ↦
              let c = among_flat_map (λ (c : CoverLine). map (on_line c.line) c.inputs) m.covers o cover in
              let n = among_map (on_line c.0.line) c.0.inputs o c.2 in
              subst (λ (p : OnLine). IsNamed m p) n.2 (cover_on m c.0 n.0 c.1 (among_left c.0.inputs (c.0.output ∷ []) n.0 n.1))
        ]
      ]
    ]

-- what a card names is a signal of the model
card_named : (m : BlifModel) (l : ℕ) (n : List ℕ) → Among (names_on m l) n → has_name (signals_of m) n ≡ true
card_named m l n a =
    elim (among_either _ _ n a) [
      | inr sub ↦
          let s = among_flat_map (λ (x : SubLine). cond (x.line == l) (sub_signals x) []) m.subs n sub in tie_named m s.0 n s.1 (kept_cond (s.0.line == l) (sub_signals s.0) n s.2)
      | inl b ↦ elim (among_either _ _ n b) [
        | inr latch ↦
            let s = among_flat_map (λ (x : LatchLine). cond (x.line == l) (latch_signals x) []) m.latches n latch in latch_named m s.0 n s.1 (kept_cond (s.0.line == l) (latch_signals s.0) n s.2)
        | inl d ↦ elim (among_either _ _ n d) [
          | inr cover ↦
              let s = among_flat_map (λ (x : CoverLine). cond (x.line == l) (cover_signals x) []) m.covers n cover in cover_named m s.0 n s.1 (kept_cond (s.0.line == l) (cover_signals s.0) n s.2)
          | inl head ↦
              let o = among_map (λ (p : OnLine). p.name) (filter (λ (p : OnLine). p.line == l) (on_lines m.inputs m.input_lines ++ on_lines m.clocks m.clock_lines ++ on_lines m.outputs m.output_lines)) n head in
              subst (λ (x : List ℕ). has_name (signals_of m) x ≡ true) o.2
              (listed o.0 (among_filter (λ (p : OnLine). p.line == l) (on_lines m.inputs m.input_lines ++ on_lines m.clocks m.clock_lines ++ on_lines m.outputs m.output_lines) o.0 o.1))
        ]
      ]
    ] where
      listed : (o : OnLine) → Among (on_lines m.inputs m.input_lines ++ on_lines m.clocks m.clock_lines ++ on_lines m.outputs m.output_lines) o → has_name (signals_of m) o.name ≡ true
      listed o h =
          elim (among_either _ _ o h) [
            | inr output ↦ output_named m o.name (listed_name m.outputs m.output_lines o output)
            | inl b ↦ elim (among_either _ _ o b) [
              | inr clock ↦ clock_named m o.name (listed_name m.clocks m.clock_lines o clock)
              | inl input ↦ input_named m o.name (listed_name m.inputs m.input_lines o input)
            ]
          ]

-- ---- each signal is driven or used

-- each tie of the sub-models of a model drives its signal or reads it
abbrev pub AllTied : Blif → BlifModel → Type 0
AllTied blif m = (s : SubLine) (t : Tie) → Among m.subs s → Among s.ties t → (is_driving blif s t || is_reading blif s t) ≡ true

abbrev IsTouched : Blif → BlifModel → List ℕ → Type 0
IsTouched blif m n = (l : ℕ) × (Among (drivers_in blif m) (on_line l n) ⊎ Among (uses_in blif m) (on_line l n))

listed_driver : (blif : Blif) (m : BlifModel) (o : OnLine) → Among (listed_inputs m) o → Among (drivers_in blif m) o
listed_driver blif m o a = among_left _ _ o (among_left _ _ o (among_left _ _ o a))

input_driver : (blif : Blif) (m : BlifModel) (o : OnLine) → Among (on_lines m.inputs m.input_lines) o → (l : ℕ) × Among (drivers_in blif m) (on_line l o.name)
input_driver blif m o a =
    let l : ℕ = min o.line (unwrap_or (line_in (on_lines m.clocks m.clock_lines) o.name) o.line) in (
      l,
      listed_driver blif m (on_line l o.name) (among_left _ _ (on_line l o.name)
          (map_among (λ (p : OnLine). on_line (min p.line (unwrap_or (line_in (on_lines m.clocks m.clock_lines) p.name) p.line)) p.name) (on_lines m.inputs m.input_lines) o a)),
    )

clock_driver : (blif : Blif) (m : BlifModel) (o : OnLine) → Among (on_lines m.clocks m.clock_lines) o → (l : ℕ) × Among (drivers_in blif m) (on_line l o.name)
clock_driver blif m o a = by_line (line_in (on_lines m.inputs m.input_lines) o.name) refl where
  by_line : (c : Option ℕ) → line_in (on_lines m.inputs m.input_lines) o.name ≡ c → (l : ℕ) × Among (drivers_in blif m) (on_line l o.name)
  by_line None e = (
    o.line,
    listed_driver blif m o (among_right (map (λ (p : OnLine). on_line (min p.line (unwrap_or (line_in (on_lines m.clocks m.clock_lines) p.name) p.line)) p.name) (on_lines m.inputs m.input_lines)) _ o
        (among_kept (λ (p : OnLine). is_none (line_in (on_lines m.inputs m.input_lines) p.name)) (on_lines m.clocks m.clock_lines) o a (ap is_none e))),
  )
  by_line (Some l) e = input_driver blif m (on_line l o.name) (listed_line (on_lines m.inputs m.input_lines) o.name l e)

as_driver : (blif : Blif) (m : BlifModel) (n : List ℕ) → (l : ℕ) × Among (drivers_in blif m) (on_line l n) → IsTouched blif m n
as_driver blif m n a = (a.0, inl a.1)

as_use : (blif : Blif) (m : BlifModel) (l : ℕ) (n : List ℕ) → Among (uses_in blif m) (on_line l n) → IsTouched blif m n
as_use blif m l n a = (l, inr a)

cover_touched : (blif : Blif) (m : BlifModel) (c : CoverLine) (n : List ℕ) → Among m.covers c → Among (cover_signals c) n → IsTouched blif m n
cover_touched blif m c n a b = elim (among_either c.inputs (c.output ∷ []) n b) [
  | inl input ↦
      as_use blif m c.line n (among_left _ _ (on_line c.line n) (among_left _ _ (on_line c.line n) (among_left _ _ (on_line c.line n)
      (flat_map_among (λ (c : CoverLine). map (on_line c.line) c.inputs) m.covers c (on_line c.line n) (a.0, a.1) (map_among (on_line c.line) c.inputs n input)))))
  | inr output ↦ by_place output.0 output.1
] where
  by_place : (i : ℕ) → At (c.output ∷ []) i n → IsTouched blif m n
  by_place zero e = subst (λ (x : List ℕ). IsTouched blif m x) (same_Some c.output n e) (as_driver blif m c.output (
    c.line,
    among_left _ _ (on_line c.line c.output) (among_left _ _ (on_line c.line c.output) (among_right (listed_inputs m) _ (on_line c.line c.output)
        (map_among (λ (c : CoverLine). on_line c.line c.output) m.covers c a))),
  ))
  by_place (suc i) e = absurd (at_none i n e)

latch_touched : (blif : Blif) (m : BlifModel) (c : LatchLine) (n : List ℕ) → Among m.latches c → Among (latch_signals c) n → IsTouched blif m n
latch_touched blif m c n a b = by_place b.0 b.1 where
  used : Among (c.input ∷ option_to_list c.control) n → IsTouched blif m n
  used u =
      as_use blif m c.line n (among_left _ _ (on_line c.line n) (among_left _ _ (on_line c.line n)
      (among_right (flat_map (λ (c : CoverLine). map (on_line c.line) c.inputs) m.covers) _ (on_line c.line n)
      (flat_map_among (λ (l : LatchLine). map (on_line l.line) (l.input ∷ option_to_list l.control)) m.latches c (on_line c.line n) (a.0, a.1) (map_among (on_line c.line) (c.input ∷ option_to_list c.control) n u)))))

  by_place : (i : ℕ) → At (latch_signals c) i n → IsTouched blif m n
  by_place zero e = used (0, e)
  by_place (suc zero) e = subst (λ (x : List ℕ). IsTouched blif m x) (same_Some c.output n e) (as_driver blif m c.output (
    c.line,
    among_left _ _ (on_line c.line c.output) (among_right (listed_inputs m ++ map (λ (c : CoverLine). on_line c.line c.output) m.covers) _ (on_line c.line c.output)
        (map_among (λ (l : LatchLine). on_line l.line l.output) m.latches c a)),
  ))
  by_place (suc (suc i)) e = used (suc i, e)

tie_touched : (blif : Blif) (m : BlifModel) (s : SubLine) (t : Tie) → Among m.subs s → Among s.ties t → (is_driving blif s t || is_reading blif s t) ≡ true → IsTouched blif m t.actual
tie_touched blif m s t a b tied = by_test (is_driving blif s t) refl tied where
  card : (test : SubLine → Tie → Bool) → test s t ≡ true → Among (flat_map (λ (s : SubLine). ties_on (test s) s) m.subs) (on_line s.line t.actual)
  card test e =
      flat_map_among (λ (s : SubLine). ties_on (test s) s) m.subs s (on_line s.line t.actual) (a.0, a.1)
      (map_among (λ (t : Tie). on_line s.line t.actual) (filter (test s) s.ties) t (among_kept (test s) s.ties t b e))

  by_test : (d : Bool) → is_driving blif s t ≡ d → (d || is_reading blif s t) ≡ true → IsTouched blif m t.actual
  by_test true e h = as_driver blif m t.actual (
    s.line,
    among_right (listed_inputs m ++ map (λ (c : CoverLine). on_line c.line c.output) m.covers ++ map (λ (l : LatchLine). on_line l.line l.output) m.latches) _ (on_line s.line t.actual)
        (card (is_driving blif) e),
  )
  by_test false e h =
      as_use blif m s.line t.actual (among_left _ _ (on_line s.line t.actual)
      (among_right (flat_map (λ (c : CoverLine). map (on_line c.line) c.inputs) m.covers ++ flat_map (λ (l : LatchLine). map (on_line l.line) (l.input ∷ option_to_list l.control)) m.latches) _ (on_line s.line t.actual)
      (card (is_reading blif) h)))

named_touched : (blif : Blif) (m : BlifModel) (n : List ℕ) → IsModel m → AllTied blif m → Among (named_in m) n → IsTouched blif m n
named_touched blif m n is tied a =
    elim (among_either _ _ n a) [
      | inr sub ↦
          let s = among_flat_map sub_signals m.subs n sub in
          let t = among_map (λ (t : Tie). t.actual) s.0.ties n s.2 in
          subst (λ (x : List ℕ). IsTouched blif m x) t.2 (tie_touched blif m s.0 t.0 s.1 t.1 (tied s.0 t.0 s.1 t.1))
      | inl b ↦ elim (among_either _ _ n b) [
        | inr latch ↦ let l = among_flat_map latch_signals m.latches n latch in latch_touched blif m l.0 n l.1 l.2
        | inl d ↦ elim (among_either _ _ n d) [
          | inr cover ↦ let c = among_flat_map cover_signals m.covers n cover in cover_touched blif m c.0 n c.1 c.2
          | inl e ↦ elim (among_either _ _ n e) [
            | inr output ↦
                let o = name_listed m.outputs m.output_lines n is.output_lines output in
                as_use blif m o.0 n (among_right (flat_map (λ (c : CoverLine). map (on_line c.line) c.inputs) m.covers
                ++ flat_map (λ (l : LatchLine). map (on_line l.line) (l.input ∷ option_to_list l.control)) m.latches
                ++ flat_map (λ (s : SubLine). ties_on (is_reading blif s) s) m.subs) (on_lines m.outputs m.output_lines) (on_line o.0 n) o.1)
            | inl f ↦ elim (among_either _ _ n f) [
              | inr clock ↦ let o = name_listed m.clocks m.clock_lines n is.clock_lines clock in as_driver blif m n (clock_driver blif m (on_line o.0 n) o.1)
              | inl input ↦ let o = name_listed m.inputs m.input_lines n is.input_lines input in as_driver blif m n (input_driver blif m (on_line o.0 n) o.1)
            ]
          ]
        ]
      ]
    ]

signal_touched : (blif : Blif) (m : BlifModel) (n : List ℕ) → IsModel m → AllTied blif m → has_name (signals_of m) n ≡ true → IsTouched blif m n
signal_touched blif m n is tied e =
    let there : has_name (named_in m) n ≡ true =
    sym (once_has_same (named_in m) n) ∙ ap (λ (ns : List (List ℕ)). has_name ns n) (sym (names_once (named_in m)) ∙ signals_once m) ∙ e in
    let x = any_among (bytes_eq n) (named_in m) there in
    named_touched blif m n is tied (subst (λ (y : List ℕ). Among (named_in m) y) (sym ((bytes_eq-Decides n x.0).0 x.2)) x.1)

-- ---- one driver

-- a line of a driver or use of a name
line_named : (list : List OnLine) (n : List ℕ) (l : ℕ) → list_any (λ (o : OnLine). o.line == l) (filter (λ (o : OnLine). bytes_eq o.name n) list) ≡ true → Among list (on_line l n)
line_named list n l e =
    let o = any_among (λ (o : OnLine). o.line == l) (filter (λ (o : OnLine). bytes_eq o.name n) list) e in
    let there = filter_among (λ (o : OnLine). bytes_eq o.name n) list o.0 o.1 in
    subst (λ (p : OnLine). Among list p) (ap₂ on_line (eqb-true o.0.line l o.2) ((bytes_eq-Decides o.0.name n).0 there.1)) there.0

clash : (b : Bool) → b ≡ true → b ≡ false → ⊥
clash true h e = cc
clash false h e = cc

not_two : (blif : Blif) (m : BlifModel) (n : List ℕ) → own_fault blif m ≡ None → 1 < length (drivers_of_name blif m n) → ⊥
not_two blif m n none two =
    let t = twice_there blif m n two in
    let o : Among (drivers_in blif m) (on_line t.0 n) = line_named (drivers_in blif m) n t.0 t.2 in
    clash (is_driven_twice_on blif m t.0 n) t.1
    (not_twice blif m t.0 n none (map_among (λ (o : OnLine). o.line) (drivers_in blif m ++ uses_in blif m) (on_line t.0 n) (among_left _ _ (on_line t.0 n) o)) (driver_named blif m (on_line t.0 n) o))

not_none : (blif : Blif) (m : BlifModel) (n : List ℕ) → own_fault blif m ≡ None → IsTouched blif m n → drivers_of_name blif m n ≡ [] → ⊥
not_none blif m n none touched empty = elim touched.1 [
  | inl driver ↦
      let some : 0 < length (drivers_of_name blif m n) =
      some_there (drivers_of_name blif m n) (on_line touched.0 n) (among_kept (λ (o : OnLine). bytes_eq o.name n) (drivers_in blif m) (on_line touched.0 n) driver ((bytes_eq-Decides n n).1 refl)) in
      let zero_long = ap (λ (xs : List OnLine). length xs) empty in
      absurd (omega (arith, some, zero_long))
  | inr used ↦
      let some : 0 < length (uses_of_name blif m n) =
      some_there (uses_of_name blif m n) (on_line touched.0 n) (among_kept (λ (o : OnLine). bytes_eq o.name n) (uses_in blif m) (on_line touched.0 n) used ((bytes_eq-Decides n n).1 refl)) in
      let t = undriven_there blif m n empty some in
      let o : Among (uses_in blif m) (on_line t.0 n) = line_named (uses_in blif m) n t.0 t.2 in
      clash (is_undriven_on blif m t.0 n) t.1
      (not_undriven blif m t.0 n none (map_among (λ (o : OnLine). o.line) (drivers_in blif m ++ uses_in blif m) (on_line t.0 n) (among_right (drivers_in blif m) (uses_in blif m) (on_line t.0 n) o)) (use_named blif m (on_line t.0 n) o))
]

one_of : {X : Type 0} (xs : List X) → (1 < length xs → ⊥) → (xs ≡ [] → ⊥) → length xs ≡ 1
one_of [] few some = absurd (some refl)
one_of (x ∷ []) few some = refl
one_of (x ∷ y ∷ xs) few some = absurd (few (omega arith))

by_names : (n : List ℕ) (list : List OnLine) → length (filter (bytes_eq n) (map (λ (o : OnLine). o.name) list)) ≡ length (filter (λ (o : OnLine). bytes_eq o.name n) list)
by_names n [] = refl
by_names n (o ∷ list) =
    ap (λ b. length (cond b (o.name ∷ filter (bytes_eq n) (map (λ (o : OnLine). o.name) list)) (filter (bytes_eq n) (map (λ (o : OnLine). o.name) list)))) (bytes_eq-sym n o.name)
    ∙ by_test (bytes_eq o.name n) (by_names n list) where
      by_test : (b : Bool) → length (filter (bytes_eq n) (map (λ (o : OnLine). o.name) list)) ≡ length (filter (λ (o : OnLine). bytes_eq o.name n) list)
          → length (cond b (o.name ∷ filter (bytes_eq n) (map (λ (o : OnLine). o.name) list)) (filter (bytes_eq n) (map (λ (o : OnLine). o.name) list)))
          ≡ length (cond b (o ∷ filter (λ (o : OnLine). bytes_eq o.name n) list) (filter (λ (o : OnLine). bytes_eq o.name n) list))
      by_test true e = ap suc e
      by_test false e = e

-- each signal of a model is driven once, and nothing else is driven
pub record IsDriven (blif : Blif) (m : BlifModel) : Type 0 where
  pub one : (n : List ℕ) → has_name (signals_of m) n ≡ true → length (filter (bytes_eq n) (map (λ (o : OnLine). o.name) (drivers_in blif m))) ≡ 1
  pub within : (n : List ℕ) → has_name (map (λ (o : OnLine). o.name) (drivers_in blif m)) n ≡ true → has_name (signals_of m) n ≡ true

pub is_driven : (blif : Blif) (m : BlifModel) → IsModel m → AllTied blif m → own_fault blif m ≡ None → IsDriven blif m
is_driven blif m is tied none = record {
  one = λ n e. by_names n (drivers_in blif m) ∙ one_of (drivers_of_name blif m n) (not_two blif m n none) (not_none blif m n none (signal_touched blif m n is tied e));
  within =
      λ n e.
      let x = any_among (bytes_eq n) (map (λ (o : OnLine). o.name) (drivers_in blif m)) e in
      let o = among_map (λ (o : OnLine). o.name) (drivers_in blif m) x.0 x.1 in
      subst (λ (y : List ℕ). has_name (signals_of m) y ≡ true) (o.2 ∙ sym ((bytes_eq-Decides n x.0).0 x.2)) (card_named m o.0.line o.0.name (driver_named blif m o.0 o.1));
}
