-- The places inside instances that are left whole, by the places around them.
use Rattle.std.proofs.Common.{◌≡◌, ℕ, zero, suc, ◌+◌, ◌-◌, ◌<◌, ◌≤◌, ◌&&◌, ◌||◌, ◌++◌, Bool, true, false, not, List, [], ◌∷◌, length, map, drop, arith, subst, sym, refl, ◌∙◌, ap, ap₂, inl, inr, length-append}
use Rattle.std.specs.Prelude.{◌==◌, nat_lt}
use Rattle.std.proofs.lemmas.Bool.{and_from, and_parts, cases_lt, eq-eqb, eqb-true, false_from_ne_true, or_cases, or_left, or_right}
use Rattle.std.proofs.lemmas.Bool.Decides.{nat_tests}
use Rattle.std.proofs.lemmas.Option.{same_Some}
use Rattle.checked_chain.proofs.ChoiceLaws.{numbered_at}
use Rattle.checked_chain.proofs.PathOrder.{EndsWith, Names, dropped_twice, ends_compared, ends_inside, inside_ends, names_at, not_before, path_names}
use Rattle.net_places.specs.Links.{Bare, bare, shown, step_of}
use Rattle.net_places.specs.declared.places.Place.{Place}
use Rattle.net_places.specs.declared.whole.Unrolled.{Unrolled}
use Rattle.whole_circuits.proofs.ListLaws.{place_numbered}
use Rattle.whole_circuits.specs.Insides.{AreInsideMarks, AreMarkedBefore, IsCutAt, is_within}
use Rattle.vrt_model.proofs.Lists.{map_at, one_at}
use Rattle.vrt_model.proofs.Members.{among_any, any_among}
use Rattle.vrt_model.proofs.Tests.{same_tests}
use Rattle.vrt_model.specs.Cut.{Cut, NumberedPlace, is_inside, is_inside_whole, is_whole, numbered_places}
use Rattle.vrt_model.specs.Inputs.{IsDesign}
use Rattle.vrt_model.specs.Lists.{At, mark_at}
use Rattle.vrt_model.specs.Unrolled.{Place as FlatPlace, Step, Top, all_places, deepest, places_in, top_place}

-- ---- paths

-- one path ends with another that ends with a third
through_ends : (inner middle outer : Names) → EndsWith inner middle → EndsWith middle outer → EndsWith inner outer
through_ends inner middle outer a b =
    let x = a.long in
    let y = b.long in
    let far : length inner - length outer ≡ (length inner - length middle) + (length middle - length outer) = omega (arith, x, y) in
    record {
      long = omega (arith, x, y);
      same =
          ap (λ (k : ℕ). drop k inner) far ∙ sym (dropped_twice (length middle - length outer) (length inner - length middle) inner)
          ∙ ap (λ (ns : Names). drop (length middle - length outer) ns) a.same ∙ b.same;
    }

-- a path ends with one that is as long alone where it is the same
as_long : (a b : Names) → EndsWith a b → length a ≤ length b → a ≡ b
as_long a b ends le =
    let long = ends.long in
    let none : 0 ≡ length a - length b = omega (arith, long, le) in
    ap (λ (k : ℕ). drop k a) none ∙ ends.same

itself : (a : Names) → EndsWith a a
itself a = let none : length a - length a ≡ 0 = omega arith in record { long = omega arith; same = ap (λ (k : ℕ). drop k a) none }

behind : (n : List ℕ) (ns : Names) → EndsWith (n ∷ ns) ns
behind n ns = let one : length (n ∷ ns) - length ns ≡ 1 = omega arith in record { long = omega arith; same = ap (λ (k : ℕ). drop k (n ∷ ns)) one }

-- ---- the place around a place

module _ (cut : Cut) (is : IsDesign cut.top.design) (a i : ℕ) (outer at : FlatPlace) (step : Step) (around : At (all_places cut.top) a outer) (here : At (all_places cut.top) i at)
    (path : at.path ≡ step ∷ outer.path) where
  ends : EndsWith (names_at at) (names_at outer)
  ends = subst (λ (steps : List Step). EndsWith (path_names steps) (names_at outer)) (sym path) (behind step.instance (names_at outer))

  longer : length (names_at at) ≡ suc (length (names_at outer))
  longer = ap (λ (steps : List Step). length (path_names steps)) path

  abbrev whole_around : FlatPlace → NumberedPlace → Bool
  whole_around inner o = is_whole cut.choice o.number && is_inside inner o.at

  inside_to : is_inside_whole cut at ≡ true → (is_whole cut.choice a || is_inside_whole cut outer) ≡ true
  inside_to e =
      let w = any_among (whole_around at) (numbered_places cut.top) e in
      let both = and_parts (is_whole cut.choice w.0.number) (is_inside at w.0.at) w.2 in
      let inner = ends_inside at w.0.at both.1 in
      let lt = inner.0 in
      let long = longer in
      let further = ends_compared (names_at at) (names_at outer) (names_at w.0.at) ends inner.1 (omega (arith, lt, long)) in
      elim (cases_lt (length (names_at w.0.at)) (length (names_at outer))) [
        | inl less ↦ or_right (is_whole cut.choice a) (is_inside_whole cut outer)
            (among_any (whole_around outer) (numbered_places cut.top) w.0 w.1 (and_from (is_whole cut.choice w.0.number) (is_inside outer w.0.at) both.0 (inside_ends outer w.0.at less further)))
        | inr same ↦ (
            let number = numbered_at cut.top w.1.0 w.0 w.1.1 in
            let one = as_long (names_at outer) (names_at w.0.at) further same in
            let le = not_before cut.top is a w.1.0 outer w.0.at around number.1 further in
            let ge = not_before cut.top is w.1.0 a w.0.at outer number.1 around (subst (λ (ns : Names). EndsWith ns (names_at outer)) one (itself (names_at outer))) in
            let own = number.0 in
            let place : w.0.number ≡ a = omega (arith, le, ge, own) in
            or_left (is_whole cut.choice a) (is_inside_whole cut outer) (ap (is_whole cut.choice) (sym place) ∙ both.0))
      ]

  inside_from : (is_whole cut.choice a || is_inside_whole cut outer) ≡ true → is_inside_whole cut at ≡ true
  inside_from e =
      elim (or_cases (is_whole cut.choice a) (is_inside_whole cut outer) e) [
        | inl whole ↦ among_any (whole_around at) (numbered_places cut.top) (record { number = a; at = outer }) (a, place_numbered cut.top a outer around)
            (and_from (is_whole cut.choice a) (is_inside at outer) whole (inside_ends at outer (let long = longer in omega (arith, long)) ends))
        | inr inside ↦ (
            let w = any_among (whole_around outer) (numbered_places cut.top) inside in
            let both = and_parts (is_whole cut.choice w.0.number) (is_inside outer w.0.at) w.2 in
            let inner = ends_inside outer w.0.at both.1 in
            let lt = inner.0 in
            let long = longer in
            among_any (whole_around at) (numbered_places cut.top) w.0 w.1
            (and_from (is_whole cut.choice w.0.number) (is_inside at w.0.at) both.0
            (inside_ends at w.0.at (omega (arith, lt, long)) (through_ends (names_at at) (names_at outer) (names_at w.0.at) ends inner.1))))
      ]

  pub inside_around : is_inside_whole cut at ≡ (is_whole cut.choice a || is_inside_whole cut outer)
  inside_around = same_tests (is_inside_whole cut at) (is_whole cut.choice a || is_inside_whole cut outer) inside_to inside_from

-- the checked cell is inside nothing
outermost : (cut : Cut) (at : FlatPlace) → length at.path ≡ 0 → is_inside_whole cut at ≡ false
outermost cut at none =
    false_from_ne_true (is_inside_whole cut at) (λ e.
    let w = any_among (λ (o : NumberedPlace). is_whole cut.choice o.number && is_inside at o.at) (numbered_places cut.top) e in
    let inside = and_right_of (is_whole cut.choice w.0.number) (is_inside at w.0.at) w.2 in
    let short = and_left_of (nat_lt (length w.0.at.path) (length at.path)) _ inside in
    no_less (length w.0.at.path) (length at.path) none short)
  where
    and_right_of : (p q : Bool) → (p && q) ≡ true → q ≡ true
    and_right_of p q e = (and_parts p q e).1

    and_left_of : (p q : Bool) → (p && q) ≡ true → p ≡ true
    and_left_of p q e = (and_parts p q e).0

    no_less : (m n : ℕ) → n ≡ 0 → nat_lt m n ≡ true → ⊥
    no_less m n none test = let lt : m < n = grind (arith, nat_tests, test) in omega (arith, none, lt)

-- ---- place by place

first_is : (t : Top) (depth : ℕ) (at q : FlatPlace) → At (places_in t depth at) 0 q → at ≡ q
first_is t zero at q e = same_Some at q e
first_is t (suc depth) at q e = same_Some at q e

top_is_first : (t : Top) (q : FlatPlace) → At (all_places t) 0 q → length q.path ≡ 0
unfolding all_places
top_is_first t q e = ap (λ (p : FlatPlace). length p.path) (sym (first_is t deepest (top_place t) q e))

module _ (cut : Cut) (unrolled : Unrolled) (whole : List Bool) (is : IsCutAt cut unrolled whole) where
  shows : (i : ℕ) (p : Place) (at : FlatPlace) → At unrolled.places i p → At (all_places cut.top) i at → shown p ≡ bare at
  shows i p at here there =
      one_at (map bare (all_places cut.top)) i (shown p) (bare at)
      (subst (λ (bs : List Bare). At bs i (shown p)) is.unrolled_is.places_are (map_at shown unrolled.places i p here)) (map_at bare (all_places cut.top) i at there)

  within_is : (i : ℕ) (p : Place) (at : FlatPlace) (inside : List Bool) → At unrolled.places i p → At (all_places cut.top) i at → length inside ≡ i → AreInsideMarks cut inside
      → is_within whole inside p ≡ is_inside_whole cut at
  within_is zero p at inside here there long are =
      let none = top_is_first cut.top at there in
      let depth : p.depth ≡ 0 = ap (λ (b : Bare). b.depth) (shows 0 p at here there) ∙ none in
      ap (λ (b : Bool). not b && (mark_at whole p.around || mark_at inside p.around)) (eq-eqb p.depth 0 depth) ∙ sym (outermost cut at none)
  within_is (suc i) p at inside here there long are =
      let n = is.unrolled_is.nested i p at here there in
      let before = n.2.before in
      let deep : p.depth ≡ suc (length n.0.path) = ap (λ (b : Bare). b.depth) (shows (suc i) p at here there) ∙ ap (λ (steps : List Step). length steps) n.2.path in
      let test : (p.depth == 0) ≡ false = false_from_ne_true (p.depth == 0) (λ e. let zero_depth = eqb-true p.depth 0 e in omega (arith, deep, zero_depth)) in
      ap (λ (b : Bool). not b && (mark_at whole p.around || mark_at inside p.around)) test
      ∙ ap₂ (λ (x y : Bool). x || y) (is.marks p.around) (are p.around n.0 (omega (arith, before, long)) n.2.around)
      ∙ sym (inside_around cut is.netlist p.around (suc i) n.0 at (step_of cut.top n.0 n.1) n.2.around there n.2.path)

  -- one mark more
  inside_more : (i : ℕ) (p : Place) (inside : List Bool) → At unrolled.places i p → length inside ≡ i → AreInsideMarks cut inside
      → AreInsideMarks cut (inside ++ is_within whole inside p ∷ [])
  inside_more i p inside here long are n at lt there =
      let count = length-append inside (is_within whole inside p ∷ []) in
      elim (cases_lt n (length inside)) [
        | inl low ↦ mark_front inside (is_within whole inside p ∷ []) n low ∙ are n at low there
        | inr high ↦ (
            let last : n ≡ i = omega (arith, lt, count, high, long) in
            let end : n ≡ length inside = omega (arith, last, long) in
            ap (mark_at (inside ++ is_within whole inside p ∷ [])) end ∙ mark_last inside (is_within whole inside p)
            ∙ within_is i p at inside here (subst (λ (k : ℕ). At (all_places cut.top) k at) last there) long are)
      ]
    where
      mark_front : (xs ys : List Bool) (k : ℕ) → k < length xs → mark_at (xs ++ ys) k ≡ mark_at xs k
      mark_front [] ys k less = absurd (omega (arith, less))
      mark_front (x ∷ xs) ys zero less = refl
      mark_front (x ∷ xs) ys (suc k) less = mark_front xs ys k (omega (arith, less))

      mark_last : (xs : List Bool) (b : Bool) → mark_at (xs ++ b ∷ []) (length xs) ≡ b
      mark_last [] b = refl
      mark_last (x ∷ xs) b = mark_last xs b

  -- one place more
  pub marked_more : (i : ℕ) (p : Place) (old new : List Bool) → At unrolled.places i p → AreMarkedBefore cut i old → new ≡ old ++ is_within whole old p ∷ [] → AreMarkedBefore cut (i + 1) new
  marked_more i p old new here marked grown =
      let count = ap (λ (marks : List Bool). length marks) grown in
      let sum = length-append old (is_within whole old p ∷ []) in
      let long = marked.count in
      record { count = omega (arith, count, sum, long); are = subst (AreInsideMarks cut) (sym grown) (inside_more i p old here long marked.are) }
