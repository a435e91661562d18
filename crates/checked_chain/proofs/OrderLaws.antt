-- No chosen instance is inside a chosen one, and nothing inside an instance is left out before its turn.
use Rattle.std.proofs.Common.{◌≡◌, ℕ, zero, suc, ◌<◌, ◌≤◌, ◌&&◌, Bool, true, false, length, arith, subst, sym, refl, ◌∙◌, ap, inl, inr}
use Rattle.std.specs.Prelude.{nat_lt}
use Rattle.std.proofs.lemmas.Bool.{and_from, and_parts, and_right, cases_Bool, cases_lt, false_from_ne_true, false≢true, or_from}
use Rattle.std.proofs.lemmas.Bool.Decides.{nat_tests}
use Rattle.checked_chain.proofs.ChoiceLaws.{any_within, numbered_at}
use Rattle.checked_chain.proofs.PathOrder.{ends_compared, ends_inside, inside_ends, names_at, not_before}
use Rattle.checked_chain.specs.Order.{ChosenAreApart, NothingIsLeftOutInside, NothingIsWholeInside, OuterComesFirst}
use Rattle.vrt_model.proofs.Lists.{one_at}
use Rattle.vrt_model.proofs.Members.{among_any, any_among}
use Rattle.vrt_model.specs.Checked.{before}
use Rattle.vrt_model.specs.Cut.{NumberedPlace, is_inside, is_inside_whole, is_whole, numbered_places}
use Rattle.vrt_model.specs.Lists.{At, Among}
use Rattle.vrt_model.specs.Unrolled.{Place, all_places}

pub outer_comes_first : OuterComesFirst
outer_comes_first t i j inner outer is here there e =
    let h = ends_inside inner outer e in
    let le = not_before t is i j inner outer here there h.1 in
    elim (cases_lt j i) [ inl lt ↦ lt | inr ge ↦ absurd (let is_one : i ≡ j = omega (arith, le, ge) in one is_one h.0) ]
  where
    one : i ≡ j → length (names_at outer) < length (names_at inner) → ⊥
    one same lt =
        let p = one_at (all_places t) j inner outer (subst (λ (k : ℕ). At (all_places t) k inner) same here) there in
        let long = ap (λ (at : Place). length (names_at at)) p in
        omega (arith, lt, long)

-- ---- instances before a place

-- of those before it the choice is kept
kept_before : (choice : ℕ → Bool) (i n : ℕ) → n < suc i → is_whole choice n ≡ is_whole (λ j. choice j && nat_lt j i) n
kept_before choice i zero lt = refl
kept_before choice i (suc k) lt =
    let low : nat_lt k i ≡ true = grind (arith, nat_tests, lt) in sym (ap (λ (b : Bool). choice k && b) low ∙ and_true (choice k))
  where
    and_true : (b : Bool) → (b && true) ≡ b
    and_true true = refl
    and_true false = refl

-- and none behind it is whole
none_behind : (choice : ℕ → Bool) (i n : ℕ) → suc i ≤ n → is_whole (λ j. choice j && nat_lt j i) n ≡ false
none_behind choice i zero le = refl
none_behind choice i (suc k) le = let high : nat_lt k i ≡ false = grind (arith, nat_tests, le) in and_right (choice k) (nat_lt k i) high

pub chosen_are_apart : ChosenAreApart
chosen_are_apart cut blif facts i p is choice here chosen = same ∙ ((choice i p here).0 chosen).0
  where
    each : (o : NumberedPlace) → Among (numbered_places cut.top) o → (is_whole cut.choice o.number && is_inside p.at o.at) ≡ (is_whole (before cut i).choice o.number && is_inside p.at o.at)
    each o m =
        elim (cases_Bool (is_inside p.at o.at)) [
          | inl e ↦ (
              let at = numbered_at cut.top m.0 o m.1 in
              let own = numbered_at cut.top (suc i) p here in
              let lt = outer_comes_first cut.top (suc i) m.0 p.at o.at is own.1 at.1 e in
              ap (λ (b : Bool). b && is_inside p.at o.at) (kept_before cut.choice i o.number (subst (λ (n : ℕ). n < suc i) (sym at.0) lt)))
          | inr e ↦ and_right (is_whole cut.choice o.number) (is_inside p.at o.at) e ∙ sym (and_right (is_whole (before cut i).choice o.number) (is_inside p.at o.at) e)
        ]

    same : is_inside_whole cut p.at ≡ is_inside_whole (before cut i) p.at
    same =
        any_within (λ (o : NumberedPlace). is_whole cut.choice o.number && is_inside p.at o.at) (λ (o : NumberedPlace). is_whole (before cut i).choice o.number && is_inside p.at o.at) (numbered_places cut.top) each

pub nothing_is_whole_inside : NothingIsWholeInside
nothing_is_whole_inside cut i p q is here m e =
    let at = numbered_at cut.top m.0 q m.1 in
    let own = numbered_at cut.top (suc i) p here in
    let lt = outer_comes_first cut.top m.0 (suc i) q.at p.at is at.1 own.1 e in
    let number = at.0 in
    none_behind cut.choice i q.number (omega (arith, lt, number))

pub nothing_is_left_out_inside : NothingIsLeftOutInside
nothing_is_left_out_inside cut i p is here free = (
  or_from (is_whole (before cut i).choice p.number) (is_inside_whole (before cut i) p.at) (none_behind cut.choice i p.number (let number = own.0 in omega (arith, number))) free,
  λ q m e. or_from (is_whole (before cut i).choice q.number) (is_inside_whole (before cut i) q.at) (nothing_is_whole_inside cut i p q is here m e)
      (false_from_ne_true (is_inside_whole (before cut i) q.at) (λ inside. around q e (any_among (λ (o : NumberedPlace). is_whole (before cut i).choice o.number && is_inside q.at o.at) (numbered_places cut.top) inside))),
)
  where
    own : (p.number ≡ suc i) × At (all_places cut.top) (suc i) p.at
    own = numbered_at cut.top (suc i) p here

    -- a whole instance around it would be around p or stand behind it
    around : (q : NumberedPlace) → is_inside q.at p.at ≡ true
        → (o : NumberedPlace) × Among (numbered_places cut.top) o × ((is_whole (before cut i).choice o.number && is_inside q.at o.at) ≡ true) → ⊥
    around q e w =
        let both = and_parts (is_whole (before cut i).choice w.0.number) (is_inside q.at w.0.at) w.2 in
        let mine = ends_inside q.at p.at e in
        let whole = ends_inside q.at w.0.at both.1 in
        elim (cases_lt (length (names_at w.0.at)) (length (names_at p.at))) [
          | inl lt ↦ (
              let ends = ends_compared (names_at q.at) (names_at p.at) (names_at w.0.at) mine.1 whole.1 (omega (arith, lt)) in
              let inside = inside_ends p.at w.0.at lt ends in
              false≢true (sym free ∙ among_any (λ (o : NumberedPlace). is_whole (before cut i).choice o.number && is_inside p.at o.at) (numbered_places cut.top) w.0 w.1
              (and_from (is_whole (before cut i).choice w.0.number) (is_inside p.at w.0.at) both.0 inside)))
          | inr le ↦ (
              let ends = ends_compared (names_at q.at) (names_at w.0.at) (names_at p.at) whole.1 mine.1 le in
              let at = numbered_at cut.top w.1.0 w.0 w.1.1 in
              let late = not_before cut.top is w.1.0 (suc i) w.0.at p.at at.1 own.1 ends in
              let number = at.0 in
              false≢true (sym (none_behind cut.choice i w.0.number (omega (arith, late, number))) ∙ both.0))
        ]
