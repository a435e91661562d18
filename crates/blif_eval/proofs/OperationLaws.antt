-- The operations of the signals and elements, in their order, are at most those of the covers and one for each element.
use Rattle.std.proofs.Common.{◌≡◌, ℕ, zero, suc, ◌+◌, ◌*◌, ◌<◌, ◌≤◌, List, [], ◌∷◌, Option, Some, map, length, arith, ap, refl, sym, subst, ◌∙◌, inl, inr}
use Rattle.std.specs.Prelude.{slice_get, sum_by}
use Rattle.std.proofs.lemmas.Bool.{cases_eq, cases_lt}
use Rattle.std.proofs.lemmas.List.Sums.{sum_by-cons}
use Rattle.std.proofs.lemmas.Option.{none-some, same_Some}
use Rattle.vrt_model.proofs.Lists.{at_there, one_at}
use Rattle.blif_eval.proofs.Drivers.{among_times, test_one, test_other, times, times_more}
use Rattle.blif_eval.proofs.FoundDrivers.{driver_there}
use Rattle.blif_eval.proofs.LatchLaws.{names_few, part_ranges}
use Rattle.blif_eval.specs.Drivers.{AreDrivers, IsDriver, node_count}
use Rattle.blif_eval.specs.Operations.{driver_operations, number_operations, operations_of, weighed}
use Rattle.blif_eval.specs.Settled.{driver_at}
use Rattle.blif_eval.specs.declared.driver_table.Driver.{Driver}
use Rattle.blif_eval.specs.declared.driver_table.Driver.TheVariants.{Given, Covered, Stored, Element}
use Rattle.vrt_model.proofs.Members.{among_later}
use Rattle.vrt_model.specs.Budget.{literals_in, model_size}
use Rattle.vrt_model.specs.Elements.{element_names}
use Rattle.vrt_model.specs.FlatModels.{IsFlatModel}
use Rattle.vrt_model.specs.Lists.{At, Among}
use Rattle.vrt_model.specs.declared.flat_model.Cover.{Cover}
use Rattle.vrt_model.specs.declared.flat_model.FlatModel.{FlatModel}

-- ---- sums over places

-- the weight of the item at a place
abbrev at_place : {X : Type 0} → (X → ℕ) → List X → ℕ → ℕ
at_place weight xs n = weighed weight (slice_get xs n)

-- the places after the first, counted from the one after it
lowered : List ℕ → List ℕ
lowered [] = []
lowered (zero ∷ ps) = lowered ps
lowered (suc p ∷ ps) = p ∷ lowered ps

-- a weight at the first place
headed : ℕ → ℕ → ℕ
headed w zero = w
headed w (suc p) = 0

times_lowered : (n : ℕ) (ps : List ℕ) → times n (lowered ps) ≡ times (suc n) ps
unfolding lowered
times_lowered n [] = refl
times_lowered n (zero ∷ ps) =
    let rest = times_lowered n ps in
    let more = times_more (suc n) zero ps in
    let none = test_other (suc n) zero (λ e. omega (arith, e)) in
    omega (arith, rest, more, none)
times_lowered n (suc p ∷ ps) =
    let rest = times_lowered n ps in
    let here = times_more n p (lowered ps) in
    let there = times_more (suc n) (suc p) ps in
    elim (cases_eq p n) [
      | inl e ↦
          let one = test_one n p e in
          let two = test_one (suc n) (suc p) (ap suc e) in
          omega (arith, rest, here, there, one, two)
      | inr ne ↦
          let one = test_other n p ne in
          let two = test_other (suc n) (suc p) (λ e. ne (omega (arith, e))) in
          omega (arith, rest, here, there, one, two)
    ]

headed_none : (w : ℕ) (ps : List ℕ) → times 0 ps ≡ 0 → sum_by (headed w) ps ≡ 0
unfolding headed
headed_none w [] none = refl
headed_none w (zero ∷ ps) none =
    let more = times_more 0 zero ps in
    let one = test_one 0 zero refl in
    absurd (omega (arith, more, one, none))
headed_none w (suc p ∷ ps) none =
    let more = times_more 0 (suc p) ps in
    let rest = headed_none w ps (omega (arith, more, none)) in
    let sum = sum_by-cons (headed w) (suc p) ps in
    omega (arith, rest, sum)

headed_most : (w : ℕ) (ps : List ℕ) → times 0 ps ≤ 1 → sum_by (headed w) ps ≤ w
unfolding headed
headed_most w [] le = omega arith
headed_most w (zero ∷ ps) le =
    let more = times_more 0 zero ps in
    let one = test_one 0 zero refl in
    let rest = headed_none w ps (omega (arith, more, one, le)) in
    let sum = sum_by-cons (headed w) zero ps in
    omega (arith, rest, sum)
headed_most w (suc p ∷ ps) le =
    let more = times_more 0 (suc p) ps in
    let rest = headed_most w ps (omega (arith, more, le)) in
    let sum = sum_by-cons (headed w) (suc p) ps in
    omega (arith, rest, sum)

split_sum : {X : Type 0} (w : X → ℕ) (c : X) (cs : List X) (ps : List ℕ) → sum_by (at_place w (c ∷ cs)) ps ≡ sum_by (headed (w c)) ps + sum_by (at_place w cs) (lowered ps)
unfolding headed lowered
split_sum w c cs [] = omega arith
split_sum w c cs (zero ∷ ps) =
    let rest = split_sum w c cs ps in
    let whole = sum_by-cons (at_place w (c ∷ cs)) zero ps in
    let first = sum_by-cons (headed (w c)) zero ps in
    omega (arith, rest, whole, first)
split_sum w c cs (suc p ∷ ps) =
    let rest = split_sum w c cs ps in
    let whole = sum_by-cons (at_place w (c ∷ cs)) (suc p) ps in
    let first = sum_by-cons (headed (w c)) (suc p) ps in
    let later = sum_by-cons (at_place w cs) p (lowered ps) in
    omega (arith, rest, whole, first, later)

no_sum : {X : Type 0} (w : X → ℕ) (ps : List ℕ) → sum_by (at_place w []) ps ≡ 0
no_sum w [] = refl
no_sum w (p ∷ ps) = let rest = no_sum w ps in let sum = sum_by-cons (at_place w []) p ps in omega (arith, rest, sum)

-- places that are each taken at most once
places_most : {X : Type 0} (w : X → ℕ) (xs : List X) (ps : List ℕ) → ((n : ℕ) → n < length xs → times n ps ≤ 1) → sum_by (at_place w xs) ps ≤ sum_by w xs
places_most w [] ps once = let none = no_sum w ps in omega (arith, none)
places_most w (c ∷ cs) ps once =
    let parts = split_sum w c cs ps in
    let first = headed_most (w c) ps (once 0 (omega arith)) in
    let rest = places_most w cs (lowered ps) (λ n lt. let same = times_lowered n ps in let most = once (suc n) (omega (arith, lt)) in omega (arith, same, most)) in
    let sum = sum_by-cons w c cs in
    omega (arith, parts, first, rest, sum)

-- ---- the places of the signals

times_most : (xs : List ℕ) (n : ℕ) → ((i j : ℕ) → At xs i n → At xs j n → i ≡ j) → times n xs ≤ 1
times_most [] n once = omega arith
times_most (x ∷ xs) n once =
    let more = times_more n x xs in
    elim (cases_eq x n) [
      | inl e ↦
          let one = test_one n x e in
          elim (cases_lt 0 (times n xs)) [
            | inl some ↦
                let other = among_times n xs (omega (arith, some)) in
                absurd (let same = once 0 (suc other.0) (ap Some e) other.1 in omega (arith, same))
            | inr none ↦ omega (arith, more, one, none)
          ]
      | inr ne ↦
          let zero_here = test_other n x ne in
          let rest = times_most xs n (λ i j a b. let same = once (suc i) (suc j) a b in omega (arith, same)) in
          omega (arith, more, zero_here, rest)
    ]

at_of_map : (f : ℕ → ℕ) (xs : List ℕ) (i n : ℕ) → At (map f xs) i n → (s : ℕ) × At xs i s × (f s ≡ n)
at_of_map f [] i n e = absurd (none-some n e)
at_of_map f (x ∷ xs) zero n e = (x, refl, same_Some (f x) n e)
at_of_map f (x ∷ xs) (suc i) n e = at_of_map f xs i n e

sum_map : (g f : ℕ → ℕ) (xs : List ℕ) → sum_by g (map f xs) ≡ sum_by (λ x. g (f x)) xs
sum_map g f [] = refl
sum_map g f (x ∷ xs) =
    let rest = sum_map g f xs in
    let one = sum_by-cons g (f x) (map f xs) in
    let two = sum_by-cons (λ (y : ℕ). g (f y)) x xs in
    omega (arith, rest, one, two)

operations_most : (cs : List Cover) → sum_by operations_of cs ≤ 2 * sum_by (λ (c : Cover). sum_by literals_in c.rows + length c.rows) cs
operations_most [] = omega arith
operations_most (c ∷ cs) =
    let rest = operations_most cs in
    let one = sum_by-cons operations_of c cs in
    let two = sum_by-cons (λ (k : Cover). sum_by literals_in k.rows + length k.rows) c cs in
    omega (arith, rest, one, two)

-- sums item by item
sum_both : (f g h : ℕ → ℕ) (xs : List ℕ) → ((n : ℕ) → Among xs n → f n ≤ g n + h n) → sum_by f xs ≤ sum_by g xs + sum_by h xs
sum_both f g h [] each = omega arith
sum_both f g h (x ∷ xs) each =
    let rest = sum_both f g h xs (λ n m. each n (among_later x xs n m)) in
    let here = each x (0, refl) in
    let one = sum_by-cons f x xs in
    let two = sum_by-cons g x xs in
    let three = sum_by-cons h x xs in
    omega (arith, rest, here, one, two, three)

unit : {X : Type 0} → X → ℕ
unit x = 1

sum_units : {X : Type 0} (xs : List X) → sum_by unit xs ≡ length xs
unfolding unit
sum_units [] = refl
sum_units (x ∷ xs) = let rest = sum_units xs in let sum = sum_by-cons unit x xs in omega (arith, rest, sum)

-- the place of a cover, and that of an element, where a driver is one
cover_place : ℕ → Driver → ℕ
cover_place none Given = none
cover_place none (Covered place) = place
cover_place none (Stored number) = none
cover_place none (Element storage) = none

element_place : ℕ → Driver → ℕ
element_place none Given = none
element_place none (Covered place) = none
element_place none (Stored number) = none
element_place none (Element storage) = storage.element

module _ (flat : FlatModel) (model : IsFlatModel flat) (drivers : List Driver) (are : AreDrivers flat drivers) (steps : List ℕ)
    (low : (n : ℕ) → Among steps n → n < node_count flat) (once : (i j s : ℕ) → At steps i s → At steps j s → i ≡ j) where
  cover_of : ℕ → ℕ
  cover_of n = cover_place (length flat.covers) (driver_at drivers n)

  element_of : ℕ → ℕ
  element_of n = element_place (length (element_names flat)) (driver_at drivers n)

  -- the driver of a step
  driver_of : (n : ℕ) → Among steps n → IsDriver flat n (driver_at drivers n)
  driver_of n m = are.each n (driver_at drivers n) (driver_there flat model drivers are n (low n m))

  cover_output : (n place : ℕ) (c : Cover) (d : Driver) → IsDriver flat n d → cover_place (length flat.covers) d ≡ place → place < length flat.covers → At flat.covers place c → c.output ≡ n
  unfolding cover_place
  cover_output n place c Given is e lt at = absurd (omega (arith, e, lt))
  cover_output n place c (Covered p) is e lt at = ap (λ (x : Cover). x.output) (one_at flat.covers place c is.0 at (subst (λ (k : ℕ). At flat.covers k is.0) e is.1)) ∙ is.2
  cover_output n place c (Stored number) is e lt at = absurd (omega (arith, e, lt))
  cover_output n place c (Element s) is e lt at = absurd (omega (arith, e, lt))

  element_number : (n e : ℕ) (d : Driver) → IsDriver flat n d → element_place (length (element_names flat)) d ≡ e → e < length (element_names flat) → n ≡ length flat.signals + e
  unfolding element_place
  element_number n e Given is place lt = absurd (omega (arith, place, lt))
  element_number n e (Covered p) is place lt = absurd (omega (arith, place, lt))
  element_number n e (Stored number) is place lt = absurd (omega (arith, place, lt))
  element_number n e (Element s) is place lt = sym is.2 ∙ (is.3.place ∙ ap (λ (k : ℕ). length flat.signals + k) place)

  -- places of steps that say which step they are of are each taken once
  once_by : (f : ℕ → ℕ) (n : ℕ) (is : ℕ) → ((s : ℕ) → Among steps s → f s ≡ n → is ≡ s) → times n (map f steps) ≤ 1
  once_by f n is says = times_most (map f steps) n (λ i j a b.
      let s = at_of_map f steps i n a in
      let t = at_of_map f steps j n b in
      let one = says s.0 (i, s.1) s.2 in
      let two = says t.0 (j, t.1) t.2 in
      once i j is (subst (At steps i) (sym one) s.1) (subst (At steps j) (sym two) t.1))

  covers_once : (n : ℕ) → n < length flat.covers → times n (map cover_of steps) ≤ 1
  unfolding cover_of
  covers_once n lt =
      let c = at_there flat.covers n lt in
      once_by cover_of n c.0.output (λ s m e. cover_output s n c.0 (driver_at drivers s) (driver_of s m) e lt c.1)

  elements_once : (n : ℕ) → n < length (element_names flat) → times n (map element_of steps) ≤ 1
  unfolding element_of
  elements_once n lt = once_by element_of n (length flat.signals + n) (λ s m e. sym (element_number s n (driver_at drivers s) (driver_of s m) e lt))

  parts_of_driver : (n : ℕ) (d : Driver) → IsDriver flat n d
      → driver_operations flat.covers d ≤ at_place operations_of flat.covers (cover_place (length flat.covers) d) + at_place unit (element_names flat) (element_place (length (element_names flat)) d)
  unfolding cover_place element_place unit
  parts_of_driver n Given is = omega arith
  parts_of_driver n (Covered p) is = omega arith
  parts_of_driver n (Stored number) is = omega arith
  parts_of_driver n (Element s) is =
      let r = part_ranges flat model is.0 is.1 in
      let same : s.element ≡ r.element = (let one = is.3.place in let two = r.number in omega (arith, one, two)) in
      let name = at_there (element_names flat) s.element (let below = r.below in omega (arith, same, below)) in
      let here : at_place unit (element_names flat) s.element ≡ 1 = ap (λ (o : Option (List ℕ)). weighed unit o) name.1 in
      omega (arith, here)

  pub numbers_most : sum_by (number_operations flat drivers) steps ≤ 2 * model_size flat
  unfolding cover_of element_of
  numbers_most =
      let both = sum_both (number_operations flat drivers) (λ n. at_place operations_of flat.covers (cover_of n)) (λ n. at_place unit (element_names flat) (element_of n)) steps
      (λ n m. parts_of_driver n (driver_at drivers n) (driver_of n m)) in
      let covers_over = sum_map (at_place operations_of flat.covers) cover_of steps in
      let elements_over = sum_map (at_place unit (element_names flat)) element_of steps in
      let covers_few = places_most operations_of flat.covers (map cover_of steps) covers_once in
      let elements_few = places_most unit (element_names flat) (map element_of steps) elements_once in
      let units = sum_units (element_names flat) in
      let names = names_few flat in
      let most = operations_most flat.covers in
      omega (arith, both, covers_over, elements_over, covers_few, elements_few, units, names, most)
