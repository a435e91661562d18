-- Names that stand once, and those of them that are not tied.
use Rattle.std.proofs.Common.{◌≡◌, ◌+◌, ◌++◌, ◌∷◌, ◌||◌, [], ℕ, suc, not, List, Bool, true, false, cond, filter, length, Some, None, Option, refl, ap, ap₂, sym, ◌∙◌, arith}
use Rattle.std.specs.Prelude.{bytes_eq}
use Rattle.std.proofs.lemmas.Bool.{or_left, or_parts}
use Rattle.std.proofs.lemmas.List.Folds.{list_any-append}
use Rattle.std.proofs.lemmas.Slice.Eq.{bytes_eq-Decides}
use Rattle.vrt_model.proofs.Tests.{bytes_eq-sym}
use Rattle.names.specs.Names.{with_names}
use Rattle.vrt_model.specs.Lists.{has_name}
use Rattle.names.proofs.ApartLaws.{NoRepeat, once_apart}
use Rattle.names.proofs.FilterLaws.{filter_new}
use Rattle.names.proofs.NameLaws.{names_once, once_has_same}
use Rattle.vrt_model.specs.FlatBlif.{signals_of}
use Rattle.vrt_model.specs.Models.{bad_formal_after, interface_of}
use Rattle.vrt_model.specs.declared.blif.BlifModel.{BlifModel}
use Rattle.blif_checks.specs.Signals.{named_in}

-- the signals of a model, as a table of names has them
pub signals_once : (m : BlifModel) → with_names [] (named_in m) ≡ signals_of m
unfolding signals_of
signals_once m = names_once (named_in m)

-- ---- names that do not repeat

pub signals_apart : (m : BlifModel) → NoRepeat (signals_of m)
unfolding signals_of
signals_apart m = once_apart (named_in m)

-- ---- formals that fit

pub fits : (b : Bool) (f : List ℕ) (o : Option (List ℕ)) → cond b (Some f) o ≡ None → (b ≡ false) × (o ≡ None)
fits true f o e = cc
fits false f o e = (refl, e)

not_seen : (signals seen gs : List (List ℕ)) (f : List ℕ) → bad_formal_after signals seen gs ≡ None → has_name seen f ≡ true → has_name gs f ≡ false
not_seen signals seen [] f e h = refl
not_seen signals seen (g ∷ gs) f e h = by_test (bytes_eq f g) refl (not_seen signals (g ∷ seen) gs f both.1) where
  both : ((not (has_name signals g) || has_name seen g) ≡ false) × (bad_formal_after signals (g ∷ seen) gs ≡ None)
  both = fits (not (has_name signals g) || has_name seen g) g (bad_formal_after signals (g ∷ seen) gs) e

  new : has_name seen g ≡ false
  new = (or_parts (not (has_name signals g)) (has_name seen g) both.0).1

  by_test : (b : Bool) → bytes_eq f g ≡ b → (has_name (g ∷ seen) f ≡ true → has_name gs f ≡ false) → (bytes_eq f g || has_name gs f) ≡ false
  by_test true s rest = let clash : true ≡ false = sym h ∙ ap (has_name seen) ((bytes_eq-Decides f g).0 s) ∙ new in cc
  by_test false s rest = ap (λ (b : Bool). b || has_name gs f) s ∙ rest (ap (λ (b : Bool). b || has_name seen f) s ∙ h)

-- formals that fit do not repeat
pub formals_apart : (signals seen fs : List (List ℕ)) → bad_formal_after signals seen fs ≡ None → NoRepeat fs
formals_apart signals seen [] e = tt
formals_apart signals seen (f ∷ fs) e =
    let both = fits (not (has_name signals f) || has_name seen f) f (bad_formal_after signals (f ∷ seen) fs) e in (
      not_seen signals (f ∷ seen) fs f both.1 (ap (λ (b : Bool). b || has_name seen f) ((bytes_eq-Decides f f).1 refl)),
      formals_apart signals (f ∷ seen) fs both.1,
    )

not_there : (gs xs : List (List ℕ)) (f : List ℕ) → has_name xs f ≡ false
    → filter (λ n. not (bytes_eq n f || has_name gs n)) xs ≡ filter (λ n. not (has_name gs n)) xs
not_there gs [] f e = refl
not_there gs (x ∷ xs) f e =
    ap₂ (λ (b : Bool) (rest : List (List ℕ)). cond (not (b || has_name gs x)) (x ∷ rest) rest) (bytes_eq-sym x f ∙ (or_parts (bytes_eq f x) (has_name xs f) e).0)
    (not_there gs xs f (or_parts (bytes_eq f x) (has_name xs f) e).1)
    ∙ refl

-- a name that stands once, left out
one_out : (gs xs : List (List ℕ)) (f : List ℕ) → NoRepeat xs → has_name xs f ≡ true → has_name gs f ≡ false
    → suc (length (filter (λ n. not (bytes_eq n f || has_name gs n)) xs)) ≡ length (filter (λ n. not (has_name gs n)) xs)
one_out gs [] f n e g = cc
one_out gs (x ∷ xs) f n e g = by_test (bytes_eq x f) refl (one_out gs xs f n.1) where
  choose : (c : Bool) → suc (length (filter (λ n. not (bytes_eq n f || has_name gs n)) xs)) ≡ length (filter (λ n. not (has_name gs n)) xs)
      → suc (length (cond (not c) (x ∷ filter (λ n. not (bytes_eq n f || has_name gs n)) xs) (filter (λ n. not (bytes_eq n f || has_name gs n)) xs)))
      ≡ length (cond (not c) (x ∷ filter (λ n. not (has_name gs n)) xs) (filter (λ n. not (has_name gs n)) xs))
  choose true e = e
  choose false e = ap suc e

  by_test : (b : Bool) → bytes_eq x f ≡ b
      → (has_name xs f ≡ true → has_name gs f ≡ false → suc (length (filter (λ n. not (bytes_eq n f || has_name gs n)) xs)) ≡ length (filter (λ n. not (has_name gs n)) xs))
      → suc (length (filter (λ n. not (bytes_eq n f || has_name gs n)) (x ∷ xs))) ≡ length (filter (λ n. not (has_name gs n)) (x ∷ xs))
  by_test true s rest =
      let same : x ≡ f = (bytes_eq-Decides x f).0 s in
      let behind : has_name xs f ≡ false = ap (has_name xs) (sym same) ∙ n.0 in
      let out : has_name gs x ≡ false = ap (has_name gs) same ∙ g in
      ap (λ (b : Bool). suc (length (cond (not (b || has_name gs x)) (x ∷ filter (λ n. not (bytes_eq n f || has_name gs n)) xs) (filter (λ n. not (bytes_eq n f || has_name gs n)) xs)))) s
      ∙ ap (λ (ys : List (List ℕ)). suc (length ys)) (not_there gs xs f behind)
      ∙ sym (ap (λ (b : Bool). length (cond (not b) (x ∷ filter (λ n. not (has_name gs n)) xs) (filter (λ n. not (has_name gs n)) xs))) out)
  by_test false s rest =
      let there : has_name xs f ≡ true = sym (ap (λ (b : Bool). b || has_name xs f) (bytes_eq-sym f x ∙ s)) ∙ e in
      ap (λ (b : Bool). suc (length (cond (not (b || has_name gs x)) (x ∷ filter (λ n. not (bytes_eq n f || has_name gs n)) xs) (filter (λ n. not (bytes_eq n f || has_name gs n)) xs)))) s
      ∙ choose (has_name gs x) (rest there g)

-- how many names are left where formals that fit are tied
pub left_untied : (signals seen fs xs : List (List ℕ)) → NoRepeat xs → ((n : List ℕ) → has_name signals n ≡ true → has_name xs n ≡ true) → bad_formal_after signals seen fs ≡ None
    → length (filter (λ n. not (has_name fs n)) xs) + length fs ≡ length xs
left_untied signals seen [] xs n there e = ap (λ (ys : List (List ℕ)). length ys + 0) (filter_new xs) ∙ omega arith
left_untied signals seen (f ∷ fs) xs n there e =
    let both = fits (not (has_name signals f) || has_name seen f) f (bad_formal_after signals (f ∷ seen) fs) e in
    let among : has_name signals f ≡ true = not_not (has_name signals f) (or_parts (not (has_name signals f)) (has_name seen f) both.0).0 in
    let later : has_name fs f ≡ false = not_seen signals (f ∷ seen) fs f both.1 (ap (λ (b : Bool). b || has_name seen f) ((bytes_eq-Decides f f).1 refl)) in
    let rest : length (filter (λ n. not (has_name fs n)) xs) + length fs ≡ length xs = left_untied signals (f ∷ seen) fs xs n there both.1 in
    let one : suc (length (filter (λ n. not (bytes_eq n f || has_name fs n)) xs)) ≡ length (filter (λ n. not (has_name fs n)) xs) = one_out fs xs f n (there f among) later in
    omega (arith, rest, one) where
      not_not : (b : Bool) → not b ≡ false → b ≡ true
      not_not true e = refl
      not_not false e = cc

among_more : (xs ys : List (List ℕ)) (n : List ℕ) → has_name xs n ≡ true → has_name (xs ++ ys) n ≡ true
among_more xs ys n e = list_any-append (bytes_eq n) xs ys ∙ or_left (has_name xs n) (has_name ys n) e

-- the signals of an interface are signals of the model
pub interface_among : (m : BlifModel) (n : List ℕ) → has_name (interface_of m) n ≡ true → has_name (signals_of m) n ≡ true
unfolding signals_of
interface_among m n e =
    once_has_same (named_in m) n
    ∙ among_more _ _ n (among_more _ _ n (among_more (interface_of m) _ n e))

-- a name on a card of a model is a signal of it
pub named_among : (m : BlifModel) (n : List ℕ) → has_name (named_in m) n ≡ true → has_name (signals_of m) n ≡ true
unfolding signals_of
named_among m n e = once_has_same (named_in m) n ∙ e
