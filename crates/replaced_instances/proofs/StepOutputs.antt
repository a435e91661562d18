-- The outputs of the instance that comes to be whole stand behind those that were there.
use Rattle.std.proofs.Common.{◌≡◌, ◌++◌, ◌<◌, ◌≤◌, ◌&&◌, ◌∷◌, [], ℕ, zero, suc, cond, List, Bool, true, false, refl, ap, ap₂, sym, ◌∙◌, subst, arith, append-nil}
use Rattle.std.specs.Prelude.{filter, flat_map, nat_lt}
use Rattle.std.proofs.lemmas.Bool.{and_from, and_right}
use Rattle.std.proofs.lemmas.Bool.Decides.{nat_tests}
use Rattle.std.proofs.lemmas.Grind.{flat_map-append}
use Rattle.std.proofs.lemmas.Option.{none-some, same_Some}
use Rattle.checked_chain.proofs.ChoiceLaws.{numbered_at}
use Rattle.vrt_model.proofs.Lists.{filter_among_same, filter_none}
use Rattle.vrt_model.specs.Checked.{before}
use Rattle.vrt_model.specs.Cut.{Cut, NumberedPlace, is_whole, numbered_places, whole_places}
use Rattle.vrt_model.specs.Lists.{At}
use Rattle.vrt_model.specs.WholeInstances.{all_outputs, outputs_of_place}
use Rattle.vrt_model.specs.declared.blif.Blif.{Blif}
use Rattle.vrt_model.specs.declared.whole.CellFacts.{CellFacts}

-- one item more passes a test, and nothing behind it does
one_more_passes : {X : Type 0} (f g : X → Bool) (xs : List X) (n : ℕ) (x : X) → At xs n x → g x ≡ true
    → ((i : ℕ) (y : X) → At xs i y → i < n → f y ≡ g y) → ((i : ℕ) (y : X) → At xs i y → n ≤ i → f y ≡ false) → ((i : ℕ) (y : X) → At xs i y → n < i → g y ≡ false)
    → filter g xs ≡ filter f xs ++ x ∷ []
one_more_passes f g [] n x here pass same none later = absurd (none-some x here)
one_more_passes {X} f g (y ∷ ys) zero x here pass same none later =
    let is = same_Some y x here in
    let of_g : filter g ys ≡ [] = filter_among_same g (λ z. false) ys (λ z m. later (suc m.0) z m.1 (omega arith)) ∙ filter_none (λ (z : X). false) ys (λ z. refl) in
    let of_f : filter f ys ≡ [] = filter_among_same f (λ z. false) ys (λ z m. none (suc m.0) z m.1 (omega arith)) ∙ filter_none (λ (z : X). false) ys (λ z. refl) in
    ap₂ (λ (b : Bool) (zs : List X). cond b (y ∷ zs) zs) (ap g is ∙ pass) of_g
    ∙ ap (λ (z : X). z ∷ []) is
    ∙ sym (ap₂ (λ (b : Bool) (zs : List X). cond b (y ∷ zs) zs ++ x ∷ []) (none 0 y refl (omega arith)) of_f)
one_more_passes {X} f g (y ∷ ys) (suc n) x here pass same none later =
    let rest = one_more_passes f g ys n x here pass (λ i z e lt. same (suc i) z e (omega (arith, lt))) (λ i z e le. none (suc i) z e (omega (arith, le))) (λ i z e lt. later (suc i) z e (omega (arith, lt))) in
    ap₂ (λ (b : Bool) (zs : List X). cond b (y ∷ zs) zs) (sym (same 0 y refl (omega arith))) rest ∙ by_test (f y)
  where
    by_test : (b : Bool) → cond b (y ∷ (filter f ys ++ x ∷ [])) (filter f ys ++ x ∷ []) ≡ cond b (y ∷ filter f ys) (filter f ys) ++ x ∷ []
    by_test true = refl
    by_test false = refl

module _ (cut : Cut) (i : ℕ) (p : NumberedPlace) (here : At (numbered_places cut.top) (suc i) p) (chosen : cut.choice i ≡ true) where
  whole_alike : (n : ℕ) → n < suc i → is_whole (before cut i).choice n ≡ is_whole (before cut (suc i)).choice n
  whole_alike zero lt = refl
  whole_alike (suc j) lt =
      let low : nat_lt j i ≡ true = grind (arith, nat_tests, lt) in
      let high : nat_lt j (suc i) ≡ true = grind (arith, nat_tests, lt) in
      ap (λ (b : Bool). cut.choice j && b) (low ∙ sym high)

  pub none_behind : (k n : ℕ) → k < n → is_whole (before cut k).choice n ≡ false
  none_behind k zero lt = refl
  none_behind k (suc j) lt = let high : nat_lt j k ≡ false = grind (arith, nat_tests, lt) in and_right (cut.choice j) (nat_lt j k) high

  number_at : (j : ℕ) (q : NumberedPlace) → At (numbered_places cut.top) j q → q.number ≡ j
  number_at j q e = (numbered_at cut.top j q e).0

  -- one place more is whole
  pub one_more_place : whole_places (before cut (suc i)) ≡ whole_places (before cut i) ++ p ∷ []
  one_more_place =
      let number = number_at (suc i) p here in
      let last : is_whole (before cut (suc i)).choice (suc i) ≡ true = and_from (cut.choice i) (nat_lt i (suc i)) chosen (grind (arith, nat_tests)) in
      one_more_passes (λ (q : NumberedPlace). is_whole (before cut i).choice q.number) (λ (q : NumberedPlace). is_whole (before cut (suc i)).choice q.number) (numbered_places cut.top) (suc i) p here
      (subst (λ (n : ℕ). is_whole (before cut (suc i)).choice n ≡ true) (sym number) last)
      (λ j q e lt. whole_alike q.number (let is = number_at j q e in omega (arith, is, lt)))
      (λ j q e le. none_behind i q.number (let is = number_at j q e in omega (arith, is, le)))
      (λ j q e lt. none_behind (suc i) q.number (let is = number_at j q e in omega (arith, is, lt)))

  pub outputs_behind : (blif : Blif) (facts : List CellFacts)
      → all_outputs (before cut (suc i)) blif facts ≡ all_outputs (before cut i) blif facts ++ outputs_of_place cut.top blif facts p
  outputs_behind blif facts =
      ap (flat_map (outputs_of_place cut.top blif facts)) one_more_place
      ∙ flat_map-append (outputs_of_place cut.top blif facts) (whole_places (before cut i)) (p ∷ [])
      ∙ ap (λ os. all_outputs (before cut i) blif facts ++ os) (append-nil (outputs_of_place cut.top blif facts p))
