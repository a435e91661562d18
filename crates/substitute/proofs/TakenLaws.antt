-- Outputs at nets, where those of one more instance come.
use Rattle.std.proofs.Common.{◌≡◌, ℕ, zero, suc, ◌+◌, ◌<◌, ◌==◌, ◌&&◌, ◌||◌, Bool, true, false, not, List, [], ◌∷◌, length, map, replicate, slice_set, arith, ap, ap₂, refl, sym, ◌∙◌}
use Rattle.std.specs.List.{enumerate_from, list_all}
use Rattle.std.proofs.lemmas.Bool.Decides.{nat_tests}
use Rattle.std.proofs.lemmas.List.Folds.{list_all-append}
use Rattle.whole_circuits.specs.Outputs.{output_at, own_outputs}
use Rattle.whole_circuits.specs.Taken.{admits, joins, may_meet, taken_at}
use Rattle.whole_circuits.specs.declared.taken.Taken.{Taken}
use Rattle.whole_circuits.specs.declared.taken.Taken.TheVariants.{Free}
use Rattle.vrt_model.specs.declared.whole.Drive.{Drive}
use Rattle.vrt_model.specs.declared.whole.WholePin.{WholePin}
use Rattle.substitute.specs.Taken.{TakenGrow, may_meet_pin}

and_true : (b : Bool) → (b && true) ≡ b
and_true true = refl
and_true false = refl

module _ (n : ℕ) (drive : Drive) (number : ℕ) where
  pins_same : (at : ℕ) (pins : List WholePin) → list_all (may_meet n drive) (map (output_at number) (enumerate_from at pins)) ≡ list_all (may_meet_pin n drive) pins
  pins_same at [] = refl
  pins_same at (p ∷ pins) = ap (λ (b : Bool). may_meet_pin n drive p && b) (pins_same (at + 1) pins)

pub taken_grow : TakenGrow
taken_grow earlier number pins old new taken more n drive =
    more n drive
    ∙ ap₂ (λ (a b : Bool). a && b) (taken n drive) (sym (pins_same n drive number 0 pins))
    ∙ sym (list_all-append (may_meet n drive) earlier (own_outputs number pins))

-- ---- no output

pub none_taken : (n m : ℕ) → taken_at (replicate n Free) m ≡ Free
none_taken zero m = refl
none_taken (suc n) zero = refl
none_taken (suc n) (suc m) = none_taken n m

-- ---- one output

module _ (drive : Drive) (joined : Taken) where
  -- a net at which one output comes
  pub taken_one : (taken : List Taken) (net : ℕ) → net < length taken → ((own : Drive) → admits joined own ≡ (admits (taken_at taken net) own && joins own drive))
      → (n : ℕ) (own : Drive) → admits (taken_at (slice_set taken net joined) n) own ≡ (admits (taken_at taken n) own && (not (net == n) || joins own drive))
  taken_one [] net lt is n own = absurd (let no : ⊥ = omega (arith, lt) in no)
  taken_one (x ∷ taken) zero lt is zero own =
      let here : (0 == 0) ≡ true = grind (arith, nat_tests) in is own ∙ ap (λ (b : Bool). admits x own && (not b || joins own drive)) (sym here)
  taken_one (x ∷ taken) zero lt is (suc n) own =
      let other : (0 == suc n) ≡ false = grind (arith, nat_tests) in sym (and_true (admits (taken_at taken n) own)) ∙ ap (λ (b : Bool). admits (taken_at taken n) own && (not b || joins own drive)) (sym other)
  taken_one (x ∷ taken) (suc net) lt is zero own =
      let other : (suc net == 0) ≡ false = grind (arith, nat_tests) in sym (and_true (admits x own)) ∙ ap (λ (b : Bool). admits x own && (not b || joins own drive)) (sym other)
  taken_one (x ∷ taken) (suc net) lt is (suc n) own =
      let same : (suc net == suc n) ≡ (net == n) = grind (arith, nat_tests) in
      taken_one taken net (omega (arith, lt)) is n own ∙ ap (λ (b : Bool). admits (taken_at taken n) own && (not b || joins own drive)) (sym same)
