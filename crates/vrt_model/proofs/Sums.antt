-- Laws of sums over lists, and of numbers that are carried up to the greatest.
use Rattle.std.proofs.Common.{◌≡◌, ℕ, ◌+◌, List, [], ◌∷◌, flat_map, arith, ap, ap₂, refl, sym, ◌∙◌}
use Rattle.std.specs.List.{sum_by}
use Rattle.std.proofs.lemmas.List.Sums.{sum_by-append, sum_by-cons}
use Rattle.vrt_model.specs.Unsupported.{carried}

-- ---- sums

-- two weights that agree have the same sum
pub sum_same : {X : Type 0} (f g : X → ℕ) → ((x : X) → f x ≡ g x) → (xs : List X) → sum_by f xs ≡ sum_by g xs
sum_same f g h [] = refl
sum_same f g h (x ∷ xs) = sum_by-cons f x xs ∙ ap₂ ◌+◌ (h x) (sum_same f g h xs) ∙ sym (sum_by-cons g x xs)

-- the sum over lists put together is the sum of the sums over each
pub sum_flat : {X Y : Type 0} (f : X → List Y) (g : Y → ℕ) (xs : List X) → sum_by g (flat_map f xs) ≡ sum_by (λ x. sum_by g (f x)) xs
sum_flat f g [] = refl
sum_flat f g (x ∷ xs) =
    sum_by-append g (f x) (flat_map f xs) ∙ ap (λ n. sum_by g (f x) + n) (sum_flat f g xs) ∙ sym (sum_by-cons (λ x. sum_by g (f x)) x xs)

-- ---- numbers carried up to the greatest

-- what is carried already stays
pub carried_once : (n : ℕ) → carried (carried n) ≡ carried n
carried_once n = omega arith

-- sums of numbers that are carried alike are carried alike
pub carried_both : (a b c d : ℕ) → carried a ≡ carried c → carried b ≡ carried d → carried (a + b) ≡ carried (c + d)
carried_both a b c d e f = omega (arith, e, f)
