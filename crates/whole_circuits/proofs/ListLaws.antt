-- Lists with numbers.
use Rattle.std.proofs.Common.{◌≡◌, ℕ, zero, suc, ◌+◌, List, [], ◌∷◌, Some, ap, ap₂, arith, subst, ◌∙◌}
use Rattle.std.specs.List.{enumerate_from}
use Rattle.std.proofs.lemmas.Option.{none-some, same_Some}
use Rattle.checked_chain.proofs.ChoiceLaws.{numbered}
use Rattle.vrt_model.proofs.Lists.{map_at}
use Rattle.vrt_model.specs.Cut.{numbered_places}
use Rattle.vrt_model.specs.Lists.{At}
use Rattle.vrt_model.specs.Unrolled.{Place, Top, all_places}

enumerated_at : {X : Type 0} (n : ℕ) (xs : List X) (i : ℕ) (x : X) → At xs i x → At (enumerate_from n xs) i (n + i, x)
enumerated_at n [] i x e = absurd (none-some x e)
enumerated_at {X} n (y ∷ xs) zero x e =
    let number : n ≡ n + 0 = omega arith in ap₂ (λ (k : ℕ) (z : X). let q : ℕ × X = (k, z) in Some q) number (same_Some y x e)
enumerated_at {X} n (y ∷ xs) (suc i) x e =
    let number : (n + 1) + i ≡ n + suc i = omega arith in
    enumerated_at (n + 1) xs i x e ∙ ap (λ (k : ℕ). let q : ℕ × X = (k, x) in Some q) number

-- an item stands with its place
pub placed : {X : Type 0} (xs : List X) (i : ℕ) (x : X) → At xs i x → At (enumerate_from 0 xs) i (i, x)
placed xs i x e = let number : 0 + i ≡ i = omega arith in subst (λ (n : ℕ). At (enumerate_from 0 xs) i (n, x)) number (enumerated_at 0 xs i x e)

-- so does a place of an unrolled cell
pub place_numbered : (t : Top) (i : ℕ) (at : Place) → At (all_places t) i at → At (numbered_places t) i (record { number = i; at = at })
place_numbered t i at e = map_at numbered (enumerate_from 0 (all_places t)) i (i, at) (placed (all_places t) i at e)
