-- Lists with the places of their items, and lists of which the items fit one for one.
use Rattle.std.proofs.Common.{◌≡◌, ◌+◌, ◌∷◌, [], ℕ, zero, suc, List, Some, refl, ap, ap₂, sym, ◌∙◌, subst, arith}
use Rattle.std.specs.List.{AllZip, enumerate_from}
use Rattle.std.proofs.lemmas.Option.{none-some, same_Some}
use Rattle.vrt_model.proofs.Members.{among_later}
use Rattle.vrt_model.specs.Lists.{Among, At}

-- ---- places

pub enumerated : {X : Type 0} (k : ℕ) (xs : List X) (pair : ℕ × X) → Among (enumerate_from k xs) pair → (i : ℕ) × (pair.0 ≡ k + i) × At xs i pair.1
enumerated k [] pair m = absurd (none-some pair m.1)
enumerated {X} k (x ∷ xs) pair (zero, e) =
    let same = same_Some (k, x) pair e in (0, sym (ap (λ (q : ℕ × X). q.0) same) ∙ omega arith, ap (λ (q : ℕ × X). Some q.1) same)
enumerated k (x ∷ xs) pair (suc j, e) = let rest = enumerated (k + 1) xs pair (j, e) in (suc rest.0, (let next = rest.1 in omega (arith, next)), rest.2)

pub in_enumerated : {X : Type 0} (k : ℕ) (xs : List X) (i : ℕ) (x : X) → At xs i x → Among (enumerate_from k xs) (k + i, x)
in_enumerated k [] i x e = absurd (none-some x e)
in_enumerated {X} k (y ∷ xs) zero x e = (0, ap₂ (λ (n : ℕ) (z : X). Some (n, z)) (omega arith) (same_Some y x e))
in_enumerated {X} k (y ∷ xs) (suc i) x e =
    let rest = in_enumerated (k + 1) xs i x e in
    subst (λ (n : ℕ). Among ((k, y) ∷ enumerate_from (k + 1) xs) (n, x)) (omega arith) (suc rest.0, rest.1)

-- ---- lists that fit

pub zip_left : {X Y : Type 0} (R : X → Y → Type 0) (xs : List X) (ys : List Y) (x : X) → AllZip R xs ys → Among xs x → (y : Y) × Among ys y × R x y
zip_left R [] ys x h m = absurd (none-some x m.1)
zip_left R (z ∷ xs) [] x h m = absurd h
zip_left {X} {Y} R (z ∷ xs) (y ∷ ys) x h (zero, e) = (y, (0, refl), subst (λ (w : X). R w y) (same_Some z x e) h.0)
zip_left R (z ∷ xs) (y ∷ ys) x h (suc i, e) = let rest = zip_left R xs ys x h.1 (i, e) in (rest.0, among_later y ys rest.0 rest.1, rest.2)

pub zip_right : {X Y : Type 0} (R : X → Y → Type 0) (xs : List X) (ys : List Y) (y : Y) → AllZip R xs ys → Among ys y → (x : X) × Among xs x × R x y
zip_right R xs [] y h m = absurd (none-some y m.1)
zip_right R [] (z ∷ ys) y h m = absurd h
zip_right {X} {Y} R (x ∷ xs) (z ∷ ys) y h (zero, e) = (x, (0, refl), subst (λ (w : Y). R x w) (same_Some z y e) h.0)
zip_right R (x ∷ xs) (z ∷ ys) y h (suc i, e) = let rest = zip_right R xs ys y h.1 (i, e) in (rest.0, among_later x xs rest.0 rest.1, rest.2)
