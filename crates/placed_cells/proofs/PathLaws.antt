-- Paths that lead through a place: those to the places in it, and no others where the instances of each cell have different names.
use Rattle.std.proofs.Common.{◌≡◌, ◌<◌, ◌≤◌, ◌+◌, ◌-◌, ◌++◌, ◌∷◌, [], ℕ, zero, suc, List, true, false, length, refl, ap, ◌∙◌, subst, arith, length-append}
use Rattle.std.specs.Prelude.{bytes_eq, drop, nat_le}
use Rattle.std.proofs.lemmas.Bool.{and_from, and_parts, false_from_ne_true, le-leb, leb-true}
use Rattle.std.proofs.lemmas.Slice.Eq.{bytes_eq-Decides}
pub use Rattle.place_paths.proofs.PathLaws.{path_over}
use Rattle.place_paths.proofs.PathLaws.{same_count, same_step}
pub use Rattle.place_paths.specs.Paths.{step_at}
use Rattle.placed_cells.specs.Splits.{leads_through}
use Rattle.vrt_model.specs.FlatCircuit.{same_path}
use Rattle.vrt_model.specs.Unrolled.{Place, Step}

-- ---- paths

same_self : (xs : List Step) → same_path xs xs ≡ true
same_self [] = refl
same_self (x ∷ xs) = and_from (bytes_eq x.instance x.instance) (same_path xs xs) ((bytes_eq-Decides x.instance x.instance).1 refl) (same_self xs)

drop_few : (n : ℕ) (xs : List Step) → length (drop n xs) ≤ length xs
drop_few zero xs = omega arith
drop_few (suc n) [] = omega arith
drop_few (suc n) (x ∷ xs) = let rest = drop_few n xs in omega (arith, rest)

-- so is what is left of one behind its first steps
same_behind : (n : ℕ) (a b : List Step) (x y : Step) (rest : List Step) → same_path (drop n (a ++ x ∷ rest)) (b ++ y ∷ rest) ≡ true → bytes_eq x.instance y.instance ≡ true
same_behind zero a b x y rest e = same_step a b x y rest e
same_behind (suc n) [] b x y rest e =
    let count = same_count (drop n rest) (b ++ y ∷ rest) e in
    let both = length-append b (y ∷ rest) in
    let few = drop_few n rest in
    absurd (omega (arith, count, both, few))
same_behind (suc n) (z ∷ a) b x y rest e = same_behind n a b x y rest e

pub drop_front : (xs ys : List Step) → drop (length xs) (xs ++ ys) ≡ ys
drop_front [] ys = refl
drop_front (x ∷ xs) ys = drop_front xs ys

-- ---- through a place

-- a path of more steps before that to the place leads through it
pub leads : (r p : Place) (steps : List Step) → r.path ≡ steps ++ p.path → leads_through r p ≡ true
leads r p steps e =
    let count : length r.path ≡ length steps + length p.path = ap (λ (s : List Step). length s) e ∙ length-append steps p.path in
    let less : length r.path - length p.path ≡ length steps = omega (arith, count) in
    let behind : drop (length r.path - length p.path) r.path ≡ p.path = ap (λ (n : ℕ). drop n r.path) less ∙ ap (λ (s : List Step). drop (length steps) s) e ∙ drop_front steps p.path in
    and_from (nat_le (length p.path) (length r.path)) (same_path (drop (length r.path - length p.path) r.path) p.path) (le-leb (length p.path) (length r.path) (omega (arith, count)))
    (ap (λ (s : List Step). same_path s p.path) behind ∙ same_self p.path)

-- a shorter path does not
pub leads_not_short : (r p : Place) → length r.path < length p.path → leads_through r p ≡ false
leads_not_short r p lt =
    false_from_ne_true (leads_through r p)
    (λ e.
    let le = leb-true (length p.path) (length r.path) (and_parts (nat_le (length p.path) (length r.path)) (same_path (drop (length r.path - length p.path) r.path) p.path) e).0 in
    absurd (omega (arith, le, lt)))

-- nor does one over another step from the same place
pub leads_not_past : (r p : Place) (a b : List Step) (x y : Step) (rest : List Step) → r.path ≡ a ++ x ∷ rest → p.path ≡ b ++ y ∷ rest → (bytes_eq x.instance y.instance ≡ true → ⊥) → leads_through r p ≡ false
leads_not_past r p a b x y rest er ep apart = false_from_ne_true (leads_through r p) (λ e. apart (by (length r.path - length p.path) (and_parts (nat_le (length p.path) (length r.path)) (same_path (drop (length r.path - length p.path) r.path) p.path) e).1))
  where
    by : (n : ℕ) → same_path (drop n r.path) p.path ≡ true → bytes_eq x.instance y.instance ≡ true
    by n e = same_behind n a b x y rest (subst (λ (s : List Step). same_path (drop n s) (b ++ y ∷ rest) ≡ true) er (subst (λ (s : List Step). same_path (drop n r.path) s ≡ true) ep e))
