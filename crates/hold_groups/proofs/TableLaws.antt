-- Names and the set of them.
use Rattle.std.proofs.Common.{◌≡◌, ℕ, suc, ◌+◌, ◌++◌, ◌∷◌, [], List, Bool, true, false, cond, length, length-append, append_assoc, append-nil, arith, ap, sym, ◌∙◌}
use Rattle.std.specs.Prelude.{bytes_eq, position}
use Rattle.names.proofs.NameLaws.{among_names, length-with_names}
use Rattle.names.specs.Names.{with_names}
use Rattle.vrt_model.specs.Lists.{has_name}

-- the set has the names of the list
pub has_same : (list names : List (List ℕ)) (name : List ℕ) → names ≡ with_names [] list → has_name names name ≡ has_name list name
has_same list names name e = ap (λ (ns : List (List ℕ)). has_name ns name) e ∙ among_names [] list name

-- as many names as there are in the list are the list
all_new : (names xs : List (List ℕ)) → length (with_names names xs) ≡ length names + length xs → with_names names xs ≡ names ++ xs
all_new names [] e = sym (append-nil names)
all_new names (x ∷ xs) e = by_test (has_name names x) (all_new (names ++ x ∷ []) xs) e
  where
    by_test : (b : Bool)
        → (length (with_names (names ++ x ∷ []) xs) ≡ length (names ++ x ∷ []) + length xs → with_names (names ++ x ∷ []) xs ≡ (names ++ x ∷ []) ++ xs)
        → length (with_names (cond b names (names ++ x ∷ [])) xs) ≡ length names + suc (length xs)
        → with_names (cond b names (names ++ x ∷ [])) xs ≡ names ++ x ∷ xs
    by_test true rest e = let h = length-with_names names xs in absurd (omega (arith, h, e))
    by_test false rest e = let len = length-append names (x ∷ []) in rest (omega (arith, e, len)) ∙ append_assoc names (x ∷ []) xs

pub place_same : (list names : List (List ℕ)) (name : List ℕ) → names ≡ with_names [] list → length names ≡ length list → position (bytes_eq name) names ≡ position (bytes_eq name) list
place_same list names name e len = ap (λ (ns : List (List ℕ)). position (bytes_eq name) ns) (e ∙ all_new [] list (let same : length (with_names [] list) ≡ length names = ap (λ (ns : List (List ℕ)). length ns) (sym e) in omega (arith, same, len)))
