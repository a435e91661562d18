-- A form that is filled for one more place.
use Rattle.std.proofs.Common.{◌≡◌, ◌+◌, ◌++◌, [], ◌∷◌, ℕ, List, map, ap, sym, ◌∙◌, append-nil, arith}
use Rattle.std.proofs.lemmas.Grind.{flat_map-append}
use Rattle.std.proofs.lemmas.List.Folds.{flat_map-map}
use Rattle.std.proofs.lemmas.List.FromFn.{map-range_with_len_more}
use Rattle.std.specs.List.{flat_map, range_with_len}
use Rattle.generator.specs.Forms.{filled, for_each}

-- a place more is filled behind the others
pub for_each_more : (form : List ℕ) (size : ℕ) → for_each (size + 1) form ≡ for_each size form ++ filled form size
for_each_more form size =
    let same : ℕ → ℕ = λ n. n in
    sym (flat_map-map (filled form) same (range_with_len 0 (size + 1)))
    ∙ ap (flat_map (filled form)) (map-range_with_len_more same 0 size size (omega arith))
    ∙ flat_map-append (filled form) (map same (range_with_len 0 size)) (size ∷ [])
    ∙ ap (λ front. front ++ (filled form size ++ [])) (flat_map-map (filled form) same (range_with_len 0 size))
    ∙ ap (λ last. for_each size form ++ last) (append-nil (filled form size))
