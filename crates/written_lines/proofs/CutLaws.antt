-- The first line of a text.
use Rattle.std.proofs.Common.{◌≡◌, ◌+◌, ◌-◌, ◌∷◌, ◌++◌, [], ℕ, List, Some, None, ap, drop, length, sym, take, ◌==◌, ◌∙◌}
use Rattle.std.specs.List.{position, slice_split}
use Rattle.text_lines.proofs.Splits.{first_part, rest_is, split_none, split_some}
use Rattle.text_lines.specs.Bytes.{kept}
use Rattle.written_lines.specs.Lines.{ended_parts, lines_in}

parts_more : (x y : List ℕ) (more parts : List (List ℕ)) → parts ≡ y ∷ more → ended_parts (x ∷ parts) ≡ (x ++ 10 ∷ []) ∷ ended_parts parts
parts_more x y more parts e =
    ap (λ (ps : List (List ℕ)). ended_parts (x ∷ ps)) e ∙ ap (λ (ps : List (List ℕ)). (x ++ 10 ∷ []) ∷ ended_parts ps) (sym e)

-- what stands before the first line feed is the first line, with that line feed
pub lines_cut : (xs : List ℕ) (n : ℕ) → Some n ≡ position (λ b. b == 10) xs → lines_in xs ≡ (take n xs ++ 10 ∷ []) ∷ lines_in (take (length xs - (n + 1)) (drop (n + 1) xs))
lines_cut xs n e =
    let rest = first_part (λ b. b == 10) (drop (n + 1) xs) in
    ap ended_parts (split_some _ xs n (sym e)) ∙ parts_more (take n xs) rest.0 rest.1 (slice_split (λ b. b == 10) (drop (n + 1) xs)) rest.2
    ∙ ap (λ (ys : List ℕ). (take n xs ++ 10 ∷ []) ∷ lines_in ys) (sym (rest_is (n + 1) xs))

-- without a line feed there is one line, or none
pub lines_last : (xs : List ℕ) → None ≡ position (λ b. b == 10) xs → lines_in xs ≡ kept xs
lines_last xs e = ap ended_parts (split_none _ xs (sym e))
