-- Lists of names.
use Rattle.std.proofs.Common.{◌≡◌, eqb, ◌<◌, ◌++◌, ℕ, List, [], ap, arith, length, ◌∙◌}
use Rattle.text_lines.proofs.Splits.{first_part}
use Rattle.mode_lines.specs.Lists.{cut}
use Rattle.mode_lines.specs.NameLists.{lowered}

-- there is always a name
pub some_name : (list : List ℕ) (before names : List (List ℕ)) → before ≡ [] → names ≡ before ++ lowered (cut list) → 0 < length names
some_name list before names none are =
    let first = first_part (λ b. eqb b 44) list in
    omega (arith, ap length (are ∙ ap (λ (xs : List (List ℕ)). xs ++ lowered (cut list)) none ∙ ap lowered first.2))
