-- Things by their names.
use Rattle.std.proofs.Common.{◌≡◌, ◌<◌, ℕ, cond, List, Bool, true, length, Some, None, ap, sym, ◌∙◌}
use Rattle.std.specs.Prelude.{nat_lt, position}
use Rattle.std.specs.List.{list_any, position_or_len}
use Rattle.std.proofs.Common.{arith}
use Rattle.std.proofs.lemmas.Bool.Decides.{nat_tests}
use Rattle.std.proofs.lemmas.Option.{none-some}
use Rattle.cell_inside.proofs.ShiftedPlaces.{prefix_below}

-- what is in a list has a place there
pub position_there : {X : Type 0} (p : X → Bool) (xs : List X) → list_any p xs ≡ true → position p xs ≡ None → ⊥
position_there p xs h e = within (position_or_len p xs) (length xs) (prefix_below p xs h) e
  where
    within : (n count : ℕ) → n < count → cond (nat_lt n count) (Some n) None ≡ None → ⊥
    within n count lt e = let t : nat_lt n count ≡ true = grind (arith, nat_tests, lt) in none-some n (sym e ∙ ap (λ (b : Bool). cond b (Some n) None) t)
