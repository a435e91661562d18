use Rattle.std.proofs.Common.{ℕ, ◌++◌, ◌∷◌, [], List, ap₂, arith, sym, ◌∙◌}
use Rattle.domino_order.proofs.MadeLaws.{range_more}
use Rattle.domino_order.proofs.made.numbers.Goals as goal

pub loop-x-preserved : goal.loop-x-preserved
loop-x-preserved c =
    c.in_ok-append.ensures ∙ ap₂ (λ (xs : List ℕ) (x : ℕ). xs ++ x ∷ []) c.loop-x.invariant (omega arith) ∙ sym (range_more 0 c.loop-x.x)
