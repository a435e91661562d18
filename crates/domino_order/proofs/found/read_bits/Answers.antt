use Rattle.std.proofs.Common.{ℕ, ◌++◌, ◌∷◌, [], Bool, List, arith, ap₂, sym, ◌∙◌}
use Rattle.std.specs.Prelude.{eqb}
use Rattle.std.proofs.lemmas.List.FromFn.{map-range_with_len_more}
use Rattle.bdd_ops.specs.Ops.{bits_in}
use Rattle.domino_order.proofs.found.read_bits.Goals as goal

pub loop-x-preserved : goal.loop-x-preserved
loop-x-preserved c =
    c.in_ok-append.ensures
    ∙ ap₂ (λ (bits : List Bool) (word : ℕ). bits ++ eqb word 1 ∷ []) c.loop-x.invariant c.read-word.ensures
    ∙ sym (map-range_with_len_more (bits_in c.args.store.now.words c.args.words.start) 0 c.loop-x.x c.loop-x.x (omega arith))
