use Rattle.std.proofs.Common.{◌≡◌, ℕ, suc, ◌+◌, List, [], ◌∷◌, ◌++◌, length, arith, ap, ◌∙◌}
use Rattle.circuit_faults.specs.Keys.{part_keys, part_rank}
use Rattle.circuit_faults.proofs.step_keys.part_keys.Goals as goal

pub loop-number-init : goal.loop-number-init
loop-number-init c = c.new-keys.ensures.items

pub loop-number-preserved : goal.loop-number-preserved
loop-number-preserved c =
    let number = c.loop-number.number in
    let next : suc number ≡ number + 1 = omega arith in
    c.in_ok-append.ensures
    ∙ ap (λ (rank : ℕ). c.loop-number.keys.items ++ ((rank, 0), number) ∷ []) c.part_rank-rank.ensures
    ∙ ap (λ (keys : List ((ℕ × ℕ) × ℕ)). keys ++ ((part_rank c.args.parts.now number, 0), number) ∷ []) c.loop-number.invariant
    ∙ ap (part_keys c.args.parts.now) next

pub returns : goal.returns
returns c =
    let end : c.loop-number.number ≡ length c.args.parts.now = omega (arith, c.loop-number-test.false, c.loop-number.auto.number-end) in
    c.loop-number.invariant ∙ ap (part_keys c.args.parts.now) end
