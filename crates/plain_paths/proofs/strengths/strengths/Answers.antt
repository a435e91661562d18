use Rattle.std.proofs.Common.{List, ℕ, drop, length, slice_index, arith, subst, sym}
use Rattle.std.proofs.lemmas.List.{take_at}
use Rattle.vrt_model.specs.Response.{IsStrength}
use Rattle.plain_paths.proofs.strengths.strengths.Goals as goal

pub returns-clause-strength : goal.returns-clause-strength
returns-clause-strength c w over bounded has n =
    subst (λ (t : List ℕ). IsStrength w n (slice_index t n))
    (sym (take_at c.raise_strengths.new.table (drop (length c.raise_strengths.new.table) c.in_ok-table.table.items) c.in_ok-table.table.len (omega arith)))
    (c.raise_strengths.ensures w over bounded has n)
