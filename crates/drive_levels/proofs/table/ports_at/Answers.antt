use Rattle.std.proofs.Common.{ℕ, List, Option, None, ap, length, ◌∙◌}
use Rattle.std.proofs.lemmas.List.{length-replicate}
use Rattle.drive_levels.proofs.table.ports_at.Goals as goal

pub returns-clause-len : goal.returns-clause-len
returns-clause-len c = ap (λ (xs : List (Option ℕ)). length xs) c.in_ok-levels.ensures ∙ length-replicate c.len.result None ∙ c.len.ensures
