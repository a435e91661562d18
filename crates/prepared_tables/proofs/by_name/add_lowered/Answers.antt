use Rattle.std.proofs.Common.{ℕ, List, ap, subst, ◌∙◌}
use Rattle.std.specs.Str.{str_to_ascii_lowercase}
use Rattle.name_tables.specs.Tables.{Adds}
use Rattle.prepared_tables.proofs.by_name.add_lowered.Goals as goal

pub returns : goal.returns
returns c =
    subst (λ (n : List ℕ). Adds n c.args.number c.args.table.now c.add.new.self) (c.as_bytes-2.ensures ∙ c.in_ok-low.ensures ∙ ap str_to_ascii_lowercase c.as_bytes.ensures) c.in_ok-add.ensures
