use Rattle.std.proofs.Common.{ap, subst, ◌∙◌, ◌++◌, ◌∷◌, [], List, ℕ}
use Rattle.std.specs.Str.{str_to_ascii_lowercase}
use Rattle.name_tables.specs.Tables.{IsTable, named}
use Rattle.latch_match.proofs.lookups.add_lowered.Goals as goal

pub returns : goal.returns
returns c = λ entries t.
    subst (λ (n : List ℕ). IsTable (entries ++ named n c.args.signal ∷ []) c.add.new.self) (c.as_bytes.ensures ∙ c.in_ok-name.ensures ∙ ap str_to_ascii_lowercase c.signal_name.ensures) (c.in_ok-add.ensures entries t)
