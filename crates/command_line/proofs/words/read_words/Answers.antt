use Rattle.std.proofs.Common.{inl, inr, subst}
use Rattle.command_line.specs.Steps.{IsRefusal}
use Rattle.command_line.proofs.words.read_words.Goals as goal

pub returns-clause-usage : goal.returns-clause-usage
returns-clause-usage c = λ e.
    let causes = subst (IsRefusal c.in-Err.cause) e c.refusal.ensures in
    elim c.in-Err.ensures.refused [
      | inl memory ↦ absurd (causes.0 memory)
      | inr is ↦ inl (c.in-Err.cause, is, causes.1, causes.2)
    ]
