use Rattle.std.proofs.Common.{◌≡◌, [], true, refl, sym, subst, inl, inr, ◌∙◌}
use Rattle.clap.specs.Faults.{fault_of, is_simple_and_free}
use Rattle.clap.specs.Kinds.{HasKind, IsAmong, Kinds}
use Rattle.clap.specs.Simple.{argument_words, built}
use Rattle.clap.specs.Walk.{nothing_held}
use Rattle.clap.specs.Words.{App, HasMatchesOf}
use Rattle.command_line.specs.Command.{refusals, rows_for, simple_command, texts}
use Rattle.command_line.proofs.OneCause.{one_cause, the_cause}
use Rattle.command_line.proofs.command.parse.Goals as goal

pub returns-in-Ok-try_get_matches_from-clause-taken : goal.returns-in-Ok-try_get_matches_from-clause-taken
unfolding refusals
returns-in-Ok-try_get_matches_from-clause-taken c =
    subst (λ (a : App). is_simple_and_free a ≡ true → fault_of a (texts c.args.words.now) ≡ []) c.in-Ok.ensures c.in-Ok-try_get_matches_from.ensures.kinds refl

pub returns-in-Ok-try_get_matches_from-clause-rows :
    goal.returns-in-Ok-try_get_matches_from-clause-rows
unfolding rows_for
returns-in-Ok-try_get_matches_from-clause-rows c =
    ((subst (λ (a : App). HasMatchesOf a (texts c.args.words.now) c.in-Ok-try_get_matches_from.matches) c.in-Ok.ensures
    c.in-Ok-try_get_matches_from.ensures.matches) refl).0

pub returns-in-Err-clause-refused : goal.returns-in-Err-clause-refused
unfolding refusals
returns-in-Err-clause-refused c =
    let causes : Kinds = fault_of simple_command (texts c.args.words.now) in
    let has : HasKind causes c.in-Err.error =
    subst (λ (a : App). is_simple_and_free a ≡ true → HasKind (fault_of a (texts c.args.words.now)) c.in-Err.error) c.in-Ok.ensures c.in-Err.ensures.kinds refl in
    elim has [
      | inl memory ↦ inl (c.kind.ensures ∙ memory)
      | inr among ↦ inr (the_cause causes c.kind.result (one_cause (built simple_command).top nothing_held (argument_words (built simple_command) (texts c.args.words.now)) refl) (subst (λ k. IsAmong k causes) (sym c.kind.ensures) among))
    ]
