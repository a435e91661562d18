use Rattle.std.proofs.Common.{ap, sym, ◌∙◌, List, ℕ}
use Rattle.std.specs.Prelude.{bytes_eq, option_and_then, position}
use Rattle.vrt_model.specs.declared.blif.BlifModel.{BlifModel}
use Rattle.latch_match.proofs.models.named_by.Goals as goal

pub returns-in-Some : goal.returns-in-Some
returns-in-Some c =
    c.first_named.ensures ∙ ap (λ (n : List ℕ). position (λ (m : BlifModel). bytes_eq m.name n) c.args.models.now) c.as_bytes.ensures
    ∙ sym (ap (option_and_then (λ (n : List ℕ). position (λ (m : BlifModel). bytes_eq m.name n) c.args.models.now)) c.in-Some.is)
