use Rattle.std.proofs.Common.{ap, sym, ◌∙◌, List, ℕ}
use Rattle.std.specs.Prelude.{bytes_eq, option_and_then, position}
use Rattle.vrt_model.specs.declared.blif.BlifModel.{BlifModel}
use Rattle.prepared_tables.proofs.pairs.named_by.Goals as goal

pub returns-in-Some : goal.returns-in-Some
returns-in-Some c = λ models are.
    c.named.ensures models are ∙ ap (λ (n : List ℕ). position (λ (m : BlifModel). bytes_eq m.name n) models) c.as_bytes.ensures
    ∙ sym (ap (option_and_then (λ (n : List ℕ). position (λ (m : BlifModel). bytes_eq m.name n) models)) c.in-Some.is)
