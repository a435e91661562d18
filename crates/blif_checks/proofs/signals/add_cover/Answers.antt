use Rattle.std.proofs.Common.{[], ◌∷◌, ap, ◌∙◌, List, ℕ}
use Rattle.names.specs.Names.{with_names}
use Rattle.blif_checks.proofs.MentionLaws.{names_joined}
use Rattle.blif_checks.proofs.signals.add_cover.Goals as goal

pub returns : goal.returns
returns c =
    names_joined c.args.names.now c.add_all.new.self c.number.new.self c.args.cover.now.inputs (c.args.cover.now.output ∷ []) (c.in_ok-add_all.ensures ∙ ap (with_names c.args.names.now) c.as_slice.ensures)
    (c.in_ok-number.ensures.names ∙ ap (λ (b : List ℕ). with_names c.add_all.new.self (b ∷ [])) c.as_bytes.ensures)
