use Rattle.std.proofs.Common.{◌∙◌}
use Rattle.verilog_models.proofs.ModelLaws.{model_made}
use Rattle.verilog_models.proofs.draft.Draft.finish.Goals as goal

pub returns : goal.returns
returns c =
    λ m h. rw (c.new.ensures, c.new-2.ensures, c.new-3.ensures, c.new-4.ensures, c.into_covers.ensures)
    (model_made m c.args.self _ _ _ _ _ h (c.as_slice-listed.ensures ∙ c.in_ok-names.ensures) c.in_ok-inputs.ensures c.in_ok-outputs.ensures)
